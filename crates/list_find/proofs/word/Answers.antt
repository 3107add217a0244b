-- `list_find::word` meets its contract: in the other order four bytes are put together from two and two. Assumes nothing.
use native.Mathlib.Omega.{arith}
use Rattle.list_find.proofs.Laws.{halves}
use Rattle.list_find.proofs.word.Goals as goal

pub returns-else-most : goal.returns-else-most
returns-else-most c =
    let a = c.args in (
      simp c.if-most.false (omega (arith, halves a.file.now a.at, c.u16_from.ensures, c.u16_from-else-most.ensures)),
      omega arith,
    )
