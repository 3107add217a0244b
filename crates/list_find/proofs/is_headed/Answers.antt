-- `list_find::is_headed` meets its contract. Assumes nothing.
use borrow.Author.Tests.{le-leb, lt-leb}
use Rattle.list_find.specs.Walk.{headed}
use Rattle.list_find.proofs.is_headed.Goals as goal

pub returns-then-file-lt8 : goal.returns-then-file-lt8
unfolding headed
returns-then-file-lt8 c = simp (lt-leb _ _ c.if-file-lt8.true)

pub returns : goal.returns
unfolding headed
returns c =
    simp (le-leb _ _ c.if-file-lt8.false, c.u16_at.ensures, c.u16_from.ensures)
