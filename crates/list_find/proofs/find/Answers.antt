-- `list_find::find` meets its contract. Assumes nothing.
use Prim.Native.Nat.{ℕ}
use mathlib.Core.Path.{ap, ◌∙◌}
use native.Mathlib.Omega.{arith}
use Rattle.num_zeros.proofs.Laws.{known-none}
use Rattle.list_find.specs.Walk.{file_of, tag_of, chain}
use Rattle.list_find.proofs.Fine.{headed-room, found_none, found-walk}
use Rattle.list_find.proofs.find.Goals as goal

pub returns-then-not-is_headed : goal.returns-then-not-is_headed
returns-then-not-is_headed c = found_none _ _ c.is_headed.ensures c.if-not-is_headed.true

pub bounds-file-0 : goal.bounds-file-0
bounds-file-0 c =
    omega (arith, headed-room _ c.is_headed.ensures c.if-not-is_headed.false)

pub word-requires : goal.word-requires
word-requires c =
    omega (arith, headed-room _ c.is_headed.ensures c.if-not-is_headed.false)

pub walk-requires : goal.walk-requires
walk-requires c = known-none _ 8192

pub returns : goal.returns
returns c =
    let a = c.args in
    let f = file_of a.file.now in
    found-walk _ _ c.is_headed.ensures c.if-not-is_headed.false
    (c.walk.ensures ∙ ap (λ (t : ℕ). chain f t 65 c.word.result 0) c.tag_of.ensures
    ∙ ap (λ (at : ℕ). chain f (tag_of a.which) 65 at 0) c.word.ensures.0)
