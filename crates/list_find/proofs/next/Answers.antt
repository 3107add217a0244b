-- `list_find::next` meets its contract. Assumes nothing.
use native.Mathlib.Omega.{arith}
use Rattle.list_find.proofs.Laws.{whole_room}
use Rattle.list_find.proofs.next.Goals as goal

pub overflow_add-at : goal.overflow_add-at
overflow_add-at c = omega (arith, whole_room _ _ c.requires)

pub overflow_add-at-2 : goal.overflow_add-at-2
overflow_add-at-2 c = omega (arith, whole_room _ _ c.requires, c.half.ensures.0)

pub word-requires : goal.word-requires
word-requires c = omega (arith, whole_room _ _ c.requires, c.half.ensures.0)
