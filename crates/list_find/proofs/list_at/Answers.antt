-- `list_find::list_at` meets its contract. Assumes nothing.
use Rattle.list_find.proofs.Laws.{list_inside, list-outside}
use Rattle.list_find.proofs.list_at.Goals as goal

pub returns-then-is_inside : goal.returns-then-is_inside
returns-then-is_inside c =
    list_inside _ _ c.word-n.ensures.0 c.value_at-at.ensures c.is_inside.ensures c.if-is_inside.true

pub returns-else-is_inside : goal.returns-else-is_inside
returns-else-is_inside c =
    list-outside _ _ c.word-n.ensures.0 c.value_at-at.ensures c.is_inside.ensures c.if-is_inside.false
