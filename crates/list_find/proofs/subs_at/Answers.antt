-- `list_find::subs_at` meets its contract. Assumes nothing.
use Rattle.list_find.proofs.Laws.{subs-inside, subs-outside}
use Rattle.list_find.proofs.subs_at.Goals as goal

pub returns-then-is_inside-clause-value : goal.returns-then-is_inside-clause-value
returns-then-is_inside-clause-value c =
    subs-inside _ _ _ _ c.word-n.ensures.0 c.value_at-o.ensures c.is_inside.ensures c.if-is_inside.true c.subs.ensures.value

pub returns-else-is_inside-clause-value : goal.returns-else-is_inside-clause-value
returns-else-is_inside-clause-value c =
    subs-outside _ _ _ _ c.word-n.ensures.0 c.value_at-o.ensures c.is_inside.ensures c.if-is_inside.false
