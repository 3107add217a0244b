-- `list_find::any_subs` meets its contract. Assumes nothing.
use Rattle.list_find.proofs.Laws.{any_some, any_none}
use Rattle.list_find.proofs.any_subs.Goals as goal

pub returns-then-is_subs-clause-value : goal.returns-then-is_subs-clause-value
returns-then-is_subs-clause-value c = any_some _ _ _ _ c.is_subs.ensures c.if-is_subs.true c.subs_at.ensures.value

pub returns-else-is_subs-clause-value : goal.returns-else-is_subs-clause-value
returns-else-is_subs-clause-value c = any_none _ _ _ _ c.is_subs.ensures c.if-is_subs.false
