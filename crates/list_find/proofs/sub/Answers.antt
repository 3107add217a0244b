-- `list_find::sub` meets its contract. Assumes nothing.
use Rattle.list_find.proofs.Laws.{sub-none, sub-gone}
use Rattle.list_find.proofs.sub.Goals as goal

pub returns-then-at-eq0 : goal.returns-then-at-eq0
returns-then-at-eq0 c = sub-none _ _ _ c.if-at-eq0.true

pub returns-else-at-eq0 : goal.returns-else-at-eq0
returns-else-at-eq0 c = sub-gone _ _ _ c.if-at-eq0.false c.visit.ensures
