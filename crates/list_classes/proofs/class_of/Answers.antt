-- `list_classes::class_of` meets its contract; only a table asks for more than its variant. Assumes nothing.
use Rattle.list_classes.proofs.Laws.{no-entries, some-entries}
use Rattle.list_classes.proofs.class_of.Goals as goal

pub returns-then-n-eq0 : goal.returns-then-n-eq0
returns-then-n-eq0 c = no-entries c.in-MapTable.is c.if-n-eq0.true

pub returns-else-n-eq0 : goal.returns-else-n-eq0
returns-else-n-eq0 c = some-entries c.in-MapTable.is c.if-n-eq0.false
