-- `list_bodies::parse` meets its contract, by the range of the id. Assumes nothing.
use Rattle.list_bodies.proofs.Ids.{none-high, lines}
use mathlib.Core.Path.{◌∙◌}
use Rattle.list_bodies.proofs.parse.Goals as goal

pub returns-then-id-gt-SCALE_PER_COLUMN : goal.returns-then-id-gt-SCALE_PER_COLUMN
returns-then-id-gt-SCALE_PER_COLUMN c = none-high _ _ _ _ c.if-id-gt-SCALE_PER_COLUMN.true

pub returns : goal.returns
returns c = c.line.ensures ∙ lines _ _ _ _ c.if-id-lt-DELTA_PER_ROW.false c.if-id-gt-SCALE_PER_COLUMN.false
