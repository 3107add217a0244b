-- `list_fields::word` meets its contract. Assumes nothing.
use mathlib.Core.Path.{◌∙◌}
use Rattle.list_fields.proofs.Laws.{clamped}
use Rattle.list_fields.proofs.word.Goals as goal

pub returns : goal.returns
returns c = c.u32_at.ensures ∙ clamped 4 _ _ c.place.ensures
