-- `list_fields::real` meets its contract. Assumes nothing.
use lib.Ieee.{binary64, of_bits}
use mathlib.Core.Path.{◌∙◌, ap}
use Rattle.list_fields.proofs.Laws.{clamped}
use Rattle.list_fields.proofs.real.Goals as goal

pub returns : goal.returns
returns c = c.f64_at.ensures ∙ ap (of_bits binary64) (clamped 8 _ _ c.place.ensures)
