-- `in_range` meets its contract: the definition's tests, by computing. Assumes nothing.
use mathlib.Core.Path.{refl}
use Rattle.row_black.specs.Black.{field_in_range}
use Rattle.row_black.proofs.in_range.Goals as goal

pub returns : goal.returns
unfolding field_in_range
returns c = refl
