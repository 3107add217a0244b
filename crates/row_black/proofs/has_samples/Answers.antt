-- `has_samples` meets its contract: the definition's tests. Assumes nothing.
use mathlib.Core.Path.{refl}
use Rattle.row_black.specs.Black.{sampled}
use Rattle.row_black.proofs.has_samples.Goals as goal

pub returns : goal.returns
unfolding sampled
returns c = rw c.total_of-n.ensures refl
