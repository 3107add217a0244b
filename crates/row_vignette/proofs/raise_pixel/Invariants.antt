-- `raise_pixel` meets its contract: the samples before the turn's are raised. Assumes nothing.
use mathlib.Core.Path.{◌≡◌}
use lib.Ieee.{binary32, mul}
use Rattle.pointwise.specs.Points.{each, between}
use Rattle.row_vignette.proofs.raise_pixel.Given as goal

abbrev pub invariant-loop-v : goal.invariant-loop-v
invariant-loop-v l = l.v-items ≡ each (between 0 l.v-index (λ i v. mul binary32 v l.g)) l.initial.v-items
