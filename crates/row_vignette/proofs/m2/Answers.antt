-- `m2` meets its contract: the centre, the farthest corner, and whether it can be used; the scale is nowhere in it. Assumes nothing.
use Rattle.dng.specs.Value.{m2_of}
use Rattle.row_vignette.proofs.m2.Goals as goal

pub returns : goal.returns
unfolding m2_of
returns c = λ scale. cc
