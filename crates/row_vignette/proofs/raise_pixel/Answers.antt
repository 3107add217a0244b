-- `raise_pixel` meets its contract: each turn is one store. Assumes nothing.
use mathlib.Core.Path.{refl, sym, ◌∙◌}
use native.Mathlib.Omega.{arith}
use lib.Ieee.{nan}
use Rattle.pointwise.proofs.Each.{each-agree}
use Rattle.pointwise.proofs.Parts.{between_in, each-between-empty, store}
use Rattle.row_vignette.proofs.raise_pixel.Goals as goal

pub loop-v-init : goal.loop-v-init
loop-v-init c = sym (each-between-empty 0 0 _ _ (omega arith))

pub loop-v-preserved : goal.loop-v-preserved
loop-v-preserved c = store nan _ _ _ _ _ _ c.loop-v.invariant refl (omega arith) (omega arith)

pub returns : goal.returns
returns c =
    c.loop-v.invariant ∙ each-agree _ _ c.args.pixel.now (λ i v h. between_in 0 c.loop-v.v-index _ i v (omega arith) (omega arith))
