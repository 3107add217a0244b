-- `say_pgm::decode_f32` meets its contract. Assumes nothing.
use mathlib.Core.Path.{sym, ◌∙◌}
use native.Mathlib.Omega.{arith}
use lib.Ieee.{nan}
use Rattle.pointwise.proofs.Parts.{each-between-empty, store}
use Rattle.say_pgm.specs.Pgm.{float_at}
use Rattle.say_pgm.proofs.Laws.{all_done}
use Rattle.say_pgm.proofs.decode_f32.Goals as goal

pub loop-i-init : goal.loop-i-init
loop-i-init c = sym (each-between-empty 0 0 _ c.args.samples.now (omega arith))

pub loop-i-preserved : goal.loop-i-preserved
loop-i-preserved c =
    let at = c.loop-i in
    store nan (λ k v. float_at c.args.raster.now k) 0 at.i _ _ _ at.invariant c.float_of.ensures (omega arith) (omega arith)

pub returns : goal.returns
returns c = c.loop-i.invariant ∙ all_done (λ k v. float_at c.args.raster.now k) _ _ c.loop-i-test.false
