-- `say_pgm::decode` meets its contract. Assumes nothing.
use mathlib.Core.Path.{sym, ◌∙◌}
use native.Mathlib.Omega.{arith}
use Rattle.pointwise.proofs.Parts.{each-between-empty, store}
use Rattle.say_pgm.specs.Pgm.{sample_at}
use Rattle.say_pgm.proofs.Laws.{all_done}
use Rattle.say_pgm.proofs.decode.Goals as goal

pub loop-i-init : goal.loop-i-init
loop-i-init c = sym (each-between-empty 0 0 _ c.args.samples.now (omega arith))

pub loop-i-preserved : goal.loop-i-preserved
loop-i-preserved c =
    let at = c.loop-i in
    store 0 (λ k v. sample_at c.args.raster.now c.args.maxval k) 0 at.i _ _ _ at.invariant c.sample_of.ensures (omega arith) (omega arith)

pub returns : goal.returns
returns c = c.loop-i.invariant ∙ all_done (λ k v. sample_at c.args.raster.now c.args.maxval k) _ _ c.loop-i-test.false
