-- `run_stored::narrow` meets its contract. Assumes nothing.
use mathlib.Core.Path.{sym, ◌∙◌}
use native.Mathlib.Omega.{arith}
use lib.Ieee.{nan}
use Rattle.pointwise.proofs.Parts.{each-between-empty, store}
use Rattle.num_round.specs.Whole.{round_held}
use Rattle.run_stored.proofs.Laws.{all-turned}
use Rattle.run_stored.proofs.narrow.Goals as goal

pub loop-i-init : goal.loop-i-init
loop-i-init c = sym (each-between-empty 0 0 _ c.args.samples.now (omega arith))

pub loop-i-preserved : goal.loop-i-preserved
loop-i-preserved c =
    store 0 _ 0 c.loop-i.i c.args.samples.now _ _ c.loop-i.invariant c.round_u16.ensures (omega arith) (omega (arith, c.requires))

pub returns : goal.returns
returns c =
    c.loop-i.invariant ∙ all-turned (round_held 65535) nan 0 c.args.wide.now c.args.samples.now _ c.requires c.loop-i-test.false
