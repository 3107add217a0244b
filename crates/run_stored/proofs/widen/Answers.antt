-- `run_stored::widen` meets its contract. Assumes nothing.
use mathlib.Core.Path.{sym, ◌∙◌}
use native.Mathlib.Omega.{arith}
use lib.Ieee.{binary32, nan}
use Rattle.pointwise.proofs.Parts.{each-between-empty, store}
use Rattle.num_convert.specs.Convert.{whole_in}
use Rattle.run_stored.proofs.Laws.{all-turned}
use Rattle.run_stored.proofs.widen.Goals as goal

pub loop-i-init : goal.loop-i-init
loop-i-init c = sym (each-between-empty 0 0 _ c.args.wide.now (omega arith))

pub loop-i-preserved : goal.loop-i-preserved
loop-i-preserved c =
    store nan _ 0 c.loop-i.i c.args.wide.now _ _ c.loop-i.invariant c.f32_of_u16.ensures (omega arith) (omega (arith, c.requires))

pub returns : goal.returns
returns c =
    c.loop-i.invariant ∙ all-turned (whole_in binary32) 0 nan c.args.samples.now c.args.wide.now _ c.requires c.loop-i-test.false
