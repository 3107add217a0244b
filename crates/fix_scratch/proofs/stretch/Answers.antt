-- `fix_scratch::stretch` meets its contract: entry h + lo keeps pace with the positions, and none past entry h + hi is asked.
-- Assumes nothing.
use native.Mathlib.Omega.{arith}
use Rattle.fix_scratch.proofs.Joining.{stretch-there}
use Rattle.fix_scratch.proofs.stretch.Goals as goal

pub returns : goal.returns
returns c =
    let at = c.loop-lo in
    let pre = c.requires in
    record {
      within = omega (arith, at.invariant.0, at.invariant.2);
      front = λ l. omega (arith, at.invariant.0, at.invariant.1);
      there = stretch-there _ _ _ _ _ pre.0 (omega (arith, at.invariant.0, at.invariant.1)) at.invariant.3 at.invariant.4;
    }
