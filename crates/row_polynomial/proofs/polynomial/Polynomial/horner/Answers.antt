-- `Polynomial::horner` meets its contract: each turn takes one coefficient into the sum. Assumes nothing.
use native.Mathlib.Omega.{arith}
use lib.Ieee.{nan}
use Rattle.dng.specs.Value.{nought}
use Rattle.std.proofs.lemmas.List.{get_or_default}
use Rattle.row_polynomial.proofs.Horner.{from_zero, low, one_more, none_left}
use Rattle.row_polynomial.proofs.polynomial.Polynomial.horner.Goals as goal

pub loop-k-init : goal.loop-k-init
loop-k-init g c = rw from_zero (low c.args.self c.args.x _ c.requires.all)

pub loop-k-preserved : goal.loop-k-preserved
loop-k-preserved g c = one_more _ _ _ _ _ (omega arith) (get_or_default c.args.self.terms _ nan nought (omega (arith, c.args.self.nine))) c.loop-k.invariant

pub returns : goal.returns
returns g c = none_left _ _ _ _ (omega arith) c.loop-k.invariant
