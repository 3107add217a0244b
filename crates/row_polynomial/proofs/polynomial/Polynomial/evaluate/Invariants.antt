-- `Polynomial::evaluate` meets its contract: the values before j are evaluated. Assumes nothing.
use Prim.Native.Nat.{ℕ, ◌+◌, ◌*◌, ◌<◌}
use mathlib.Core.Path.{◌≡◌}
use lib.Ieee.{nan}
use lib.ListN.{get_or}
use Rattle.row_polynomial.specs.Terms.{wide_of}
use Rattle.row_polynomial.proofs.polynomial.Polynomial.evaluate.Given as goal

abbrev pub invariant-loop-j : goal.invariant-loop-j
invariant-loop-j l = (m : ℕ) → m < l.j → get_or l.xs m nan ≡ wide_of l.self (get_or l.row (l.i + m * l.step) nan)
