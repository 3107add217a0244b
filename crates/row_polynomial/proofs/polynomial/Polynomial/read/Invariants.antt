-- `Polynomial::read` meets its contract: the coefficients before k are read, the others are 0. Assumes nothing.
use Prim.Native.Nat.{ℕ, ◌+◌, ◌*◌, ◌≤◌, ◌<◌}
use mathlib.Core.Path.{◌≡◌}
use lib.ListN.{length, get_or}
use Rattle.dng.specs.List.{f64_at}
use Rattle.dng.specs.Value.{nought}
use Rattle.row_polynomial.proofs.polynomial.Polynomial.read.Given as goal

abbrev pub invariant-loop-k : goal.invariant-loop-k
invariant-loop-k l =
    ((m : ℕ) → m < l.k → get_or l.terms m nought ≡ f64_at l.body (36 + 8 * m)) × ((m : ℕ) → l.k ≤ m → get_or l.terms m nought ≡ nought)
    × (length l.terms ≡ 9)
