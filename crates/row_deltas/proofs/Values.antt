-- A value by its byte position is the value by its number. Assumes nothing.
use Prim.Native.Nat.{ℕ, ◌+◌, ◌*◌}
use mathlib.Core.List.{List}
use mathlib.Core.Path.{◌≡◌}
use native.Mathlib.Omega.{arith}
use borrow.Author.Tests.{lt-ltb, le-ltb}
use lib.Ieee.{Float}
use Rattle.pointwise.proofs.Each.{below_or}
use Rattle.dng.specs.Value.{nth}
use Rattle.row_deltas.specs.Bytes.{value_from}

-- value j starts at byte 36 + 4 · j, so n of them end before 36 + 4 · n
pub from-nth : (n : ℕ) (b : List ℕ) (missing : Float) (j : ℕ) → value_from b (36 + 4 * n) missing (36 + 4 * j) ≡ nth n b missing j
unfolding value_from nth
from-nth n b missing j =
    below_or j n (λ h. rw (lt-ltb (36 + 4 * j) (36 + 4 * n) (omega arith), lt-ltb j n h))
    (λ h. rw (le-ltb (36 + 4 * j) (36 + 4 * n) (omega arith), le-ltb j n h))
