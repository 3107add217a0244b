-- `count_of` meets its contract: n samples are counted, and the next, if there is one, is at `_at`. Assumes nothing.
use Prim.Native.Nat.{◌+◌, ◌*◌, ◌≤◌, ◌<◌}
use mathlib.Core.Path.{◌≡◌}
use Rattle.row_polynomial.proofs.count_of.Given as goal

abbrev pub invariant-loop-at : goal.invariant-loop-at
invariant-loop-at l = (l._at ≡ l.i + l.n * l.step) × (l.n ≤ 63) × (l._at < l.stop + l.step)
