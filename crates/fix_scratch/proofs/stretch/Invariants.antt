-- `fix_scratch::stretch` meets its contract: entry h + lo keeps pace with the positions, and none past entry h + hi is asked.
-- Assumes nothing.
use Prim.Native.Nat.{◌+◌, ◌-◌, ◌≤◌, ◌<◌}
use mathlib.Core.Path.{◌≡◌}
use lib.ListN.{get_or}
use Rattle.fix_scratch.proofs.stretch.Given as goal

abbrev pub invariant-loop-lo : goal.invariant-loop-lo
invariant-loop-lo l = (l.lo ≤ l.hi) × (l.h + l.hi < l.n) × (l.p + l.hi < l.b) × (get_or l.s l.h 0 ≡ l.p) × (get_or l.s (l.h + l.lo) 0 ≡ l.p + l.lo)

abbrev pub decreases-loop-lo : goal.decreases-loop-lo
decreases-loop-lo l = l.hi - l.lo
