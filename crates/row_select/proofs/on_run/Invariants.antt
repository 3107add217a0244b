-- `on_run` meets its contract: each turn is one step of the run. Assumes nothing.
use Prim.Native.Nat.{ℕ, ◌+◌}
use mathlib.Core.Path.{◌≡◌}
use Rattle.row_select.specs.Calls.{Gives}
use Rattle.row_select.proofs.Steps.{Steps}
use Rattle.row_select.proofs.on_run.Given as goal

abbrev pub invariant-loop-i : goal.invariant-loop-i
invariant-loop-i g l =
    (m : ℕ) × (l.i ≡ l.begin + m)
    × ((h : ℕ → g.row.T.Denot → g.row.T.Denot) → Gives (goal.F-post g l.f) h → Steps l.begin l.stop 1 (λ n v. h (l.first + n) v) l.initial.row l.row m l.i)
