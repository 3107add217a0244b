-- `row_along` meets its contract: the walk stands at sample i, whose image column is x, and the pair at hand is that of its own map column.
-- Assumes nothing.
use Prim.Native.Nat.{ℕ, ◌+◌, ◌-◌}
use mathlib.Core.Path.{◌≡◌}
use Rattle.row_select.proofs.Going.{Going}
use Rattle.row_gain.specs.Strip.{PairIs, place_on, along_strip}
use Rattle.row_gain.proofs.row_along.Given as goal

abbrev pub invariant-loop-i : goal.invariant-loop-i
invariant-loop-i l = (c : ℕ) × Going l.k (along_strip l.body l.s (place_on l.along)) l.initial.row l.row c l.i × (l.x ≡ l.k.x0 + c) × PairIs l.body l.s l.q

abbrev pub decreases-loop-i : goal.decreases-loop-i
decreases-loop-i l = l.stop - l.i
