-- `block_along` meets its contract: the walk stands at sample i, in the column of the table's entry j, and the pair at hand is that of its own
-- map column. Assumes nothing.
use Prim.Native.Nat.{ℕ, ◌+◌, ◌-◌, ◌*◌}
use mathlib.Core.Path.{◌≡◌}
use lib.Ieee.{Float}
use lib.ListN.{length}
use Rattle.row_select.proofs.Going.{Going}
use Rattle.row_gain.specs.Blocks.{within, Filled}
use Rattle.row_gain.specs.Strip.{PairIs, along_strip}
use Rattle.row_gain.proofs.block_along.Given as goal

abbrev pub invariant-loop-i : goal.invariant-loop-i
invariant-loop-i l =
    (l.i ≡ (l.from + l.j * l.fn.k.pitch) * l.fn.k.planes + l.fn.k.plane)
    × ((f : ℕ → Float)
    → Filled f (l.fn.k.x0 + l.from) l.fn.k.pitch (length l.columns) l.columns
    → Going l.fn.k (within (l.fn.k.x0 + l.from) (l.fn.k.x0 + l.from + length l.columns * l.fn.k.pitch) (along_strip l.body l.s f))
    l.initial.row l.row (l.from + l.j * l.fn.k.pitch) l.i)
    × PairIs l.body l.s l.q

abbrev pub decreases-loop-i : goal.decreases-loop-i
decreases-loop-i l = l.stop - l.i
