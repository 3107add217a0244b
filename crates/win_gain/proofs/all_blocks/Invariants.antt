-- `all_blocks` meets its contract: the columns from the first selected one up to `from` are done. Assumes nothing.
use Prim.Native.Nat.{ℕ, ◌+◌, ◌-◌, ◌≤◌}
use mathlib.Core.Path.{◌≡◌}
use mathlib.Core.List.{List}
use lib.ListN.{length}
use lib.Ieee.{Float}
use Rattle.pointwise.specs.Points.{each}
use Rattle.dng.specs.declared.Window.{Window}
use Rattle.dng.specs.Select.{on_window}
use Rattle.win_gain.specs.declared.GainMap.{GainMap}
use Rattle.win_gain.specs.Columns.{gain_rule, block_rule, Lies}
use Rattle.win_gain.proofs.all_blocks.Given as goal

-- the gain map in the columns from image column a up to e, over n samples
abbrev pub over : Window → (n : ℕ) → GainMap → (a e : ℕ) → List ℕ → ℕ → Float → Float
over w n gain a e body = on_window w n (block_rule gain.region a e (gain_rule w.full_width w.full_height body gain))

abbrev pub invariant-loop-from : goal.invariant-loop-from
invariant-loop-from l =
    (l.samples ≡ each (over l.w (length l.initial.samples) l.gain (l.w.x0 + l.start.col) (l.w.x0 + l.from) l.body) l.initial.samples)
    × (l.start.col ≤ l.from) × Lies l.w.x0 l.gain.region l.from × (length l.table ≡ length l.initial.table)

abbrev pub decreases-loop-from : goal.decreases-loop-from
decreases-loop-from l = l.end - (l.w.x0 + l.from)
