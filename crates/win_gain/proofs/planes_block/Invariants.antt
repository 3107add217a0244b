-- `planes_block` meets its contract: the planes from the region's first up to p are done. Assumes nothing.
use Prim.Native.Nat.{ℕ, ◌+◌, ◌-◌, ◌*◌, ◌≤◌, max}
use mathlib.Core.Path.{◌≡◌}
use mathlib.Core.List.{List}
use lib.Ieee.{Float}
use lib.ListN.{length}
use Rattle.row_gain.specs.Blocks.{within}
use Rattle.row_opcode.specs.declared.Place.{Place}
use Rattle.row_opcode.specs.Planes.{region_planes}
use Rattle.win_gain.specs.declared.GainMap.{GainMap}
use Rattle.win_gain.specs.Columns.{pitch_of, gain_rule}
use Rattle.win_gain.proofs.planes_block.Given as goal

-- the rule of a row's block of n columns
abbrev pub rule : Place → GainMap → (from n : ℕ) → List ℕ → ℕ → ℕ → Float → Float
rule g gain from n body =
    within (g.x0 + from) (g.x0 + from + n * pitch_of gain.region) (gain_rule g.full_width g.full_height body gain g.y)

abbrev pub invariant-loop-p : goal.invariant-loop-p
invariant-loop-p l =
    (l.row ≡ region_planes l.g l.gain.region (l.p - l.gain.region.plane) (rule l.g l.gain l.from (length l.columns) l.body) l.initial.row)
    × (l.p ≤ max l.gain.region.plane l.p-end)
