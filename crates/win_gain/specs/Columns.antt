-- A gain map over a window, a block of columns after another. Nothing here has to be believed: proofs/Columns says what
-- it comes to in the words of dng/specs.
use Rattle.std.specs.Prelude.{ℕ, ◌+◌, ◌*◌, ◌≤◌, ◌<◌, max, ◌≡◌, true, List, length, Float}
use Rattle.dng.specs.declared.Region.{Region}
use Rattle.dng.specs.Select.{Rule, on_region}
use Rattle.dng.specs.Value.{Frame, gained, nought}
use Rattle.row_gain.specs.declared.Map.{Map}
use Rattle.row_gain.specs.declared.Column.{Column}
use Rattle.row_gain.specs.Gain.{map_position}
use Rattle.row_gain.specs.Blocks.{within, Filled}
use Rattle.row_opcode.specs.declared.Task.TheVariants.{Gain}
use Rattle.row_opcode.specs.Plans.{task_fits}
use Rattle.win_gain.specs.declared.GainMap.{GainMap}

-- the counts of a gain map that was read whole
abbrev pub MapFits : Map → Type 0
MapFits map = task_fits (Gain map.points_v map.points_h map.grid map.planes) ≡ true

-- a pitch of 0 counts as 1
abbrev pub pitch_of : Region → ℕ
pitch_of r = max r.col_pitch 1

-- a frame of the full sizes fw and fh: no gain looks at the scale
abbrev pub sizes : (fw fh : ℕ) → Frame
sizes fw fh = record { scale = nought; full_width = fw; full_height = fh }

abbrev pub gain_rule : (fw fh : ℕ) → List ℕ → GainMap → (y x k : ℕ) → Float → Float
gain_rule fw fh b g = gained (sizes fw fh) b g.region g.map.points_v g.map.points_h g.map.grid g.map.planes

-- `f` at the region's samples in the image columns from a up to e, e left out, nothing elsewhere
abbrev pub block_rule : {A : Type 0} → Region → (a e : ℕ) → (ℕ → ℕ → ℕ → A → A) → Rule A
block_rule r a e f = on_region r (λ y. within a e (f y))

-- column x0 + from lies on the region's pitch, and not so far that a sum would wrap
pub record Lies (x0 : ℕ) (r : Region) (from : ℕ) : Type 0 where
  pub number : ℕ
  pub here : x0 + from ≡ r.left + number * pitch_of r
  pub near : from < 8589934592

-- the columns are places of the region's from x0 + from on
pub record Block (x0 fw : ℕ) (g : GainMap) (from : ℕ) (cs : List Column) : Type 0 where
  pub lies : Lies x0 g.region from
  pub few : length cs ≤ 65536
  pub filled : Filled (map_position g.map fw) (x0 + from) (pitch_of g.region) (length cs) cs

-- a table of n columns, which a block may have its places in
pub record Room (n : ℕ) : Type 0 where
  pub some : 1 ≤ n
  pub few : n ≤ 65536
