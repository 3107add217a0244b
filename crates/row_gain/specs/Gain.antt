-- What the steps of a gain map answer, in the words of dng/specs/Value. Document 01, 'What each does to a value v',
-- GainMap.
use Rattle.std.specs.Prelude.{ℕ, ◌-◌, ◌*◌, ◌≤◌, ◌<◌, max, ◌≡◌, List, Float}
use Rattle.std.specs.Float.{binary32}
use Rattle.std.specs.Float.Ieee.{mul}
use Rattle.dng.specs.Value.{position, lower, upper, share, gain_of}
use Rattle.dng.specs.declared.Grid.{Grid}
use Rattle.row_gain.specs.declared.Axis.{Axis}
use Rattle.row_gain.specs.declared.Map.{Map}

-- the points beside the position f on an axis of n points, and the share
pub record AxisIs (f : Float) (n : ℕ) (r : Axis) : Type 0 where
  pub lower-is : r.lower ≡ lower f
  pub upper_is : r.upper ≡ upper n f
  pub share-is : r.share ≡ share f

-- both are among the n points
pub record OnMap (r : Axis) (n : ℕ) : Type 0 where
  pub lower_in : r.lower ≤ n - 1
  pub upper_in : r.upper ≤ n - 1

-- a map of pv by ph points and mp planes (0 counts as 1) has 1 to 2^24 gains, and m is one of its planes
pub record Sized (pv ph mp m : ℕ) : Type 0 where
  pub some : 1 ≤ pv * ph * max mp 1
  pub few : pv * ph * max mp 1 ≤ 16777216
  pub plane : m < max mp 1

-- one row and one map plane: v times the gain at the row's position fv and the position of column x
unfoldable pub times_gain : List ℕ → Grid → (pv ph mp m full : ℕ) → Float → (x k : ℕ) → Float → Float
times_gain b g pv ph mp m full fv x k v = mul binary32 v
    (gain_of b pv ph mp m fv (position x full g.origin_h g.spacing_h ph))

-- the same of a map as the code carries it, and where image column x lies on it
abbrev pub MapSized : Map → (m : ℕ) → Type 0
MapSized map m = Sized map.points_v map.points_h map.planes m

abbrev pub map_gain : List ℕ → Map → (m full : ℕ) → Float → (x k : ℕ) → Float → Float
map_gain b map m full fv = times_gain b map.grid map.points_v map.points_h (max map.planes 1) m full fv

abbrev pub map_position : Map → (full : ℕ) → ℕ → Float
map_position map full x = position x full map.grid.origin_h map.grid.spacing_h map.points_h
