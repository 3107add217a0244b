-- The walk over one plane of a row, made from the row's place, a region and its first column; what the planes of a row
-- share; and which samples of a row are a region's.
use Rattle.std.specs.Prelude.{ℕ, ◌+◌, ◌-◌, ◌/◌, ◌%◌, ◌<◌, min, max, ◌≡◌, Bool, false, ◌&&◌, List, leb, ltb, Float}
use Rattle.std.specs.Float.{binary32}
use Rattle.std.specs.Float.Ieee.{mul, div}
use Rattle.num_convert.specs.Convert.{whole_in}
use Rattle.pointwise.specs.Points.{each}
use Rattle.pointwise.specs.Select.{selects, in_row, on_columns}
use Rattle.row_select.specs.declared.Walk.{Walk}
use Rattle.row_select.specs.declared.Start.{Start}
use Rattle.dng.specs.declared.Region.{Region}
use Rattle.dng.specs.Value.{position, row_index, nth, nought, one}
use Rattle.row_gain.specs.declared.Axis.{Axis}
use Rattle.row_gain.specs.Gain.{AxisIs}
use Rattle.row_opcode.specs.declared.Place.{Place}
use Rattle.row_opcode.specs.declared.Task.{Task}
use Rattle.row_opcode.specs.declared.Task.TheVariants.{Table, Polynomial, Gain, DeltaRows, DeltaColumns, ScaleRows, ScaleColumns}

abbrev pub walk_by : Place → Region → Start → (plane pitch : ℕ) → Walk
walk_by g r s plane pitch =
    record {
      x0 = g.x0;
      planes = g.planes;
      left = r.left;
      right = r.right;
      pitch = pitch;
      plane = plane;
      col = s.col;
      nth = s.nth;
    }

-- a pitch of 0 counts as 1
abbrev pub walk_of : Place → Region → Start → (plane : ℕ) → Walk
walk_of g r s plane = walk_by g r s plane (max r.col_pitch 1)

pub record WalkIs (g : Place) (r : Region) (s : Start) (plane : ℕ) (k : Walk) : Type 0 where
  pub is : k ≡ walk_of g r s plane
  pub left32 : k.left < 4294967296
  pub right32 : k.right < 4294967296
  pub pitch32 : k.pitch < 4294967296

-- a walk over columns of the region r
pub record Along (r : Region) (k : Walk) : Type 0 where
  pub left_is : k.left ≡ r.left
  pub pitch-is : k.pitch ≡ max r.col_pitch 1

-- map plane min(k, last), k counted from the region's first plane
abbrev pub map_plane : (plane first planes : ℕ) → ℕ
map_plane plane first planes = min (plane - first) (max planes 1 - 1)

-- the axis of a gain map's row, which all planes share; of any other task nothing is asked
abbrev pub AxisFor : Task → Place → Axis → Type 0
AxisFor (Table n) g v = Unit
AxisFor (Polynomial d) g v = Unit
AxisFor (Gain pv ph grid mp) g v = AxisIs
    (position g.y g.full_height grid.origin_v grid.spacing_v pv) pv v
AxisFor (DeltaRows n) g v = Unit
AxisFor (DeltaColumns n) g v = Unit
AxisFor (ScaleRows n) g v = Unit
AxisFor (ScaleColumns n) g v = Unit

-- a row's delta over the scale, or its scale, which all planes share; of any other task nothing is asked
abbrev pub ValueFor : Task → Region → (y : ℕ) → (body : List ℕ) → (scale value : Float) → Type 0
ValueFor (Table n) r y b scale d = Unit
ValueFor (Polynomial e) r y b scale d = Unit
ValueFor (Gain pv ph grid mp) r y b scale d = Unit
ValueFor (DeltaRows n) r y b scale d = d ≡ div binary32
    (mul binary32 (nth n b nought (row_index r y)) (whole_in binary32 65535)) scale
ValueFor (DeltaColumns n) r y b scale d = Unit
ValueFor (ScaleRows n) r y b scale d = d ≡ nth n b one (row_index r y)
ValueFor (ScaleColumns n) r y b scale d = Unit

-- `f` at the columns of the region and at n of its planes, from its first on
unfoldable pub region_planes : {A : Type 0} → Place → Region → (n : ℕ) → (ℕ → ℕ → A → A) → List A → List A
region_planes g r n f l =
    each (in_row g.x0 g.planes (on_columns r.left r.right r.col_pitch r.plane n f)) l

-- sample i of a row is one of the region's: its row, its column and its plane are
unfoldable pub touches : Place → Region → (i : ℕ) → Bool
touches g r i =
    selects r.top r.bottom r.row_pitch g.y
    && (selects r.left r.right r.col_pitch (g.x0 + i / g.planes)
    && (leb r.plane (i % g.planes) && ltb (i % g.planes) (r.plane + r.planes)))

-- no sample of a row of n is one of the region's
pub record Untouched (g : Place) (r : Region) (n : ℕ) : Type 0 where
  pub none : (i : ℕ) → i < n → touches g r i ≡ false
