-- What the private steps of a row answer, over the records that the code carries. Nothing here has to be believed:
-- proofs/Laws and proofs/Rows say what it comes to in the words of dng/specs/Value.
use Rattle.std.specs.Prelude.{ℕ, ◌+◌, ◌-◌, ◌*◌, ◌≤◌, ◌<◌, min, max, cond, ◌≡◌, List, Float}
use Rattle.std.specs.Float.{binary32, binary64}
use Rattle.std.specs.Float.Ieee.{sub, mul, div, lt}
use Rattle.num_convert.specs.Convert.{whole_in, held_to}
use Rattle.dng.specs.Value.{nought, f32_at, mix, lower, share, line_at}
use Rattle.row_gain.specs.declared.Axis.{Axis}
use Rattle.row_gain.specs.declared.Map.{Map}
use Rattle.row_gain.specs.declared.Column.{Column}
use Rattle.row_gain.specs.declared.Ruler.{Ruler}
use Rattle.row_gain.specs.declared.Strip.{Strip}
use Rattle.row_gain.specs.declared.Pair.{Pair}
use Rattle.row_gain.specs.Gain.{AxisIs}

-- ---- a ruler is an axis with its numbers as floats

pub record RulerIs (full : ℕ) (origin spacing : Float) (n : ℕ) (r : Ruler) : Type 0 where
  pub full_is : r.full ≡ whole_in binary64 (max full 1)
  pub origin-is : r.origin ≡ origin
  pub spacing-is : r.spacing ≡ spacing
  pub last-is : r.last ≡ whole_in binary64 (n - 1)

unfoldable pub place_on : Ruler → ℕ → Float
place_on r at =
    cond (lt nought r.spacing)
    (held_to nought r.last (div binary64 (sub binary64 (div binary64 (whole_in binary64 at) r.full) r.origin)
    r.spacing))
    nought

-- the point before the position f, and the share
pub record ColumnIs (f : Float) (c : Column) : Type 0 where
  pub lower-is : c.lower ≡ lower f
  pub share-is : c.share ≡ share f

-- ---- a strip is two map rows

-- the map rows of the axis v are rows of a map of 2^24 gains at most, and m is one of its mp planes
pub record Beside (v : Axis) (ph mp m : ℕ) : Type 0 where
  pub some : 1 ≤ ph
  pub plane : m < mp
  pub lower_in : (v.lower + 1) * (ph * mp) ≤ 16777216
  pub upper_in : (v.upper + 1) * (ph * mp) ≤ 16777216

pub record StripIs (v : Axis) (ph mp m : ℕ) (s : Strip) : Type 0 where
  pub near-is : s.near ≡ 76 + 4 * (v.lower * (ph * mp) + m)
  pub far-is : s.far ≡ 76 + 4 * (v.upper * (ph * mp) + m)
  pub step_is : s.step ≡ 4 * mp
  pub last-is : s.last ≡ ph - 1
  pub share-is : s.share ≡ v.share

-- a position of the last map column is far from where a sum would wrap
pub record Reaches (s : Strip) : Type 0 where
  pub near : s.near + s.last * s.step < 4294967296
  pub far : s.far + s.last * s.step < 4294967296
  pub last32 : s.last < 4294967296

-- the gain of map column h between the two rows
unfoldable pub line_of : List ℕ → Strip → ℕ → Float
line_of b s h = mix (f32_at b (s.near + h * s.step)) (f32_at b (s.far + h * s.step)) s.share

-- the strip of the rows whose axis is v: its lines are those of the map
pub record StripAt (map : Map) (m : ℕ) (v : Axis) (s : Strip) : Type 0 where
  pub lines : (f : Float) → AxisIs f map.points_v v → (b : List ℕ) (h : ℕ)
      → line_of b s h ≡ line_at b map.points_v map.points_h (max map.planes 1) m f h
  pub last-is : s.last ≡ map.points_h - 1
  pub reaches : Reaches s

-- the lines of map column q .h and of the next, the second less the first
pub record PairIs (b : List ℕ) (s : Strip) (q : Pair) : Type 0 where
  pub line : q.a ≡ line_of b s q.h
  pub rise : q.d ≡ sub binary32 (line_of b s (min (q.h + 1) s.last)) (line_of b s q.h)

-- v times the gain of image column x, which lies at `place` of it, between the lines of the two map columns beside it
unfoldable pub along_strip : List ℕ → Strip → (place : ℕ → Float) → ℕ → ℕ → Float → Float
along_strip b s place x p v =
    let f = place x in
    mul binary32 v (mix (line_of b s (lower f)) (line_of b s (min (lower f + 1) s.last)) (share f))
