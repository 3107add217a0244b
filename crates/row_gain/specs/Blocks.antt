-- A row done in blocks of columns, whose places stand in a lent table. proofs/Blocks says that all blocks, one
-- after another, are the row.
use Rattle.std.specs.Prelude.{ℕ, ◌+◌, ◌*◌, ◌≤◌, ◌<◌, min, max, ◌≡◌, List, length, get_or, Float}
use Rattle.std.specs.Float.{nan}
use Rattle.pointwise.specs.Points.{between}
use Rattle.row_select.specs.declared.Walk.{Walk}
use Rattle.row_gain.specs.declared.Column.{Column}
use Rattle.row_gain.specs.Strip.{ColumnIs}

-- `g` at the image columns from a up to e, e left out, nothing elsewhere
unfoldable pub within : {A : Type 0} → (a e : ℕ) → (ℕ → ℕ → A → A) → ℕ → ℕ → A → A
within a e g x k v = between a e (λ y. g y k) x v

-- entry j of the columns, for each of the first w, is the place of image column x + j * pitch, which lies at `f` of it
pub record Filled (f : ℕ → Float) (x pitch w : ℕ) (cs : List Column) : Type 0 where
  pub columns : (j : ℕ) → j < w → ColumnIs (f (x + j * pitch)) (get_or cs j (record { lower = 0; share = nan }))
  pub room : w ≤ length cs

-- no column's point lies past map column `last`
pub record Among (last : ℕ) (cs : List Column) : Type 0 where
  pub lower_in : (j : ℕ) → j < length cs → (get_or cs j (record { lower = 0; share = nan })).lower ≤ last

-- `room` columns can be filled from x on
pub record Fillable (x pitch end room : ℕ) : Type 0 where
  pub spaced : 1 ≤ pitch
  pub pitch32 : pitch < 4294967296
  pub start : x < 8589934592
  pub end32 : end ≤ 4294967296
  pub few : room ≤ 65536

-- the w columns from x on are those before `end`, or as many as there is room for
pub record Counted (x pitch end room w : ℕ) : Type 0 where
  pub fits : w ≤ room
  pub all : min end (x + room * pitch) ≤ x + w * pitch
  pub near : x + w * pitch < max x end + pitch

-- column x0 + from of a walk lies on its pitch, and the w columns from there on are not so far that a sum would wrap
pub record Begins (k : Walk) (from w : ℕ) : Type 0 where
  pub number : ℕ
  pub here : k.x0 + from ≡ k.left + number * k.pitch
  pub near : from < 8589934592
  pub few : w ≤ 65536
