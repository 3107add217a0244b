-- The repairs, FixBadPixelsConstant and FixBadPixelsList, over any sample kind A. Document 01, 'What each does to a
-- value', Repair.
-- A repair is defined from the samples at its start, all at once. A position q of the window is y·width + x.
use Rattle.std.specs.Prelude.{ℕ, zero, suc, ◌+◌, ◌-◌, ◌*◌, ◌/◌, ◌%◌, max, Bool, false, not, ◌&&◌, ◌||◌, cond, List, [], ◌∷◌, leb, ltb, eqb, ℤ, pos, negsuc, Float, length, get_or}
use Rattle.std.specs.Float.{binary32}
use Rattle.std.specs.Float.Ieee.{add, div}
use Rattle.num_convert.specs.Convert.{whole_in}
use Rattle.dng.specs.declared.Window.{Window}
use Rattle.dng.specs.declared.Opcode.{Opcode}
use Rattle.dng.specs.declared.Opcode.TheVariants.{WarpRectilinear, WarpFisheye, FixVignetteRadial, FixBadPixelsConstant, FixBadPixelsList, TrimBounds, MapTable, MapPolynomial, GainMap, DeltaPerRow, DeltaPerColumn, ScalePerRow, ScalePerColumn, Other}
use Rattle.dng.specs.List.{u32_at}
use Rattle.dng.specs.Select.{active, in_window, row_of, column_of, plane_of}
use Rattle.dng.specs.Value.{nought}

-- ---- small counts

-- f at some number below n
unfoldable pub any_below : ℕ → (ℕ → Bool) → Bool
any_below zero f = false
any_below (suc n) f = f n || any_below n f

-- at how many numbers below n
unfoldable pub count_below : ℕ → (ℕ → Bool) → ℕ
count_below zero f = 0
count_below (suc n) f = cond (f n) 1 0 + count_below n f

-- ---- marks

abbrev pub positions : Window → ℕ
positions w = w.width * w.height

-- too few samples for the whole window, or height 0: nothing, and no marks. The last row needs its width, not its
-- stride
unfoldable pub complete : Window → ℕ → Bool
complete w n = active w && (leb 1 w.height && leb (((w.height - 1) * w.stride + w.width) * w.planes) n)

-- point i is (row, column); the phase and the two counts take 12 bytes
unfoldable pub point_at : List ℕ → (i y x : ℕ) → Bool
point_at b i y x = eqb (u32_at b (12 + 8 * i)) y && eqb (u32_at b (16 + 8 * i)) x

-- rectangle i is (top, left, bottom, right), bottom and right excluded
unfoldable pub rect_at : List ℕ → (np i y x : ℕ) → Bool
rect_at b np i y x =
    let at = 12 + 8 * np + 16 * i in
    leb (u32_at b at) y && (ltb y (u32_at b (at + 8)) && (leb (u32_at b (at + 4)) x && ltb x (u32_at b (at + 12))))

-- image position (x, y) is listed
unfoldable pub listed : List ℕ → (np nr y x : ℕ) → Bool
listed b np nr y x = any_below np (λ i. point_at b i y x) || any_below nr (λ i. rect_at b np i y x)

module _ {A : Type 0} where
  -- sample (x, y, plane) of the window; d where there is none, which is never looked at
  abbrev pub sample_at : A → Window → List A → (x y k : ℕ) → A
  sample_at d w s x y k = get_or s ((y * w.stride + x) * w.planes + k) d

  -- plane 0 of the position passes the test
  unfoldable pub bad_value : A → Window → (A → Bool) → List A → ℕ → Bool
  bad_value d w test s q = test (sample_at d w s (q % w.width) (q / w.width) 0)

  -- the positions that an opcode marks, from the values at its start; `test c` is how the sample kind compares with the
  -- constant c
  abbrev pub marks_on : A → Window → (ℕ → A → Bool) → Opcode → List ℕ → List A → ℕ → Bool
  marks_on d w test (WarpRectilinear n cx cy) b s q = false
  marks_on d w test WarpFisheye b s q = false
  marks_on d w test (FixVignetteRadial r) b s q = false
  marks_on d w test (FixBadPixelsConstant c p) b s q = bad_value d w (test c) s q
  marks_on d w test (FixBadPixelsList p np nr) b s q = listed b np nr (w.y0 + q / w.width) (w.x0 + q % w.width)
  marks_on d w test (TrimBounds t l bm r) b s q = false
  marks_on d w test (MapTable r n) b s q = false
  marks_on d w test (MapPolynomial r n) b s q = false
  marks_on d w test (GainMap r pv ph g mp) b s q = false
  marks_on d w test (DeltaPerRow r n) b s q = false
  marks_on d w test (DeltaPerColumn r n) b s q = false
  marks_on d w test (ScalePerRow r n) b s q = false
  marks_on d w test (ScalePerColumn r n) b s q = false
  marks_on d w test (Other i) b s q = false

  unfoldable pub marks_of : A → Window → (ℕ → A → Bool) → Opcode → List ℕ → List A → ℕ → Bool
  marks_of d w test op b s q = complete w (length s) && marks_on d w test op b s q

-- ---- neighbours

-- left, right, up, down, up-left, down-right, down-left, up-right
abbrev pub steps : List (ℤ × ℤ)
steps =
    (negsuc 0, pos 0) ∷ (pos 1, pos 0) ∷ (pos 0, negsuc 0) ∷ (pos 0, pos 1)
    ∷ (negsuc 0, negsuc 0) ∷ (pos 1, pos 1) ∷ (negsuc 0, pos 1) ∷ (pos 1, negsuc 0) ∷ []

-- x moved by d steps of the period; n, which is outside, where that is below 0
unfoldable pub moved : ℕ → ℤ → (period n : ℕ) → ℕ
moved x (pos k) period n = x + k * period
moved x (negsuc k) period n = cond (leb (suc k * period) x) (x - suc k * period) n

-- the neighbour one step away, where it lies in the window and is not marked: `f` of its column and row; if not, `t`
unfoldable pub sound : {B : Type 0} → (width height period : ℕ) → (ℕ → Bool) → (x y : ℕ) → ℤ × ℤ → (ℕ → ℕ → B) → B → B
sound width height period bad x y d f t =
    let xx = moved x d.0 period width in
    let yy = moved y d.1 period height in
    cond (ltb xx width && (ltb yy height && not (bad (yy * width + xx)))) (f xx yy) t

-- a sum of sound neighbours, and how many there are
pub record Tally : Type 0 where
  pub sum : Float
  pub n : ℕ

unfoldable pub tally_on : (width height period : ℕ) → (ℕ → Bool) → (ℕ → ℕ → Float) → (x y : ℕ) → List (ℤ × ℤ) → Tally
    → Tally
tally_on width height period bad value x y [] t = t
tally_on width height period bad value x y (d ∷ ds) t =
    tally_on width height period bad value x y ds
    (sound width height period bad x y d (λ xx yy. record { sum = add binary32 t.sum (value xx yy); n = t.n + 1 })
    t)

-- f32 sum from 0
abbrev pub tally_at : (width height period : ℕ) → (ℕ → Bool) → (ℕ → ℕ → Float) → (x y : ℕ) → Tally
tally_at width height period bad value x y = tally_on width height period bad value x y steps
    (record { sum = nought; n = 0 })

-- one division
abbrev pub mean_of : Tally → Float
mean_of t = div binary32 t.sum (whole_in binary32 t.n)

-- ---- the new samples, and the totals. A period of 0 counts as 1

abbrev pub step_of : ℕ → ℕ
step_of period = max period 1

module _ {A : Type 0} where
  -- sample j: a marked position takes, per plane, the mean of its sound neighbours; with none it stays
  unfoldable pub repair_at : A → (A → Float) → (Float → A) → Window → ℕ → (ℕ → Bool) → List A → ℕ → A → A
  repair_at d to_float of_mean w period bad s j v =
      let x = column_of w j in
      let y = row_of w j in
      let t = tally_at w.width w.height (step_of period) bad
      (λ xx yy. to_float (sample_at d w s xx yy (plane_of w j))) x y in
      cond (in_window w j && bad (y * w.width + x)) (cond (eqb t.n 0) v (of_mean (mean_of t))) v

-- how many sound neighbours a position has
unfoldable pub sound_on : (width height period : ℕ) → (ℕ → Bool) → (x y : ℕ) → List (ℤ × ℤ) → ℕ
sound_on width height period bad x y [] = 0
sound_on width height period bad x y (d ∷ ds) =
    sound width height period bad x y d (λ xx yy. 1) 0 + sound_on width height period bad x y ds

abbrev pub sound_at : Window → ℕ → (ℕ → Bool) → ℕ → ℕ
sound_at w period bad q = sound_on w.width w.height (step_of period) bad (q % w.width) (q / w.width) steps

-- the distinct marked positions, those with a sound neighbour, and those with none
unfoldable pub marked_in : Window → (ℕ → Bool) → ℕ
marked_in w bad = count_below (positions w) bad

unfoldable pub repaired_in : Window → ℕ → (ℕ → Bool) → ℕ
repaired_in w period bad = count_below (positions w) (λ q. bad q && leb 1 (sound_at w period bad q))

unfoldable pub left_in : Window → ℕ → (ℕ → Bool) → ℕ
left_in w period bad = count_below (positions w) (λ q. bad q && eqb (sound_at w period bad q) 0)
