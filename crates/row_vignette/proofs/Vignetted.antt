-- The vignette of a row in the code's words: the whole pixels raised, or the row as it stands. Assumes nothing.
use Prim.Native.Nat.{ℕ, ◌+◌, ◌*◌, ◌/◌, ◌%◌, ◌≤◌, ◌<◌}
use mathlib.Core.Bool.{Bool, true, false, cond, ◌&&◌}
use mathlib.Core.List.{List}
use mathlib.Core.Path.{◌≡◌, refl, sym, ap, ap₂, ◌∙◌}
use native.Mathlib.Nat.{add-mul, one-mul, div-mul-le_self, mul-le-mul_right, le-div_iff_mul-le, div-lt_iff_lt-mul}
use native.Mathlib.Omega.{arith}
use borrow.Author.Tests.{lt-ltb, le-ltb, le-leb, lt-leb}
use lib.Dec.{ltb}
use lib.Ieee.{Float, binary64, sub, mul}
use lib.ListN.{length}
use Rattle.pointwise.specs.Points.{each, before}
use Rattle.pointwise.proofs.Each.{below_or, each-agree, each_none}
use Rattle.pointwise.proofs.Parts.{before-in, before-out}
use Rattle.num_convert.specs.Convert.{whole_in}
use Rattle.dng.specs.declared.Radial.{Radial}
use Rattle.row_vignette.specs.declared.Line.{Line}
use Rattle.dng.specs.Select.{whole_pixel, on_row}
use Rattle.dng.specs.Value.{Frame, square, centre_x, centre_y, m2_of, usable, vignetted, vignette}
use Rattle.row_vignette.specs.Reach.{frame_at, Reaches}
use Rattle.row_vignette.specs.Rows.{wide_gain, gain_of, raised, whole_ones}

-- ---- which pixels are whole

module _ (p n j : ℕ) (pos : 1 ≤ p) where
  pub whole_in_lem : j < n / p * p → whole_pixel p n j ≡ true
  unfolding whole_pixel
  whole_in_lem h =
      let q : j / p < n / p = (div-lt_iff_lt-mul pos).1 h in
      le-leb ((j / p + 1) * p) n (omega (arith, mul-le-mul_right p q, add-mul (j / p) 1 p, one-mul p, div-mul-le_self n p))

  pub whole_out : n / p * p ≤ j → whole_pixel p n j ≡ false
  unfolding whole_pixel
  whole_out h =
      let q : n / p ≤ j / p = (le-div_iff_mul-le pos).1 h in
      lt-leb ((j / p + 1) * p) n ((div-lt_iff_lt-mul pos).0 (omega arith))

-- ---- the cases of a sample

neither : {A : Type 0} (a b : Bool) (x y : A) → cond (a && (b && false)) x y ≡ y
neither true true x y = refl
neither true false x y = refl
neither false b x y = refl

second : {A : Type 0} (a b : Bool) (x y : A) → cond (a && (false && b)) x y ≡ y
second true b x y = refl
second false b x y = refl

module _ (fr : Frame) (q : Radial) (y x k : ℕ) (v : Float) where
  pub vignette-partial : vignette fr q false y x k v ≡ v
  unfolding vignette
  vignette-partial = refl

  pub vignette-whole : y < fr.full_height → usable (m2_of fr q) ≡ true → vignette fr q true y x k v ≡ vignetted fr q y x v
  unfolding vignette
  vignette-whole h u = ap₂ (λ (a b : Bool). cond (a && b) (vignetted fr q y x v) v) (lt-ltb y fr.full_height h) u

  pub vignette-below : (whole : Bool) → fr.full_height ≤ y → vignette fr q whole y x k v ≡ v
  unfolding vignette
  vignette-below whole h =
      ap (λ (a : Bool). cond (whole && (a && usable (m2_of fr q))) (vignetted fr q y x v) v) (le-ltb y fr.full_height h)
      ∙ second whole (usable (m2_of fr q)) (vignetted fr q y x v) v

  pub vignette-unusable : (whole : Bool) → usable (m2_of fr q) ≡ false → vignette fr q whole y x k v ≡ v
  unfolding vignette
  vignette-unusable whole u =
      ap (λ (b : Bool). cond (whole && (ltb y fr.full_height && b)) (vignetted fr q y x v) v) u
      ∙ neither whole (ltb y fr.full_height) (vignetted fr q y x v) v

-- ---- a row

module _ (fr : Frame) (q : Radial) (x0 p y : ℕ) (l : List Float) where
  -- rows from the full height on stay
  pub row_below : fr.full_height ≤ y → each (on_row x0 p y (length l) (vignette fr q)) l ≡ l
  unfolding on_row
  row_below h =
      each_none (on_row x0 p y (length l) (vignette fr q)) l
      (λ i v k. vignette-below fr q y (x0 + i / p) (i % p) v (whole_pixel p (length l) i) h)

  -- an unusable m2 leaves every row
  pub row-unusable : usable (m2_of fr q) ≡ false → each (on_row x0 p y (length l) (vignette fr q)) l ≡ l
  unfolding on_row
  row-unusable u =
      each_none (on_row x0 p y (length l) (vignette fr q)) l
      (λ i v k. vignette-unusable fr q y (x0 + i / p) (i % p) v (whole_pixel p (length l) i) u)

  -- the centre and dy² worked out once
  abbrev line : Line
  line = record { radial = q; m2 = m2_of fr q; dy2 = square (sub binary64 (whole_in binary64 y) (centre_y fr q)); centre = centre_x fr q }

  -- so the pixels raised are the vignette's
  raised_is : (i : ℕ) (v : Float)
      → raised line x0 p i v
      ≡ vignetted fr q y (x0 + i / p) v
  unfolding raised gain_of wide_gain vignetted
  raised_is i v = refl

  pub row-raised : 1 ≤ p → y < fr.full_height → usable (m2_of fr q) ≡ true
      → each (whole_ones line x0 p (length l)) l
      ≡ each (on_row x0 p y (length l) (vignette fr q)) l
  unfolding whole_ones on_row
  row-raised pos h u = each-agree (before (n / p * p) F) (on_row x0 p y n (vignette fr q)) l at
    where
      n : ℕ
      n = length l

      F : ℕ → Float → Float
      F = raised line x0 p

      at : (i : ℕ) (v : Float) → i < n → before (n / p * p) F i v ≡ on_row x0 p y n (vignette fr q) i v
      at i v k =
          below_or i (n / p * p)
          (λ e.
          before-in (n / p * p) F i v e ∙ raised_is i v
          ∙ sym (vignette-whole fr q y (x0 + i / p) (i % p) v h u)
          ∙ ap (λ (w : Bool). vignette fr q w y (x0 + i / p) (i % p) v) (sym (whole_in_lem p n i pos e)))
          (λ e.
          before-out (n / p * p) F i v e
          ∙ sym (vignette-partial fr q y (x0 + i / p) (i % p) v)
          ∙ ap (λ (w : Bool). vignette fr q w y (x0 + i / p) (i % p) v) (sym (whole_out p n i pos e)))

-- the same with what the code has worked out: the full width w and height h and the row as f64, and m2
pub row_is : (q : Radial) (x0 p y fw fh : ℕ) (l : List Float) {m2 w h at : Float} → 1 ≤ p → y < fh → Reaches q m2 fw fh
    → w ≡ whole_in binary64 fw → h ≡ whole_in binary64 fh → at ≡ whole_in binary64 y → (scale : Float)
    → each
    (whole_ones (record { radial = q; m2 = m2; dy2 = square (sub binary64 at (mul binary64 q.cy h)); centre = mul binary64 q.cx w }) x0 p
    (length l))
    l
    ≡ each (on_row x0 p y (length l) (vignette (frame_at scale fw fh) q)) l
row_is q x0 p y fw fh l {m2} {w} {h} {at} pos below r ew eh ea scale =
    let fr : Frame = frame_at scale fw fh in
    let e : m2 ≡ m2_of fr q = r.farthest scale in
    rw (ew, eh, ea, e) (row-raised fr q x0 p y l pos below (ap usable (sym e) ∙ r.positive))
