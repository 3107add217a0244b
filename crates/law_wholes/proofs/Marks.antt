-- Both runs mark the same positions of the window, count the same totals, and have room for any marks. Assumes nothing.
use Prim.Native.Nat.{ℕ, zero, suc, ◌+◌, ◌-◌, ◌*◌, ◌/◌, ◌%◌, ◌≤◌, ◌<◌}
use mathlib.Core.Path.{◌≡◌, refl, ap, ap₂, subst, ◌∙◌}
use mathlib.Core.Bool.{Bool, true, false, not, ◌&&◌, cond, false≢true}
use mathlib.Core.List.{List, [], ◌∷◌}
use native.Mathlib.Nat.{lt_of_lt_of_le, mul-le-mul_right, mul_comm, mod-lt, div-lt_iff_lt-mul}
use native.Mathlib.Omega.{arith}
use borrow.Author.Tests.{ltb-true, leb-true}
use lib.Arith.{digits_lt}
use lib.Dec.{leb, ltb, eqb}
use lib.IntN.{ℤ}
use lib.Ieee.{Float, nan, binary32, div, eq}
use lib.ListN.{length}
use Rattle.num_convert.specs.Convert.{whole_in}
use Rattle.dng.specs.declared.Window.{Window}
use Rattle.dng.specs.declared.Opcode.{Opcode}
use Rattle.dng.specs.declared.Opcode.TheVariants.{WarpRectilinear, WarpFisheye, FixVignetteRadial, FixBadPixelsConstant, FixBadPixelsList, TrimBounds, MapTable, MapPolynomial, GainMap, DeltaPerRow, DeltaPerColumn, ScalePerRow, ScalePerColumn, Other}
use Rattle.dng.specs.Select.{active}
use Rattle.dng.specs.Value.{one}
use Rattle.dng.specs.Repair.{count_below, positions, complete, sample_at, bad_value, marks_on, marks_of, moved, sound, sound_on, sound_at, step_of, steps, marked_in, repaired_in, left_in}
use Rattle.law_wholes.proofs.Wholes.{constant-is}
use Rattle.law_wholes.proofs.Near.{Exact, gapless}
use Rattle.law_wholes.proofs.Pairs.{Pairs}

-- ---- Boolean cases

pub and_first : (a b : Bool) → (a && b) ≡ true → a ≡ true
and_first true b e = refl
and_first false b e = e

pub and_second : (a b : Bool) → (a && b) ≡ true → b ≡ true
and_second true b e = e
and_second false b e = absurd (false≢true e)

pub and_same : (a b c : Bool) → (a ≡ true → b ≡ c) → (a && b) ≡ (a && c)
and_same true b c h = h refl
and_same false b c h = refl

-- ---- counts below n

pub count_same : (n : ℕ) (f g : ℕ → Bool) → ((q : ℕ) → q < n → f q ≡ g q) → count_below n f ≡ count_below n g
unfolding count_below
count_same zero f g h = refl
count_same (suc n) f g h =
    ap₂ (λ (b : Bool) (m : ℕ). cond b 1 0 + m) (h n (omega arith)) (count_same n f g (λ q r. h q (omega arith)))

pub count-le : (n : ℕ) (f : ℕ → Bool) → count_below n f ≤ n
unfolding count_below
count-le zero f = omega arith
count-le (suc n) f = go (f n) (count_below n f) (count-le n f)
  where
    go : (b : Bool) (m : ℕ) → m ≤ n → cond b 1 0 + m ≤ suc n
    go true m h = omega arith
    go false m h = omega arith

-- ---- places: the window of a complete list lies inside it

pub position_in : (w : Window) (x y : ℕ) → x < w.width → y < w.height → y * w.width + x < positions w
position_in w x y h k = subst (λ (n : ℕ). y * w.width + x < n) (mul_comm w.height w.width) (digits_lt k h)

pub place_in : (w : Window) (n x y k : ℕ) → complete w n ≡ true → x < w.width → y < w.height → k < w.planes
    → (y * w.stride + x) * w.planes + k < n
unfolding complete
place_in w n x y k e h p q =
    let row : y * w.stride ≤ (w.height - 1) * w.stride = mul-le-mul_right w.stride (omega arith) in
    let pixels : ℕ = (w.height - 1) * w.stride + w.width in
    let full : pixels * w.planes ≤ n =
    leb-true (pixels * w.planes) n (and_second (leb 1 w.height) (leb (pixels * w.planes) n) (and_second (active w) _ e)) in
    lt_of_lt_of_le (digits_lt {q = y * w.stride + x} {m = pixels} (omega arith) q) full

pub complete-wide : (w : Window) (n : ℕ) → complete w n ≡ true → 0 < w.width
unfolding complete active
complete-wide w n e =
    leb-true 1 w.width
    (and_first (leb 1 w.width) (leb w.width w.stride) (and_first (leb 1 w.width && leb w.width w.stride) _ e))

-- ---- the marks

-- how the two runs compare with the constant c
abbrev pub bad16 : ℕ → ℕ → Bool
bad16 c v = eqb v c

abbrev pub bad32 : ℕ → Float → Bool
bad32 c v = eq v (div binary32 (whole_in binary32 c) one)

-- two sets of marks that agree inside the window
abbrev pub Agree : Window → (ℕ → Bool) → (ℕ → Bool) → Type 0
Agree w bad bad' = (q : ℕ) → q < positions w → bad q ≡ bad' q

exact-bad : (c a : ℕ) (v : Float) → Exact a v → bad32 c v ≡ bad16 c a
exact-bad c a v e = ap (λ (z : Float). bad32 c z) e.same ∙ constant-is binary32 a c (gapless a e.small)

module _ (w : Window) (s : List ℕ) (t : List Float) (p : Pairs Exact s t) (planes : 0 < w.planes) where
  value_same : (c q : ℕ) → complete w (length s) ≡ true → q < positions w → bad_value nan w (bad32 c) t q ≡ bad_value 0 w (bad16 c) s q
  unfolding bad_value
  value_same c q full h =
      exact-bad c (sample_at 0 w s (q % w.width) (q / w.width) 0) (sample_at nan w t (q % w.width) (q / w.width) 0)
      (p.at ((q / w.width * w.stride + q % w.width) * w.planes + 0)
      (place_in w (length s) (q % w.width) (q / w.width) 0 full (mod-lt q (complete-wide w (length s) full))
      ((div-lt_iff_lt-mul (complete-wide w (length s) full)).1 (subst (λ (n : ℕ). q < n) (mul_comm w.width w.height) h)) planes))

  on_same : (op : Opcode) (b : List ℕ) (q : ℕ) → complete w (length s) ≡ true → q < positions w
      → marks_on nan w bad32 op b t q ≡ marks_on 0 w bad16 op b s q
  on_same (WarpRectilinear n cx cy) b q full h = refl
  on_same WarpFisheye b q full h = refl
  on_same (FixVignetteRadial r) b q full h = refl
  on_same (FixBadPixelsConstant c ph) b q full h = value_same c q full h
  on_same (FixBadPixelsList ph np nr) b q full h = refl
  on_same (TrimBounds top l bm r) b q full h = refl
  on_same (MapTable r n) b q full h = refl
  on_same (MapPolynomial r n) b q full h = refl
  on_same (GainMap r pv ph g mp) b q full h = refl
  on_same (DeltaPerRow r n) b q full h = refl
  on_same (DeltaPerColumn r n) b q full h = refl
  on_same (ScalePerRow r n) b q full h = refl
  on_same (ScalePerColumn r n) b q full h = refl
  on_same (Other i) b q full h = refl

  pub marks-same : (op : Opcode) (b : List ℕ) → Agree w (marks_of nan w bad32 op b t) (marks_of 0 w bad16 op b s)
  unfolding marks_of
  marks-same op b q h =
      ap (λ (n : ℕ). complete w n && marks_on nan w bad32 op b t q) p.long
      ∙ and_same (complete w (length s)) (marks_on nan w bad32 op b t q) (marks_on 0 w bad16 op b s q) (λ full. on_same op b q full h)

-- ---- sound neighbours

module _ {B : Type 0} (w : Window) (period : ℕ) where
  -- what is so for `t`, and for `f` at any position of the window, is so for the neighbour
  pub sound-any : (P : B → Type 0) (bad : ℕ → Bool) (x y : ℕ) (d : ℤ × ℤ) (f : ℕ → ℕ → B) (t : B)
      → ((xx yy : ℕ) → xx < w.width → yy < w.height → P (f xx yy)) → P t
      → P (sound w.width w.height period bad x y d f t)
  unfolding sound
  sound-any P bad x y d f t h k =
      let xx : ℕ = moved x d.0 period w.width in
      let yy : ℕ = moved y d.1 period w.height in
      go xx yy (ltb xx w.width) (ltb yy w.height) (not (bad (yy * w.width + xx))) (ltb-true xx w.width) (ltb-true yy w.height)
    where
      go : (xx yy : ℕ) (a b c : Bool) → (a ≡ true → xx < w.width) → (b ≡ true → yy < w.height) → P (cond (a && (b && c)) (f xx yy) t)
      go xx yy true true true p q = h xx yy (p refl) (q refl)
      go xx yy true true false p q = k
      go xx yy true false c p q = k
      go xx yy false b c p q = k

  -- marks that agree, and functions that agree inside the window
  pub sound-same : (bad bad' : ℕ → Bool) → Agree w bad bad' → (x y : ℕ) (d : ℤ × ℤ) (f g : ℕ → ℕ → B) (t u : B)
      → ((xx yy : ℕ) → xx < w.width → yy < w.height → f xx yy ≡ g xx yy) → t ≡ u
      → sound w.width w.height period bad x y d f t ≡ sound w.width w.height period bad' x y d g u
  unfolding sound
  sound-same bad bad' same x y d f g t u h k =
      let xx : ℕ = moved x d.0 period w.width in
      let yy : ℕ = moved y d.1 period w.height in
      let q : ℕ = yy * w.width + xx in
      go xx yy (ltb xx w.width) (ltb yy w.height) (bad q) (bad' q) (ltb-true xx w.width) (ltb-true yy w.height)
      (λ h k. same q (position_in w xx yy h k))
    where
      either : (c : Bool) (xx yy : ℕ) → xx < w.width → yy < w.height → cond (not c) (f xx yy) t ≡ cond (not c) (g xx yy) u
      either true xx yy p q = k
      either false xx yy p q = h xx yy p q

      go : (xx yy : ℕ) (a b c e : Bool) → (a ≡ true → xx < w.width) → (b ≡ true → yy < w.height)
          → (xx < w.width → yy < w.height → c ≡ e)
          → cond (a && (b && not c)) (f xx yy) t ≡ cond (a && (b && not e)) (g xx yy) u
      go xx yy true true c e p q r = either c xx yy (p refl) (q refl) ∙ ap (λ (z : Bool). cond (not z) (g xx yy) u) (r (p refl) (q refl))
      go xx yy true false c e p q r = k
      go xx yy false b c e p q r = k

-- ---- the totals

module _ (w : Window) (period : ℕ) (bad bad' : ℕ → Bool) (same : Agree w bad bad') where
  sound-on-same : (x y : ℕ) (ds : List (ℤ × ℤ))
      → sound_on w.width w.height (step_of period) bad x y ds ≡ sound_on w.width w.height (step_of period) bad' x y ds
  unfolding sound_on
  sound-on-same x y [] = refl
  sound-on-same x y (d ∷ ds) =
      ap₂ ◌+◌ (sound-same w (step_of period) bad bad' same x y d (λ xx yy. 1) (λ xx yy. 1) 0 0 (λ xx yy p q. refl) refl)
      (sound-on-same x y ds)

  sound-at-same : (q : ℕ) → sound_at w period bad q ≡ sound_at w period bad' q
  sound-at-same q = sound-on-same (q % w.width) (q / w.width) steps

  pub marked-same : marked_in w bad ≡ marked_in w bad'
  unfolding marked_in
  marked-same = count_same (positions w) bad bad' same

  pub repaired-same : repaired_in w period bad ≡ repaired_in w period bad'
  unfolding repaired_in
  repaired-same =
      count_same (positions w) (λ q. bad q && leb 1 (sound_at w period bad q)) (λ q. bad' q && leb 1 (sound_at w period bad' q))
      (λ q h. ap₂ (λ (a : Bool) (n : ℕ). a && leb 1 n) (same q h) (sound-at-same q))

  pub left-same : left_in w period bad ≡ left_in w period bad'
  unfolding left_in
  left-same =
      count_same (positions w) (λ q. bad q && eqb (sound_at w period bad q) 0) (λ q. bad' q && eqb (sound_at w period bad' q) 0)
      (λ q h. ap₂ (λ (a : Bool) (n : ℕ). a && eqb n 0) (same q h) (sound-at-same q))

-- ---- room

pub marked-le : (w : Window) (bad : ℕ → Bool) → marked_in w bad ≤ positions w
unfolding marked_in
marked-le w bad = count-le (positions w) bad
