-- Positions and places: a position of the window is below their number, and a place of a complete window is
-- among its samples. Assumes nothing.
use Prim.Native.Nat.{ℕ, ◌+◌, ◌-◌, ◌*◌, ◌/◌, ◌%◌, ◌≤◌, ◌<◌}
use mathlib.Core.Path.{◌≡◌, refl, sym, ap, subst, ◌∙◌}
use mathlib.Core.Bool.{Bool, true, false, ◌&&◌, false≢true}
use mathlib.Core.List.{List}
use native.Mathlib.Nat.{lt_of_lt_of_le, mul-le-mul_right, mul_comm, div-add-mod', mod-lt, div-lt_iff_lt-mul}
use native.Mathlib.Omega.{arith}
use borrow.Author.Tests.{leb-true}
use lib.Arith.{digits_lt, digits_div, digits_mod}
use lib.Dec.{leb}
use lib.ListN.{length, get_or}
use Rattle.std.proofs.lemmas.List.{get_or_default}
use Rattle.dng.specs.declared.Window.{Window}
use Rattle.dng.specs.Select.{active}
use Rattle.dng.specs.Repair.{positions, complete, sample_at, bad_value}
use Rattle.fix_scratch.specs.Marks.{Fits}
use Rattle.fix_constant.specs.Parts.{Whole, Part, same}

pub and_first : (a b : Bool) → (a && b) ≡ true → a ≡ true
and_first true b e = refl
and_first false b e = e

pub and_second : (a b : Bool) → (a && b) ≡ true → b ≡ true
and_second true b e = e
and_second false b e = absurd (false≢true e)

module _ (w : Window) (x y : ℕ) (h : x < w.width) (k : y < w.height) where
  pub position_in : y * w.width + x < positions w
  position_in = subst (λ (n : ℕ). y * w.width + x < n) (mul_comm w.height w.width) (digits_lt k h)

  pub place_in : (n plane : ℕ) → plane < w.planes → complete w n ≡ true → (y * w.stride + x) * w.planes + plane < n
  unfolding complete
  place_in n plane l e =
      let row : y * w.stride ≤ (w.height - 1) * w.stride = mul-le-mul_right w.stride (omega arith) in
      let pixels : ℕ = (w.height - 1) * w.stride + w.width in
      let full : pixels * w.planes ≤ n =
      leb-true (pixels * w.planes) n (and_second (leb 1 w.height) (leb (pixels * w.planes) n) (and_second (active w) _ e)) in
      lt_of_lt_of_le (digits_lt {q = y * w.stride + x} {m = pixels} (omega arith) l) full

-- a position is its row's first and its column
pub position-is : (w : Window) (q : ℕ) → q / w.width * w.width + q % w.width ≡ q
position-is w q = div-add-mod' q w.width

-- what the position of a column and a row holds
pub bad-at : {A : Type 0} (d : A) (w : Window) (test : A → Bool) (s : List A) (x y : ℕ) → x < w.width
    → bad_value d w test s (y * w.width + x) ≡ test (sample_at d w s x y 0)
unfolding bad_value
bad-at d w test s x y h = rw (digits_div y h, digits_mod y h) refl

-- nothing, where no sample passes the test
pub bad-never : {A : Type 0} (d : A) (w : Window) (test : A → Bool) (s : List A) → Fits w → complete w (length s) ≡ true
    → ((k : ℕ) → k < length s → test (get_or s k d) ≡ false) → (q : ℕ) → q < positions w → bad_value d w test s q ≡ false
unfolding bad_value
bad-never d w test s f e t q h =
    t _ (place_in w (q % w.width) (q / w.width) (mod-lt q f.wide) row (length s) 0 f.some e)
  where
    row : q / w.width < w.height
    row = (div-lt_iff_lt-mul f.wide).1 (subst (λ (n : ℕ). q < n) (mul_comm w.width w.height) h)

-- and what was read there
pub bad-read : {A : Type 0} (d : A) (w : Window) (test : A → Bool) (s : List A) (x y at : ℕ) (b : Bool) → x < w.width
    → at ≡ (y * w.stride + x) * w.planes + 0 → test (get_or s at d) ≡ b → bad_value d w test s (y * w.width + x) ≡ b
bad-read d w test s x y at b h e t = bad-at d w test s x y h ∙ ap (λ (j : ℕ). test (get_or s j d)) (sym e) ∙ t

-- column x of a part is there; and a read of it, at any default, says whether its position holds k
module _ {A : Type 0} (w : Window) (s : List A) (y from end x at : ℕ) (g : Whole (length s) w) (p : Part w y from end) (h : x < end)
    (e : at ≡ (y * w.stride + x) * w.planes + 0) where
  pub part_read : at < length s
  part_read = rw e (place_in w x y (omega (arith, p.edge)) p.row (length s) 0 g.fits.some g.full)

  pub same-read : (none d : A) (eq : A → A → Bool) (k : A) (b : Bool) → b ≡ eq (get_or s at d) k → same none eq w k s (y * w.width + x) ≡ b
  same-read none d eq k b t =
      bad-read none w (λ v. eq v k) s x y at b (omega (arith, p.edge)) e
      (ap (λ (v : A). eq v k) (get_or_default s at none d part_read) ∙ sym t)
