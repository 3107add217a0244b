-- What the tests of the counts say as facts. Assumes nothing.
use mathlib.Core.Path.{◌≡◌, refl, sym, ap, ap₂, ◌∙◌, subst, subst⁻¹}
use mathlib.Core.Bool.{Bool, true, false, ◌&&◌}
use Prim.Native.Nat.{ℕ, ◌+◌, ◌*◌, ◌^◌, ◌≤◌, ◌<◌, zero-le, max}
use native.Mathlib.Nat.{mul-one, mul-le-mul_left, mul-lt-mul_of_pos_right, le_of_lt, lt_of_le_of_lt, le-max_right}
use borrow.Author.Tests.{le-leb, leb-true}
use lib.Dec.{leb}
use lib.Pow.{pow-add, pow_pos}
use Rattle.list_counts.specs.Fits.{warp_fits, bad_list_fits, values_fit, degree_fits, gains_fit}

-- ---- a row of comparisons, four of them; a shorter row starts with `0 0`, which computes away

split : (t x : Bool) → true ≡ (t && x) → (t ≡ true) × (true ≡ x)
split true x e = (refl, e)
split false true e = (sym e, refl)
split false false e = (sym e, e)

less : (a b : ℕ) (x : Bool) → true ≡ (leb a b && x) → (a ≤ b) × (true ≡ x)
less a b x e = let p = split (leb a b) x e in (leb-true a b p.0, p.1)

refuted : (b : Bool) → (true ≡ b → ⊥) → false ≡ b
refuted true h = absurd (h refl)
refuted false h = refl

module _ (a b c d e f g h : ℕ) where
  all : a ≤ b → c ≤ d → e ≤ f → g ≤ h → true ≡ (leb a b && (leb c d && (leb e f && leb g h)))
  all i j k l = simp (le-leb a b i, le-leb c d j, le-leb e f k, le-leb g h l)

  none : (a ≤ b → c ≤ d → e ≤ f → g ≤ h → ⊥) → false ≡ (leb a b && (leb c d && (leb e f && leb g h)))
  none n =
      refuted _
      (λ t.
      let p = less a b (leb c d && (leb e f && leb g h)) t in
      let q = less c d (leb e f && leb g h) p.1 in
      let r = less e f (leb g h) q.1 in
      n p.0 q.0 r.0 (leb-true g h (sym r.1)))

-- ---- the tests, of a count m that was read as n

module _ {n m len : ℕ} (e : n ≡ m) where
  pub warp-yes : 4 ≤ len → 1 ≤ n → n ≤ 4 → 4 + (6 * n + 2) * 8 ≤ len → true ≡ warp_fits m len
  unfolding warp_fits
  warp-yes h i j k = subst (λ (x : ℕ). true ≡ warp_fits x len) e (all 4 len 1 n n 4 (4 + (6 * n + 2) * 8) len h i j k)

  pub warp-no : (4 ≤ len → 1 ≤ n → n ≤ 4 → 4 + (6 * n + 2) * 8 ≤ len → ⊥) → false ≡ warp_fits m len
  unfolding warp_fits
  warp-no f = subst (λ (x : ℕ). false ≡ warp_fits x len) e (none 4 len 1 n n 4 (4 + (6 * n + 2) * 8) len f)

  pub degree-yes : 36 ≤ len → n ≤ 8 → 36 + 8 * (n + 1) ≤ len → true ≡ degree_fits m len
  unfolding degree_fits
  degree-yes h i j = subst (λ (x : ℕ). true ≡ degree_fits x len) e (all 0 0 36 len n 8 (36 + 8 * (n + 1)) len zero-le h i j)

  pub degree-no : (36 ≤ len → n ≤ 8 → 36 + 8 * (n + 1) ≤ len → ⊥) → false ≡ degree_fits m len
  unfolding degree_fits
  degree-no f = subst (λ (x : ℕ). false ≡ degree_fits x len) e (none 0 0 36 len n 8 (36 + 8 * (n + 1)) len (λ _ h i j. f h i j))

  pub gains-yes : 76 ≤ len → 1 ≤ n → n ≤ 16777216 → 76 + 4 * n ≤ len → true ≡ gains_fit m len
  unfolding gains_fit
  gains-yes h i j k = subst (λ (x : ℕ). true ≡ gains_fit x len) e (all 76 len 1 n n 16777216 (76 + 4 * n) len h i j k)

  pub gains-no : (76 ≤ len → 1 ≤ n → n ≤ 16777216 → 76 + 4 * n ≤ len → ⊥) → false ≡ gains_fit m len
  unfolding gains_fit
  gains-no f = subst (λ (x : ℕ). false ≡ gains_fit x len) e (none 76 len 1 n n 16777216 (76 + 4 * n) len f)

module _ (size : ℕ) {n m len : ℕ} (e : n ≡ m) where
  pub values-yes : 36 ≤ len → n ≤ 16777216 → 36 + size * n ≤ len → true ≡ values_fit size m len
  unfolding values_fit
  values-yes h i j = subst (λ (x : ℕ). true ≡ values_fit size x len) e (all 0 0 36 len n 16777216 (36 + size * n) len zero-le h i j)

  pub values-no : (36 ≤ len → n ≤ 16777216 → 36 + size * n ≤ len → ⊥) → false ≡ values_fit size m len
  unfolding values_fit
  values-no f = subst (λ (x : ℕ). false ≡ values_fit size x len) e (none 0 0 36 len n 16777216 (36 + size * n) len (λ _ h i j. f h i j))

module _ {n m n' m' len : ℕ} (e : n ≡ m) (e' : n' ≡ m') where
  pub bad-list-yes : 12 ≤ len → 12 + (8 * n + 16 * n') ≤ len → true ≡ bad_list_fits m m' len
  unfolding bad_list_fits
  bad-list-yes h i = all 0 0 0 0 12 len (12 + (8 * n + 16 * n')) len zero-le zero-le h i ∙ ap₂ (λ (x y : ℕ). bad_list_fits x y len) e e'

  pub bad-list-no : (12 ≤ len → 12 + (8 * n + 16 * n') ≤ len → ⊥) → false ≡ bad_list_fits m m' len
  unfolding bad_list_fits
  bad-list-no f = none 0 0 0 0 12 len (12 + (8 * n + 16 * n')) len (λ _ _ h i. f h i) ∙ ap₂ (λ (x y : ℕ). bad_list_fits x y len) e e'

-- ---- products

-- a factor of at least 1 makes no product smaller
pub grows : (g m : ℕ) {p : ℕ} → p ≡ max m 1 → g ≤ g * p
grows g m e = rw e (rw mul-one at (mul-le-mul_left g (le-max_right m 1)))

-- the product of the counts as they were read
pub product : {v h m p v' h' m' : ℕ} → v ≡ v' → h ≡ h' → m ≡ m' → p ≡ max m 1 → v * h * p ≡ v' * h' * max m' 1
product i j k l = ap₂ ◌*◌ (ap₂ ◌*◌ i j) (l ∙ ap (λ (x : ℕ). max x 1) k)

-- numbers of j and of k bits have a product of j + k bits
pub below : (j k : ℕ) {a b : ℕ} → a < 2 ^ j → b < 2 ^ k → a * b < 2 ^ (j + k)
below j k {a} {b} ha hb =
    subst⁻¹ (λ (n : ℕ). a * b < n) (pow-add 2 j k)
    (lt_of_le_of_lt (mul-le-mul_left a (le_of_lt hb)) (mul-lt-mul_of_pos_right ha (pow_pos k)))
