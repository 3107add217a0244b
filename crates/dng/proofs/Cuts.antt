-- Where the first field starts that is not whole: never past the bytes that are there; of fields of one size; of two groups of fields.
-- Assumes nothing.
use mathlib.Core.Path.{◌≡◌, sym, ap, ◌∙◌}
use mathlib.Core.Bool.{cond}
use mathlib.Core.List.{List, [], ◌∷◌, ◌++◌}
use Prim.Native.Nat.{ℕ, zero, suc, ◌+◌, ◌-◌, ◌*◌, ◌/◌, ◌≤◌, ◌<◌, zero-le}
use native.Mathlib.Numerals.{unary_clauses}
use native.Mathlib.Nat.{add_assoc, suc-mul, zero-add, zero-mul, mul-zero, mul-suc, add-mul, add-div_right, div-eq_of_lt}
use native.Mathlib.Decide.{dec_le}
use native.Mathlib.Omega.{arith}
use borrow.Author.Tests.{le-leb, lt-leb}
use lib.Dec.{leb}
use lib.ListN.{replicate}
use Rattle.dng.specs.List.{extent, first_cut}

pub extent-append : (xs ys : List ℕ) → extent (xs ++ ys) ≡ extent xs + extent ys
unfolding extent
extent-append [] ys = sym (zero-add (extent ys))
extent-append (x ∷ xs) ys = ap (λ (k : ℕ). x + k) (extent-append xs ys) ∙ sym (add_assoc x (extent xs) (extent ys))

pub extent-same : (n k : ℕ) → extent (replicate n k) ≡ n * k
unfolding extent
extent-same zero k = sym (zero-mul k)
extent-same (suc n) k = omega (arith, extent-same n k, suc-mul n k)

pub cut-bound : (fields : List ℕ) (n : ℕ) → first_cut fields n ≤ n
unfolding first_cut
cut-bound [] n = zero-le
cut-bound (k ∷ ks) n = go (λ l. cut-bound ks (n - k)) (dec_le k n)
  where
    go : (k ≤ n → first_cut ks (n - k) ≤ n - k) → Dec (k ≤ n) → cond (leb k n) (k + first_cut ks (n - k)) 0 ≤ n
    go r (yes l) = simp (le-leb _ _ l) (omega (arith, r l))
    go r (no l) = simp (lt-leb k n (omega arith)) zero-le

-- fields of one size: the last multiple of it
pub cut-same : (k n len : ℕ) → 0 < k → len < k * n → first_cut (replicate n k) len ≡ len / k * k
unfolding first_cut
cut-same k zero len p h = absurd (omega (arith, mul-zero k))
cut-same k (suc n) len p h = go (λ l. cut-same k n (len - k) p (omega (arith, mul-suc k n))) (dec_le k len)
  where
    go :
        (k ≤ len → first_cut (replicate n k) (len - k) ≡ (len - k) / k * k) → Dec (k ≤ len)
        → cond (leb k len) (k + first_cut (replicate n k) (len - k)) 0 ≡ len / k * k
    go r (yes l) =
        let e : len - k + k ≡ len = omega arith in
        let d : len / k ≡ (len - k) / k + 1 = ap (λ (x : ℕ). x / k) (sym e) ∙ add-div_right (len - k) p in
        simp (le-leb _ _ l, d) (omega (arith, r l, add-mul ((len - k) / k) 1 k))
    go r (no l) = let h : len < k = omega arith in simp (lt-leb k len h, div-eq_of_lt h, zero-mul)

-- two groups: in the first, or after all of it
pub cut-early : (xs ys : List ℕ) (len : ℕ) → len < extent xs → first_cut (xs ++ ys) len ≡ first_cut xs len
unfolding first_cut extent
cut-early [] ys len h = absurd (omega arith)
cut-early (x ∷ xs) ys len h = go (λ l. cut-early xs ys (len - x) (omega arith)) (dec_le x len)
  where
    go :
        (x ≤ len → first_cut (xs ++ ys) (len - x) ≡ first_cut xs (len - x)) → Dec (x ≤ len)
        → cond (leb x len) (x + first_cut (xs ++ ys) (len - x)) 0 ≡ cond (leb x len) (x + first_cut xs (len - x)) 0
    go r (yes l) = simp (le-leb _ _ l) (ap (λ (k : ℕ). x + k) (r l))
    go r (no l) = simp (lt-leb x len (omega arith))

pub cut-late :
    (xs ys : List ℕ) (len : ℕ) → extent xs ≤ len → first_cut (xs ++ ys) len ≡ extent xs + first_cut ys (len - extent xs)
unfolding first_cut extent
cut-late [] ys len h = sym (simp unary_clauses (zero-add _))
cut-late (x ∷ xs) ys len h =
    let l : x ≤ len = omega arith in
    let e : len - x - extent xs ≡ len - (x + extent xs) = omega arith in
    let i = cut-late xs ys (len - x) (omega arith) in
    simp (le-leb _ _ l) (omega (arith, i, ap (λ (k : ℕ). first_cut ys k) e))

-- the field after a group
pub cut-here :
    (xs : List ℕ) (k : ℕ) (ys : List ℕ) (len : ℕ) → extent xs ≤ len → len < extent xs + k → first_cut (xs ++ (k ∷ ys)) len ≡ extent xs
unfolding first_cut
cut-here xs k ys len h l =
    let none : first_cut (k ∷ ys) (len - extent xs) ≡ 0 = simp (lt-leb k (len - extent xs) (omega arith)) in
    cut-late xs (k ∷ ys) len h ∙ omega (arith, none)
