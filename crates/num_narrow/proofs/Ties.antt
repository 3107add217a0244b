-- A quotient to the nearest whole number, a tie to the even one, as integer arithmetic computes it: add a half less one and the low bit,
-- then divide.
-- Nothing here is about floats.
use mathlib.Core.Path.{◌≡◌, refl, sym, ap, ◌∙◌, subst}
use mathlib.Core.Logic.{◌⊎◌, inl, inr}
use Prim.Native.Nat.{ℕ, zero, suc, ◌+◌, ◌-◌, ◌*◌, ◌/◌, ◌%◌, ◌≤◌, ◌<◌, compare, Ordering}
use native.Mathlib.Nat.{add-zero, suc-mul, zero-lt-suc, mod-lt, mod-eq_of_lt, div-eq_of_lt, div-add-mod'}
use native.Mathlib.Omega.{arith}
use mathlib.Core.Bool.{not}
use lib.Dec.{T, is_le, compare_is_eq, eqb, leb→le, nleb→lt, eqb→eq, eqb_refl}
use lib.Arith.{digits_div, lt_of_le-ne}
use lib.Ieee.{nearest}
use lib.Ieee.Nearest.{closest}

-- ---- what `compare` says
abbrev Cmp : Ordering → ℕ → ℕ → Type 0
Cmp Ordering.lt a b = a < b
Cmp Ordering.eq a b = a ≡ b
Cmp Ordering.gt a b = b < a

cmp : (a b : ℕ) → Cmp (compare a b) a b
cmp a b = go (compare a b) (leb→le a b) (nleb→lt a b) (eqb→eq a b) (λ (e : a ≡ b). subst (λ (x : ℕ). T (eqb a x)) e (eqb_refl a))
  where
    go : (o : Ordering) → (T (is_le o) → a ≤ b) → (T (not (is_le o)) → b < a) → (T (compare_is_eq o) → a ≡ b) → (a ≡ b → T (compare_is_eq o)) → Cmp o a b
    go Ordering.lt h k e n = lt_of_le-ne (h tt) n
    go Ordering.eq h k e n = e tt
    go Ordering.gt h k e n = k tt

-- ---- a quotient from its bounds
pub div-at : (w u n : ℕ) → w * u ≤ n → n < w * u + u → n / u ≡ w
div-at w u n lo hi = ap (λ (x : ℕ). x / u) (sym (whole (w * u) n lo)) ∙ digits_div w (rest (w * u) n u lo hi)
  where
    whole : (p n : ℕ) → p ≤ n → p + (n - p) ≡ n
    whole p n h = omega arith

    rest : (p n u : ℕ) → p ≤ n → n < p + u → n - p < u
    rest p n u h k = omega arith

-- ---- the three cases. p stands for w * (2 * h), the part of q below its remainder r; e is the low bit of w
floor-lo : (p q r h e : ℕ) → p + r ≡ q → p ≤ q + (h - 1) + e
floor-lo p q r h e d = omega arith

below-hi : (p q r h e : ℕ) → p + r ≡ q → r * 2 < 2 * h → e < 2 → q + (h - 1) + e < p + 2 * h
below-hi p q r h e d l b = omega arith

even-hi : (p q r h : ℕ) → p + r ≡ q → r * 2 ≡ 2 * h → 0 < h → q + (h - 1) + 0 < p + 2 * h
even-hi p q r h d l z = omega arith

odd-lo : (p q r h : ℕ) → p + r ≡ q → r * 2 ≡ 2 * h → 0 < h → p + 2 * h ≤ q + (h - 1) + 1
odd-lo p q r h d l z = omega arith

odd-hi : (p q r h : ℕ) → p + r ≡ q → r * 2 ≡ 2 * h → 0 < h → q + (h - 1) + 1 < p + 2 * h + 2 * h
odd-hi p q r h d l z = omega arith

above-lo : (p q r h e : ℕ) → p + r ≡ q → 2 * h < r * 2 → p + 2 * h ≤ q + (h - 1) + e
above-lo p q r h e d l = omega arith

above-hi : (p q r h e : ℕ) → p + r ≡ q → r < 2 * h → e < 2 → 0 < h → q + (h - 1) + e < p + 2 * h + 2 * h
above-hi p q r h e d l b z = omega arith

one_less : (e : ℕ) → e < 2 → (e ≡ 0) ⊎ (e ≡ 1)
one_less zero h = inl refl
one_less (suc zero) h = inr refl
one_less (suc (suc e)) h = absurd (no e h)
  where
    no : (e : ℕ) → suc (suc e) < 2 → ⊥
    no e h = omega arith

up_one : (w u n : ℕ) → w * u + u ≤ n → n < w * u + u + u → n / u ≡ suc w
up_one w u n lo hi =
    div-at (suc w) u n (subst (λ (x : ℕ). x ≤ n) (sym (suc-mul w u)) lo) (subst (λ (x : ℕ). n < x + u) (sym (suc-mul w u)) hi)

pub closest-is : (q h : ℕ) → 0 < h → closest q (2 * h) ≡ (q + (h - 1) + q / (2 * h) % 2) / (2 * h)
closest-is q h H = go (compare (r * 2) u) (cmp (r * 2) u)
  where
    u : ℕ
    u = 2 * h

    w : ℕ
    w = q / u

    r : ℕ
    r = q % u

    n : ℕ
    n = q + (h - 1) + w % 2

    cut : w * u + r ≡ q
    cut = div-add-mod' q u

    bit : w % 2 < 2
    bit = mod-lt w (zero-lt-suc 1)

    small : r < u
    small = mod-lt q (twice h H)
      where
        twice : (h : ℕ) → 0 < h → 0 < 2 * h
        twice h z = omega arith

    go : (o : Ordering) → Cmp o (r * 2) u → nearest w o ≡ n / u
    go Ordering.lt c = sym (div-at w u n (floor-lo (w * u) q r h (w % 2) cut) (below-hi (w * u) q r h (w % 2) cut c bit))
    go Ordering.eq c = tie (one_less (w % 2) bit)
      where
        tie : (w % 2 ≡ 0) ⊎ (w % 2 ≡ 1) → w + w % 2 ≡ n / u
        tie (inl e) =
            ap (λ (x : ℕ). w + x) e
            ∙ add-zero w
            ∙ sym
            (ap (λ (x : ℕ). (q + (h - 1) + x) / u) e
            ∙ div-at w u (q + (h - 1) + 0) (floor-lo (w * u) q r h 0 cut) (even-hi (w * u) q r h cut c H))
        tie (inr e) =
            ap (λ (x : ℕ). w + x) e
            ∙ next-is w
            ∙ sym
            (ap (λ (x : ℕ). (q + (h - 1) + x) / u) e
            ∙ up_one w u (q + (h - 1) + 1) (odd-lo (w * u) q r h cut c H) (odd-hi (w * u) q r h cut c H))
          where
            next-is : (w : ℕ) → w + 1 ≡ suc w
            next-is w = omega arith
    go Ordering.gt c = sym (up_one w u n (above-lo (w * u) q r h (w % 2) cut c) (above-hi (w * u) q r h (w % 2) cut small bit H))

-- ---- up to a half: 0
pub closest-none : (q u : ℕ) → 0 < u → q * 2 ≤ u → closest q u ≡ 0
closest-none q u U h =
    ap (λ (x : ℕ). nearest x (compare (q % u * 2) u)) (div-eq_of_lt l)
    ∙ ap (λ (x : ℕ). nearest 0 (compare (x * 2) u)) (mod-eq_of_lt l)
    ∙ go (compare (q * 2) u) (cmp (q * 2) u)
  where
    half : (q u : ℕ) → 0 < u → q * 2 ≤ u → q < u
    half q u z h = omega arith

    l : q < u
    l = half q u U h

    no : (a b : ℕ) → a ≤ b → b < a → ⊥
    no a b x y = omega arith

    go : (o : Ordering) → Cmp o (q * 2) u → nearest 0 o ≡ 0
    go Ordering.lt c = refl
    go Ordering.eq c = refl
    go Ordering.gt c = absurd (no (q * 2) u h c)
