-- Horner over coefficients of which the high ones are 0: a 0 above the highest changes nothing, whatever x is, since at least one follows.
-- Assumes nothing.
use Prim.Native.Nat.{ℕ, zero, suc, ◌+◌, ◌-◌, ◌*◌, ◌≤◌, ◌<◌}
use mathlib.Core.Path.{◌≡◌, refl, ap, ◌∙◌}
use mathlib.Core.Bool.{Bool, true, false}
use mathlib.Core.List.{List}
use native.Mathlib.Nat.{not-suc-le-zero}
use native.Mathlib.Omega.{arith}
use lib.IntN.{ℤ, pos}
use lib.ListN.{get_or}
use lib.Dec.{lit≤}
use lib.Ieee.{Float, nan, inf, fin, binary64, round, add, mul, sum, units, odd, size, span, climb, up, down, of_bits}
use lib.Ieee.Scale.{round_same}
use lib.Ieee.Fits.{down_pos}
use borrow.Author.Tests.{le-leb, lt-leb}
use Rattle.dng.specs.List.{f64_at}
use Rattle.dng.specs.Value.{nought, horner}
use Rattle.row_polynomial.specs.declared.polynomial.Polynomial.{Polynomial}
use Rattle.row_polynomial.specs.Terms.{term_at, Holds, step, over, value_of}

-- ---- 0·x + 0 stands for 0 in the next product

zero-round : (s : Bool) (a d : ℕ) → a ≡ 0 → 0 < d → round binary64 s a d ≡ fin s 0 (pos 0)
unfolding round units odd size span climb
zero-round s a d z h = round_same binary64 s a d 0 1 h (lit≤ tt) (omega arith)

nought-mul : (s : Bool) (m : ℕ) (e : ℤ) → mul binary64 nought (fin s m e) ≡ fin s 0 (pos 0)
unfolding mul
nought-mul true m e = zero-round true (0 * (m * up e)) (1 * down e) (omega arith) (omega (arith, down_pos e))
nought-mul false m e = zero-round false (0 * (m * up e)) (1 * down e) (omega arith) (omega (arith, down_pos e))

nought-add : (s : Bool) → add binary64 (fin s 0 (pos 0)) nought ≡ nought
unfolding add sum round units odd size span climb
nought-add true = refl
nought-add false = refl

pub again : (x : Float) → mul binary64 (step x nought nought) x ≡ mul binary64 nought x
unfolding mul add
again nan = refl
again (inf s) = refl
again (fin s m e) =
    ap (λ (z : Float). mul binary64 z (fin s m e)) (ap (λ (z : Float). add binary64 z nought) (nought-mul s m e) ∙ nought-add s)

-- ---- so a 0 above the highest coefficient may be left out

one_less : (c : ℕ → Float) (x : Float) (n : ℕ) → c (suc n) ≡ nought → over c x (suc (suc n)) nought ≡ over c x (suc n) nought
unfolding over
one_less c x n z =
    ap (λ (a : Float). over c x (suc n) (step x nought a)) z
    ∙ ap (λ (a : Float). over c x n (add binary64 a (c n))) (again x)

pub fewer : (c : ℕ → Float) (x : Float) (n j : ℕ) → ((k : ℕ) → n < k → c k ≡ nought)
    → over c x (suc (j + n)) nought ≡ over c x (suc n) nought
fewer c x n zero z = ap (λ (m : ℕ). over c x (suc m) nought) (omega arith)
fewer c x n (suc j) z =
    ap (λ (m : ℕ). over c x (suc m) nought) (omega arith)
    ∙ one_less c x (j + n) (z (suc (j + n)) (omega arith)) ∙ fewer c x n j z

-- ---- the definition's, over the coefficients of the body

same : (c d : ℕ → Float) (x : Float) (n : ℕ) (acc : Float) → ((k : ℕ) → k < n → c k ≡ d k) → over c x n acc ≡ over d x n acc
unfolding over
same c d x zero acc h = refl
same c d x (suc n) acc h =
    ap (λ (a : Float). over c x n (step x acc a)) (h n (omega arith)) ∙ same c d x n (step x acc (d n)) (λ k l. h k (omega arith))

is-horner : (b : List ℕ) (x : Float) (n : ℕ) (acc : Float) → over (λ k. f64_at b (36 + 8 * k)) x n acc ≡ horner b x n acc
unfolding over horner
is-horner b x zero acc = refl
is-horner b x (suc n) acc = is-horner b x n (step x acc (f64_at b (36 + 8 * n)))

pub term_in : (degree : ℕ) (b : List ℕ) (k : ℕ) → k ≤ degree → term_at degree b k ≡ f64_at b (36 + 8 * k)
unfolding term_at
term_in degree b k h = simp (le-leb _ _ h)

pub term-out : (degree : ℕ) (b : List ℕ) (k : ℕ) → degree < k → term_at degree b k ≡ nought
unfolding term_at
term-out degree b k h = simp (lt-leb _ _ h)

-- ---- as the code has it, from its own 0.0

pub from_zero : of_bits binary64 0 ≡ nought
unfolding of_bits
from_zero = refl

-- one coefficient more, and no more
pub one_more : (c : ℕ → Float) (x acc v : Float) (k : ℕ) {z : Float} → 0 < k → v ≡ c (k - 1) → over c x k acc ≡ z
    → over c x (k - 1) (step x acc v) ≡ z
unfolding over
one_more c x acc v zero h e is = absurd (not-suc-le-zero h)
one_more c x acc v (suc k) h e is =
    let low : suc k - 1 ≡ k = omega arith in
    ap (λ (m : ℕ). over c x m (step x acc v)) low ∙ ap (λ (a : Float). over c x k (step x acc a)) (e ∙ ap c low) ∙ is

pub none_left : (c : ℕ → Float) (x acc : Float) (k : ℕ) {z : Float} → k ≤ 0 → over c x k acc ≡ z → acc ≡ z
unfolding over
none_left c x acc zero h is = is
none_left c x acc (suc k) h is = absurd (not-suc-le-zero h)

module _ (p : Polynomial) where
  -- over the low n, and the rest are 0
  pub low : (x : Float) (n : ℕ) → p.degree < n → over (λ k. get_or p.terms k nought) x n nought ≡ value_of p x
  unfolding value_of
  low x n h =
      ap (λ (m : ℕ). over (λ k. get_or p.terms k nought) x m nought) (omega arith)
      ∙ fewer (λ k. get_or p.terms k nought) x p.degree (n - suc p.degree) p.above

  -- the definition's value of a polynomial that was read from a body
  pub read-value : {degree : ℕ} {scale : Float} {b : List ℕ} → Holds p degree scale b → (x : Float)
      → value_of p x ≡ horner b x (suc degree) nought
  unfolding value_of
  read-value {degree} {scale} {b} h x =
      ap (λ (n : ℕ). over (λ k. get_or p.terms k nought) x (suc n) nought) h.degree_is
      ∙ same (λ k. get_or p.terms k nought) (λ k. f64_at b (36 + 8 * k)) x (suc degree) nought
      (λ k l. h.terms_are k ∙ term_in degree b k (omega arith))
      ∙ is-horner b x (suc degree) nought
