-- The two passes over a block of a walk: evaluated and written, the walk stands as many samples further. Assumes nothing.
use Prim.Native.Nat.{ℕ, zero, suc, ◌+◌, ◌-◌, ◌*◌, ◌≤◌, ◌<◌, min}
use mathlib.Core.Path.{◌≡◌, refl, sym, ap, subst, ◌∙◌}
use mathlib.Core.List.{List}
use native.Mathlib.Nat.{zero-mul, add-zero, suc-mul, mul-le-mul_right}
use native.Mathlib.Omega.{arith}
use lib.ListN.{length, get_or, set}
use lib.Seq.{get_or-set_other}
use lib.Ieee.{Float, nan}
use Rattle.row_select.specs.declared.Walk.{Walk}
use Rattle.row_select.specs.Walks.{Walks}
use Rattle.row_select.proofs.Sizes.{step-goes}
use Rattle.row_select.proofs.Going.{Going, next}
use Rattle.num_narrow.specs.Narrow.{narrow}
use Rattle.dng.specs.Value.{map_polynomial}
use Rattle.row_polynomial.specs.declared.polynomial.Polynomial.{Polynomial}
use Rattle.row_polynomial.specs.Terms.{Holds, xOf, wide_of}
use Rattle.row_polynomial.specs.Blocks.{Block, Evaluated, written}
use Rattle.row_polynomial.proofs.Horner.{read-value}

-- what is done at every sample of the walk
abbrev pub mapped : Polynomial → ℕ → ℕ → Float → Float
mapped p x q v = narrow (wide_of p v)

-- which is the definition's, where the polynomial was read from the body
pub mapped-is : (p : Polynomial) {degree : ℕ} {scale : Float} {b : List ℕ} → Holds p degree scale b → (x q : ℕ) (v : Float)
    → mapped p x q v ≡ map_polynomial scale degree b v
unfolding map_polynomial xOf wide_of
mapped-is p {degree} {scale} {b} h x q v = rw (read-value p h, h.scale_is) refl

-- sample j of n lies a step or more before the place after the last
before_last : (step j n : ℕ) → j < n → j * step + step ≤ n * step
before_last step j n h = omega (arith, mul-le-mul_right {m = suc j} {n = n} step (omega arith), suc-mul j step)

-- so it is one of the row's
pub inside : {i step n len : ℕ} (j : ℕ) → Block i step n len → j < n → i + j * step < len
inside {i} {step} {n} j b h = omega (arith, b.ends, before_last step j n h)

-- ---- writing

module _ (i step : ℕ) (xs row : List Float) where
  pub written_none : row ≡ written i step xs 0 row
  unfolding written
  written_none = refl

  one_more : (n : ℕ) → set (written i step xs n row) (i + n * step) (narrow (get_or xs n nan)) ≡ written i step xs (suc n) row
  unfolding written
  one_more n = refl

  pub written_next : (n at : ℕ) {now : List Float} {v : Float} → now ≡ written i step xs n row → at ≡ i + n * step
      → v ≡ narrow (get_or xs n nan) → set now at v ≡ written i step xs (n + 1) row
  written_next n at e p q = rw (e, p, q) (one_more n ∙ ap (λ (m : ℕ). written i step xs m row) (omega arith))

  -- what lies past the n samples is as it was
  pub written-past : (n p : ℕ) → 1 ≤ step → i + n * step ≤ p → get_or (written i step xs n row) p nan ≡ get_or row p nan
  unfolding written
  written-past zero p s h = refl
  written-past (suc n) p s h =
      get_or-set_other (written i step xs n row) (i + n * step) p _ nan (λ e. omega (arith, suc-mul n step))
      ∙ written-past n p s (omega (arith, suc-mul n step))

-- ---- the walk

module _ {k : Walk} {len : ℕ} {g : ℕ → ℕ → Float → Float} {l row : List Float} {c i n : ℕ} (xs : List Float) (w : Walks k len)
    (u : Going k g l row c i)
    (ends : i + n * (k.pitch * k.planes) < min (length l) ((k.right - k.x0) * k.planes) + k.pitch * k.planes)
    (values : (j : ℕ) → j < n → (x p : ℕ) → narrow (get_or xs j nan) ≡ g x p (get_or row (i + j * (k.pitch * k.planes)) nan)) where
  some_written : (m : ℕ) → m ≤ n
      → Going k g l (written i (k.pitch * k.planes) xs m row) (c + m * k.pitch) (i + m * (k.pitch * k.planes))
  unfolding written
  some_written zero h = simp (zero-mul, add-zero) u
  some_written (suc m) h =
      let s = k.pitch * k.planes in
      subst (λ (z : ℕ). Going k g l (written i s xs (suc m) row) (c + suc m * k.pitch) z) (omega (arith, suc-mul m s))
      (subst (λ (z : ℕ). Going k g l (written i s xs (suc m) row) z (i + m * s + s)) (omega (arith, suc-mul m k.pitch))
      (next w (some_written m (omega arith)) nan (omega (arith, ends, before_last s m n h))
      (values m h _ _ ∙ ap (g _ _) (sym (written-past i s xs row m _ (step-goes w) (omega arith))))))

-- a block evaluated and written: the walk stands n samples further
pub block-done : {k : Walk} {len : ℕ} (p : Polynomial) {l row : List Float} {c i : ℕ} (n : ℕ) (xs row' : List Float) → Walks k len
    → let step = k.pitch * k.planes in
    Going k (mapped p) l row c i → i + n * step < min (length l) ((k.right - k.x0) * k.planes) + step → length xs ≡ n
    → Evaluated p i step row xs → row' ≡ written i step xs (length xs) row
    → Going k (mapped p) l row' (c + n * k.pitch) (i + n * step)
block-done {k} p {l} {row} {c} {i} n xs row' w u ends size e is =
    let step = k.pitch * k.planes in
    subst (λ (z : List Float). Going k (mapped p) l z (c + n * k.pitch) (i + n * step))
    (sym (is ∙ ap (λ (m : ℕ). written i step xs m row) size))
    (some_written xs w u ends (λ j h x q. ap narrow (e j (omega (arith, size)))) n (omega arith))
