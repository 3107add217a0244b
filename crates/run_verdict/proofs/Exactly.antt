-- Exactly when a frame is whole. Assumes nothing.
use Prim.Native.Nat.{ℕ, zero, suc}
use mathlib.Core.Path.{◌≡◌, refl, sym, ap, subst, ◌∙◌}
use mathlib.Core.Bool.{Bool, true, false, ◌&&◌, ◌||◌, false≢true}
use mathlib.Core.List.{List, [], ◌∷◌}
use native.Mathlib.Omega.{arith}
use borrow.Author.Tests.{eqb-true, eq-eqb}
use lib.Dec.{eqb}
use lib.ListN.{drop}
use Rattle.dng.specs.List.{Item, optional_of}
use Rattle.dng.specs.Run.{kept_in}
use Rattle.run_verdict.specs.Verdict.{had_effect, whole_items, ExactlyWhole}

first : (a b : Bool) → (a && b) ≡ true → a ≡ true
first true b h = refl
first false b h = h

second : (a b : Bool) → (a && b) ≡ true → b ≡ true
second true b h = h
second false b h = absurd (false≢true h)

other : (a b : Bool) → (a || b) ≡ true → a ≡ false → b ≡ true
other true b h e = absurd (false≢true (sym e))
other false b h e = h

either : (a b : Bool) → (a ≡ false → b ≡ true) → (a || b) ≡ true
either true b h = refl
either false b h = h refl

module _ (fw fh : ℕ) where
  -- each opcode without the optional flag had its effect
  abbrev All : List Item → Type 0
  All is = (n : ℕ) (i : Item) (rest : List Item) → drop n is ≡ i ∷ rest → optional_of i.entry ≡ false → had_effect fw fh i.op ≡ true

  all : (is : List Item) → whole_items fw fh is ≡ true → All is
  unfolding whole_items
  all [] h zero i rest e o = absurd (let z : ◌≡◌ {A = ℕ} 0 1 = cc in (omega arith))
  all [] h (suc n) i rest e o = absurd (let z : ◌≡◌ {A = ℕ} 0 1 = cc in (omega arith))
  all (j ∷ js) h zero i rest e o =
      let same : j ≡ i = cc in
      subst (λ (k : Item). had_effect fw fh k.op ≡ true) same
      (other (optional_of j.entry) (had_effect fw fh j.op) (first (optional_of j.entry || had_effect fw fh j.op) (whole_items fw fh js) h)
      (ap (λ (k : Item). optional_of k.entry) same ∙ o))
  all (j ∷ js) h (suc n) i rest e o = all js (second (optional_of j.entry || had_effect fw fh j.op) (whole_items fw fh js) h) n i rest e o

  whole : (is : List Item) → All is → whole_items fw fh is ≡ true
  unfolding whole_items
  whole [] h = refl
  whole (j ∷ js) h =
      ap (λ (b : Bool). b && whole_items fw fh js) (either (optional_of j.entry) (had_effect fw fh j.op) (h 0 j js refl))
      ∙ whole js (λ n i rest e o. h (suc n) i rest e o)

pub exactly-whole : ExactlyWhole
exactly-whole fw fh preview list number = (
  λ h. (
    eqb-true number 0 (first (eqb number 0) (whole_items fw fh (kept_in preview list)) h),
    all fw fh (kept_in preview list) (second (eqb number 0) (whole_items fw fh (kept_in preview list)) h),
  ),
  λ h. ap (λ (b : Bool). b && whole_items fw fh (kept_in preview list)) (eq-eqb number 0 h.0) ∙ whole fw fh (kept_in preview list) h.1,
)
