-- Marks that ascend leave a position free between two that follow each other. Assumes nothing.
use Prim.Native.Nat.{ℕ, ◌-◌, ◌≤◌, ◌<◌}
use mathlib.Core.Path.{◌≡◌, sym, subst}
use mathlib.Core.Bool.{true, false}
use mathlib.Core.List.{List}
use native.Mathlib.Omega.{arith}
use lib.ListN.{length, get_or}
use Rattle.num_sorted.specs.Sorts.{occ, has, Rises}
use Rattle.num_sorted.proofs.Occ.{below_or, equal-or, occ-some, occ-at, some-has, none_has, rises-places}
use Rattle.fix_places.specs.Beside.{Under, Over, Free}

module _ (marks : List ℕ) (rises : Rises 0 marks) where
  -- two entries
  pub ascend : (i j : ℕ) → i < j → j < length marks → get_or marks i 0 < get_or marks j 0
  ascend i j h k = rises-places 0 marks i j h k rises

  pub under-from : (at lo : ℕ) → 1 ≤ at → at ≤ length marks → get_or marks (at - 1) 0 < lo → Under marks at lo
  under-from at lo h k l j m =
      equal-or j (at - 1) (λ e. subst (λ (z : ℕ). get_or marks z 0 < lo) (sym e) l)
      (λ d. omega (arith, l, ascend j (at - 1) (omega arith) (omega arith)))

  pub over-from : (at hi : ℕ) → hi < get_or marks at 0 → Over marks at hi
  over-from at hi l j h k =
      equal-or at j (λ e. subst (λ (z : ℕ). hi < get_or marks z 0) e l) (λ d. omega (arith, l, ascend at j (omega arith) k))

-- what stands at no entry is not marked
pub nowhere : (marks : List ℕ) (t : ℕ) → ((j : ℕ) → j < length marks → get_or marks j 0 ≡ t → ⊥) → has marks t ≡ false
nowhere marks t f =
    none_has marks t (below_or 0 (occ marks t) (λ h. let w = occ-some marks t h in absurd (f w.0 w.1 w.2)) (λ h. omega arith))

pub free-between : (marks : List ℕ) (at lo hi : ℕ) → Under marks at lo → Over marks at hi → Free marks lo hi
free-between marks at lo hi u o t l m =
    nowhere marks t (λ j h e. below_or j at (λ k. omega (arith, u j k)) (λ k. omega (arith, o j k h)))

-- what stands at an entry is marked
pub standing : (marks : List ℕ) (at q : ℕ) → at < length marks → get_or marks at 0 ≡ q → has marks q ≡ true
standing marks at q h e = some-has marks q (subst (λ (z : ℕ). 1 ≤ occ marks z) e (occ-at marks at h))
