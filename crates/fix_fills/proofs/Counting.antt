-- Counts over a list of marks, entry by entry. Assumes nothing.
use Prim.Native.Nat.{ℕ, ◌+◌, ◌≤◌, ◌<◌}
use mathlib.Core.Path.{◌≡◌, refl}
use mathlib.Core.Bool.{Bool, cond}
use mathlib.Core.List.{List, [], ◌∷◌, ◌++◌}
use native.Mathlib.Nat.{add-zero}
use native.Mathlib.Numerals.{add-one}
use native.Mathlib.Omega.{arith}
use lib.ListN.{length, get_or, take}
use lib.Seq.{take-suc}
use Rattle.num_sorted.proofs.Occ.{by_cases}
use Rattle.fix_fills.specs.Fills.{count_in}

module _ (f : ℕ → Bool) where
  count-append : (l r : List ℕ) → count_in f (l ++ r) ≡ count_in f l + count_in f r
  unfolding count_in
  count-append [] r = omega arith
  count-append (q ∷ l) r = omega (arith, count-append l r)

  pub count-few : (l : List ℕ) → count_in f l ≤ length l
  unfolding count_in
  count-few [] = omega arith
  count-few (q ∷ l) =
      by_cases (f q) (λ e. rw e (omega (arith, count-few l))) (λ e. rw e (omega (arith, count-few l)))

  count-one : (q : ℕ) → count_in f (q ∷ []) ≡ cond (f q) 1 0
  unfolding count_in
  count-one q = add-zero (cond (f q) 1 0)

  pub count_next : (l : List ℕ) (i : ℕ) → i < length l → count_in f (take (i + 1) l) ≡ count_in f (take i l) + cond (f (get_or l i 0)) 1 0
  count_next l i h = rw (add-one, take-suc l i 0 h, count-append, count-one) refl
