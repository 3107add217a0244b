-- The cases of `found_for`, by the number that asks, and that it determines the answer. Assumes nothing.
use Prim.Native.Nat.{ℕ}
use mathlib.Core.Path.{◌≡◌, sym, ◌∙◌}
use mathlib.Core.List.{List}
use borrow.Author.Tests.{ne_eqb}
use Rattle.list_find.specs.declared.Which.TheVariants.{List1, List2, List3}
use Rattle.list_find.specs.Walk.{found_in}
use Rattle.rolbhunga.specs.declared.find.FindNumbers.{FindNumbers}
use Rattle.rolbhunga.specs.Find.{none, told, found_for}

module _ (s : List ℕ) {which : ℕ} {r : FindNumbers} where
  pub find-1 : which ≡ 1 → r ≡ told (found_in s List1) → r ≡ found_for s which
  unfolding found_for
  find-1 e q = rw e q

  pub find-2 : which ≡ 2 → r ≡ told (found_in s List2) → r ≡ found_for s which
  unfolding found_for
  find-2 e q = rw e q

  pub find-3 : which ≡ 3 → r ≡ told (found_in s List3) → r ≡ found_for s which
  unfolding found_for
  find-3 e q = rw e q

  pub find-no : (which ≡ 1 → ⊥) → (which ≡ 2 → ⊥) → (which ≡ 3 → ⊥) → r ≡ none 1 → r ≡ found_for s which
  unfolding found_for
  find-no a b c q = simp (ne_eqb which 1 a, ne_eqb which 2 b, ne_eqb which 3 c) q

pub find-determined : (s : List ℕ) (which : ℕ) (r r' : FindNumbers) → r ≡ found_for s which → r' ≡ found_for s which → r ≡ r'
find-determined s which r r' p q = p ∙ sym q
