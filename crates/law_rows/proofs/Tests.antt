-- A rule at the places of one test after another, the tests in any order: at each place it is run as often as a test holds there. Where that is
-- once, or the rule changes nothing, it is the rule itself. Rows and tiles are such tests. Over any sample kind A. Assumes nothing.
use Prim.Native.Nat.{ℕ, zero, suc, ◌+◌, ◌<◌}
use mathlib.Core.Path.{◌≡◌, refl, sym, ap, ◌∙◌}
use mathlib.Core.Bool.{Bool, true, false, cond}
use mathlib.Core.List.{List, [], ◌∷◌}
use mathlib.Core.Logic.{◌⊎◌, inl, inr}
use native.Mathlib.Nat.{zero-add}
use native.Mathlib.Omega.{arith}
use lib.ListN.{length}
use Rattle.pointwise.specs.Points.{each}
use Rattle.pointwise.proofs.Each.{each-agree, each_none, each-each}

-- how many of the tests hold at place j
unfoldable pub holding : List (ℕ → Bool) → ℕ → ℕ
holding [] j = 0
holding (b ∷ bs) j = cond (b j) 1 0 + holding bs j

module _ {A : Type 0} where
  -- at the places of one test alone
  unfoldable pub only : (ℕ → Bool) → (ℕ → A → A) → ℕ → A → A
  only b f j v = cond (b j) (f j v) v

  -- test after test
  unfoldable pub in_turn : (ℕ → A → A) → List (ℕ → Bool) → List A → List A
  in_turn f [] s = s
  in_turn f (b ∷ bs) s = in_turn f bs (each (only b f) s)

  -- g, n times
  abbrev times : ℕ → (A → A) → A → A
  times zero g v = v
  times (suc n) g v = times n g (g v)

  once_more : (b : Bool) (n : ℕ) (g : A → A) (v : A) → times n g (cond b (g v) v) ≡ times (cond b 1 0 + n) g v
  once_more true n g v = let e : suc n ≡ 1 + n = omega arith in ap (λ (m : ℕ). times m g v) e
  once_more false n g v = ap (λ (m : ℕ). times m g v) (sym (zero-add n))

  no_change : (n : ℕ) (g : A → A) → ((v : A) → g v ≡ v) → (v : A) → times n g v ≡ v
  no_change zero g same v = refl
  no_change (suc n) g same v = ap (times n g) (same v) ∙ no_change n g same v

  counted : (f : ℕ → A → A) (bs : List (ℕ → Bool)) (s : List A) → in_turn f bs s ≡ each (λ j v. times (holding bs j) (f j) v) s
  unfolding in_turn holding only
  counted f [] s = sym (each_none _ s (λ j v q. refl))
  counted f (b ∷ bs) s =
      counted f bs (each (only b f) s)
      ∙ each-each (only b f) (λ j v. times (holding bs j) (f j) v) s
      ∙ each-agree _ _ s (λ j v q. once_more (b j) (holding bs j) (f j) v)

  -- the law of orders
  pub any_order : (f : ℕ → A → A) (bs : List (ℕ → Bool)) (s : List A)
      → ((j : ℕ) → j < length s → (holding bs j ≡ 1) ⊎ ((v : A) → f j v ≡ v)) → in_turn f bs s ≡ each f s
  any_order f bs s each-place = counted f bs s ∙ each-agree _ _ s (λ j v q. at j v (each-place j q))
    where
      at : (j : ℕ) (v : A) → (holding bs j ≡ 1) ⊎ ((u : A) → f j u ≡ u) → times (holding bs j) (f j) v ≡ f j v
      at j v (inl one) = ap (λ (m : ℕ). times m (f j) v) one
      at j v (inr same) = no_change (holding bs j) (f j) same v ∙ sym (same v)
