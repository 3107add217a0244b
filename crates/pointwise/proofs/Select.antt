-- The cases of `selects` and `on_columns`: where a column is selected and where not, and what is left as it stands.
-- Assumes nothing.
use Prim.Native.Nat.{ℕ, ◌+◌, ◌-◌, ◌*◌, ◌/◌, ◌%◌, ◌≤◌, ◌<◌, max}
use mathlib.Core.Path.{◌≡◌, refl, ap, ap₂, ◌∙◌}
use mathlib.Core.Bool.{Bool, true, false, cond, ◌&&◌}
use native.Mathlib.Omega.{arith}
use borrow.Author.Tests.{lt-ltb, le-ltb, le-leb, lt-leb, eq-eqb, ne_eqb, ltb-true, leb-true, eqb-true}
use lib.Arith.{digits_div, digits_mod}
use lib.Dec.{leb, ltb, eqb}
use Rattle.pointwise.specs.Select.{selects, on_columns}

and-false : (b : Bool) → b && false ≡ false
and-false true = refl
and-false false = refl

and_left : (a b : Bool) → a && b ≡ true → a ≡ true
and_left true b h = refl
and_left false b h = h

and_right : (a b : Bool) → a && b ≡ true → b ≡ true
and_right true b h = h
and_right false b h = cc

-- a column r past the n-th step from lo
rest_of : (lo pitch x n r : ℕ) → x ≡ lo + n * max pitch 1 + r → r < max pitch 1 → (x - lo) % max pitch 1 ≡ r
rest_of lo pitch x n r e h = ap (λ (y : ℕ). y % max pitch 1) (omega arith) ∙ digits_mod n {m = max pitch 1} {r = r} h

-- the n-th column counted from lo is selected, if it stands before hi
pub selects_at : (lo hi pitch x n : ℕ) → x ≡ lo + n * max pitch 1 → x < hi → selects lo hi pitch x ≡ true
unfolding selects
selects_at lo hi pitch x n e h =
    ap₂ ◌&&◌ (le-leb lo x (omega arith))
    (ap₂ ◌&&◌ (lt-ltb x hi h) (eq-eqb ((x - lo) % max pitch 1) 0 (rest_of lo pitch x n 0 (omega arith) (omega arith))))

pub selects-low : (lo hi pitch x : ℕ) → x < lo → selects lo hi pitch x ≡ false
unfolding selects
selects-low lo hi pitch x h = rw (lt-leb lo x h)

pub selects-high : (lo hi pitch x : ℕ) → hi ≤ x → selects lo hi pitch x ≡ false
unfolding selects
selects-high lo hi pitch x h = rw (le-ltb x hi h) (and-false (leb lo x))

-- a column between the n-th and the next is not selected
pub selects-gap : (lo hi pitch x n : ℕ) → lo + n * max pitch 1 < x → x < lo + n * max pitch 1 + max pitch 1 → selects lo hi pitch x ≡ false
unfolding selects
selects-gap lo hi pitch x n above below =
    rw (ne_eqb ((x - lo) % max pitch 1) 0 apart, and-false) (and-false (leb lo x))
  where
    r : ℕ
    r = x - (lo + n * max pitch 1)

    apart : (x - lo) % max pitch 1 ≡ 0 → ⊥
    apart z = let q : (x - lo) % max pitch 1 ≡ r = rest_of lo pitch x n r (omega arith) (omega arith) in omega arith

-- what a selected column is
pub selects-only : (lo hi pitch x : ℕ) → selects lo hi pitch x ≡ true → (lo ≤ x) × (x < hi) × ((x - lo) % max pitch 1 ≡ 0)
unfolding selects
selects-only lo hi pitch x h =
    let r = and_right (leb lo x) (ltb x hi && eqb ((x - lo) % max pitch 1) 0) h in (
      leb-true lo x (and_left (leb lo x) (ltb x hi && eqb ((x - lo) % max pitch 1) 0) h),
      ltb-true x hi (and_left (ltb x hi) (eqb ((x - lo) % max pitch 1) 0) r),
      eqb-true ((x - lo) % max pitch 1) 0 (and_right (ltb x hi) (eqb ((x - lo) % max pitch 1) 0) r),
    )

-- the number of a selected column, counted from lo
pub selects-number : (lo pitch x n : ℕ) → x ≡ lo + n * max pitch 1 → (x - lo) / max pitch 1 ≡ n
selects-number lo pitch x n e = ap (λ (y : ℕ). y / max pitch 1) (omega arith) ∙ digits_div n {m = max pitch 1} {r = 0} (omega arith)

module _ {A : Type 0} where
  -- inside the planes the column alone decides
  pub on-plane : (lo hi pitch plane planes : ℕ) (g : ℕ → ℕ → A → A) (x k : ℕ) (v : A) → plane ≤ k → k < plane + planes
      → on_columns lo hi pitch plane planes g x k v ≡ cond (selects lo hi pitch x) (g x k v) v
  unfolding on_columns
  on-plane lo hi pitch plane planes g x k v a b =
      ap₂ (λ (b c : Bool). cond (selects lo hi pitch x) (cond b (cond c (g x k v) v) v) v) (le-leb plane k a) (lt-ltb k (plane + planes) b)

  pub on_in : (lo hi pitch plane planes : ℕ) (g : ℕ → ℕ → A → A) (x k : ℕ) (v : A) → selects lo hi pitch x ≡ true → plane ≤ k
      → k < plane + planes → on_columns lo hi pitch plane planes g x k v ≡ g x k v
  on_in lo hi pitch plane planes g x k v s a b = rw (on-plane lo hi pitch plane planes g x k v a b, s)

  pub on-unselected : (lo hi pitch plane planes : ℕ) (g : ℕ → ℕ → A → A) (x k : ℕ) (v : A) → selects lo hi pitch x ≡ false
      → on_columns lo hi pitch plane planes g x k v ≡ v
  unfolding on_columns
  on-unselected lo hi pitch plane planes g x k v s = rw s

  both-same : (b : Bool) (v : A) → cond b v v ≡ v
  both-same true v = refl
  both-same false v = refl

  pub on_below : (lo hi pitch plane planes : ℕ) (g : ℕ → ℕ → A → A) (x k : ℕ) (v : A) → k < plane
      → on_columns lo hi pitch plane planes g x k v ≡ v
  unfolding on_columns
  on_below lo hi pitch plane planes g x k v h = rw (lt-leb plane k h) (both-same (selects lo hi pitch x) v)

  pub on-above : (lo hi pitch plane planes : ℕ) (g : ℕ → ℕ → A → A) (x k : ℕ) (v : A) → plane + planes ≤ k
      → on_columns lo hi pitch plane planes g x k v ≡ v
  unfolding on_columns
  on-above lo hi pitch plane planes g x k v h = rw (le-ltb k (plane + planes) h, both-same) (both-same (selects lo hi pitch x) v)
