-- Rows in any order: a rule run on the rows ys, one after another, with every row of the window there exactly once, is the rule on the window.
-- Over any sample kind A. Assumes nothing.
use Prim.Native.Nat.{ℕ, ◌+◌, ◌≤◌, ◌<◌}
use mathlib.Core.Path.{◌≡◌, refl, ap, ◌∙◌}
use mathlib.Core.Bool.{Bool, cond}
use mathlib.Core.List.{List, [], ◌∷◌, map}
use mathlib.Core.Logic.{inl, inr}
use native.Mathlib.Omega.{arith}
use borrow.Author.Tests.{lt-ltb, le-ltb, eq-eqb}
use lib.Dec.{eqb}
use Rattle.pointwise.specs.Points.{each}
use Rattle.pointwise.proofs.Each.{below_or}
use Rattle.dng.specs.declared.Window.{Window}
use Rattle.dng.specs.Select.{Rule, row_of, on_window}
use Rattle.law_rows.specs.RowForm.{occurs, Once}
use Rattle.law_rows.proofs.Place.{row-outside, on-window-out}
use Rattle.law_rows.proofs.Tests.{holding, in_turn, any_order}

-- every y that stands in ys is below h
pub once-below : (h : ℕ) (ys : List ℕ) → Once h ys → (y : ℕ) → 1 ≤ occurs y ys → y < h
once-below h ys once y some =
    below_or y h (λ q. q) (λ q. absurd (omega (arith, once y, ap {B = ℕ} (λ (b : Bool). cond b 1 0) (le-ltb y h q))))

pub occurs-head : (y : ℕ) (ys : List ℕ) → 1 ≤ occurs y (y ∷ ys)
unfolding occurs
occurs-head y ys = omega (arith, ap {B = ℕ} (λ (b : Bool). cond b 1 0) (eq-eqb y y refl))

pub occurs-tail : (z y : ℕ) (ys : List ℕ) → 1 ≤ occurs z ys → 1 ≤ occurs z (y ∷ ys)
unfolding occurs
occurs-tail z y ys h = omega arith

-- place j lies in row y
abbrev pub is_row : Window → ℕ → ℕ → Bool
is_row w y j = eqb (row_of w j) y

rows-holding : (w : Window) (ys : List ℕ) (j : ℕ) → holding (map (is_row w) ys) j ≡ occurs (row_of w j) ys
unfolding holding occurs
rows-holding w [] j = refl
rows-holding w (y ∷ ys) j = ap (λ (n : ℕ). cond (is_row w y j) 1 0 + n) (rows-holding w ys j)

module _ {A : Type 0} where
  -- a rule on row after row
  abbrev pub on_rows : Window → (n : ℕ) → Rule A → List ℕ → List A → List A
  on_rows w n f ys s = in_turn (on_window w n f) (map (is_row w) ys) s

  -- every row of the window once
  pub on-rows-once : (w : Window) (n : ℕ) (f : Rule A) (ys : List ℕ) (s : List A) → Once w.height ys
      → on_rows w n f ys s ≡ each (on_window w n f) s
  on-rows-once w n f ys s once =
      any_order (on_window w n f) (map (is_row w) ys) s
      (λ j q.
      below_or (row_of w j) w.height
      (λ r. inl (rows-holding w ys j ∙ once (row_of w j) ∙ ap (λ (b : Bool). cond b 1 0) (lt-ltb (row_of w j) w.height r)))
      (λ r. inr (λ v. on-window-out w n f j v (row-outside w j r))))
