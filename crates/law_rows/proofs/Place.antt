-- Where a place of the lent samples lies in a window, and what a rule does there: inside, below the last row, and in the gap
-- right of the width. Over any sample kind A. Assumes nothing.
use Prim.Native.Nat.{ℕ, ◌+◌, ◌*◌, ◌/◌, ◌≤◌, ◌<◌}
use mathlib.Core.Path.{◌≡◌, refl, ap, ap₂, ◌∙◌}
use mathlib.Core.Bool.{Bool, true, false, ◌&&◌, cond, and-false}
use native.Mathlib.Nat.{div-add-mod', mod-lt}
use native.Mathlib.Omega.{arith}
use borrow.Author.Tests.{lt-ltb, le-ltb, le-leb}
use lib.Dec.{ltb}
use Rattle.dng.specs.declared.Window.{Window}
use Rattle.dng.specs.Select.{Rule, plane_of, column_of, row_of, active, in_window, whole_pixel, on_window}

-- a window that has samples: planes, columns, and rows that do not overlap
pub record Laid (w : Window) : Type 0 where
  pub some : 1 ≤ w.planes
  pub wide : 1 ≤ w.width
  pub strided : w.width ≤ w.stride

-- place j, by its row, column and plane
pub place_is : (w : Window) (j : ℕ) → j ≡ row_of w j * (w.stride * w.planes) + (column_of w j * w.planes + plane_of w j)
place_is w j =
    omega (arith, div-add-mod' j w.planes, ap (λ (m : ℕ). m * w.planes) (div-add-mod' (j / w.planes) w.stride))

pub plane-below : (w : Window) → Laid w → (j : ℕ) → plane_of w j < w.planes
plane-below w l j = mod-lt j l.some

pub column-below : (w : Window) → Laid w → (j : ℕ) → column_of w j < w.stride
column-below w l j = mod-lt (j / w.planes) (omega arith)

pub window-in : (w : Window) → Laid w → (j : ℕ) → row_of w j < w.height → column_of w j < w.width → in_window w j ≡ true
unfolding in_window active
window-in w l j r c =
    ap₂ ◌&&◌ (ap₂ ◌&&◌ (le-leb 1 w.width l.wide) (le-leb w.width w.stride l.strided))
    (ap₂ ◌&&◌ (lt-ltb (row_of w j) w.height r) (lt-ltb (column_of w j) w.width c))

pub row-outside : (w : Window) (j : ℕ) → w.height ≤ row_of w j → in_window w j ≡ false
unfolding in_window
row-outside w j h =
    ap (λ (b : Bool). active w && (b && ltb (column_of w j) w.width)) (le-ltb (row_of w j) w.height h) ∙ and-false (active w)

pub column-outside : (w : Window) (j : ℕ) → w.width ≤ column_of w j → in_window w j ≡ false
unfolding in_window
column-outside w j h =
    ap (λ (b : Bool). active w && (ltb (row_of w j) w.height && b)) (le-ltb (column_of w j) w.width h)
    ∙ ap (◌&&◌ (active w)) (and-false (ltb (row_of w j) w.height)) ∙ and-false (active w)

module _ {A : Type 0} where
  pub on-window-in : (w : Window) → Laid w → (n : ℕ) (f : Rule A) (j : ℕ) (v : A) → row_of w j < w.height → column_of w j < w.width
      → on_window w n f j v ≡ f (whole_pixel w.planes n j) (w.y0 + row_of w j) (w.x0 + column_of w j) (plane_of w j) v
  unfolding on_window
  on-window-in w l n f j v r c =
      ap (λ (b : Bool). cond b (f (whole_pixel w.planes n j) (w.y0 + row_of w j) (w.x0 + column_of w j) (plane_of w j) v) v) (window-in w l j r c)

  pub on-window-out : (w : Window) (n : ℕ) (f : Rule A) (j : ℕ) (v : A) → in_window w j ≡ false → on_window w n f j v ≡ v
  unfolding on_window
  on-window-out w n f j v h =
      ap (λ (b : Bool). cond b (f (whole_pixel w.planes n j) (w.y0 + row_of w j) (w.x0 + column_of w j) (plane_of w j) v) v) h

  -- one rule after another over the window is the two in one
  pub on-window-both : (w : Window) (n : ℕ) (f g : Rule A) (j : ℕ) (v : A)
      → on_window w n g j (on_window w n f j v) ≡ on_window w n (λ whole y x k u. g whole y x k (f whole y x k u)) j v
  unfolding on_window
  on-window-both w n f g j v = both (in_window w j)
    where
      at : Rule A → A → A
      at h u = h (whole_pixel w.planes n j) (w.y0 + row_of w j) (w.x0 + column_of w j) (plane_of w j) u

      both : (b : Bool) → cond b (at g (cond b (at f v) v)) (cond b (at f v) v) ≡ cond b (at g (at f v)) v
      both true = refl
      both false = refl

  -- a rule that changes nothing
  pub on-window-none : (w : Window) (n : ℕ) (f : Rule A) (j : ℕ) (v : A) → ((whole : Bool) (y x k : ℕ) (u : A) → f whole y x k u ≡ u)
      → on_window w n f j v ≡ v
  unfolding on_window
  on-window-none w n f j v h =
      ap (λ (u : A). cond (in_window w j) u v) (h (whole_pixel w.planes n j) (w.y0 + row_of w j) (w.x0 + column_of w j) (plane_of w j) v)
      ∙ either (in_window w j)
    where
      either : (b : Bool) → cond b v v ≡ v
      either true = refl
      either false = refl
