-- Tiles in any order: a rule run on the tiles of a cut, one after another, is the rule on the window. Over any sample kind A. Assumes nothing.
use Prim.Native.Nat.{ℕ, ◌+◌}
use mathlib.Core.Path.{◌≡◌, refl, ap, ap₂, ◌∙◌}
use mathlib.Core.Bool.{Bool, ◌&&◌, cond}
use mathlib.Core.List.{List, [], ◌∷◌, map}
use mathlib.Core.Logic.{inl, inr}
use borrow.Author.Tests.{lt-ltb}
use Rattle.pointwise.specs.Points.{each}
use Rattle.pointwise.proofs.Each.{below_or}
use Rattle.dng.specs.declared.Window.{Window}
use Rattle.dng.specs.Select.{Rule, row_of, column_of, on_window}
use Rattle.law_rows.proofs.Place.{row-outside, column-outside, on-window-out}
use Rattle.law_rows.proofs.Tests.{holding, in_turn, any_order}
use Rattle.law_tiles.specs.Tiles.{Tile, hits, Cut}
use Rattle.law_tiles.proofs.Parts.{in_tile}

tiles-holding : (w : Window) (ts : List Tile) (j : ℕ) → holding (map (in_tile w) ts) j ≡ hits (column_of w j) (row_of w j) ts
unfolding holding hits
tiles-holding w [] j = refl
tiles-holding w (t ∷ ts) j = ap (λ (n : ℕ). cond (in_tile w t j) 1 0 + n) (tiles-holding w ts j)

module _ {A : Type 0} where
  -- a rule on tile after tile
  abbrev pub on_tiles : Window → (n : ℕ) → Rule A → List Tile → List A → List A
  on_tiles w n f ts s = in_turn (on_window w n f) (map (in_tile w) ts) s

  pub on-tiles-cut : (w : Window) (n : ℕ) (f : Rule A) (ts : List Tile) (s : List A) → Cut w ts
      → on_tiles w n f ts s ≡ each (on_window w n f) s
  on-tiles-cut w n f ts s cut =
      any_order (on_window w n f) (map (in_tile w) ts) s
      (λ j q.
      below_or (column_of w j) w.width
      (λ c.
      below_or (row_of w j) w.height
      (λ r.
      inl
      (tiles-holding w ts j
      ∙ cut (column_of w j) (row_of w j)
      ∙ ap₂ (λ (a b : Bool). cond (a && b) 1 0) (lt-ltb (column_of w j) w.width c) (lt-ltb (row_of w j) w.height r)))
      (λ r. inr (λ v. on-window-out w n f j v (row-outside w j r))))
      (λ c. inr (λ v. on-window-out w n f j v (column-outside w j c))))
