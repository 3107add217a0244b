-- A walk over the selected samples of one plane of a row, as the code carries it.
use Rattle.std.specs.Prelude.{ℕ, ◌≤◌, ◌<◌, List}
use Rattle.pointwise.specs.Points.{each}
use Rattle.pointwise.specs.Select.{in_row, on_columns, First}
use Rattle.row_select.specs.declared.Walk.{Walk}

-- `g` at the columns and the one plane of the walk, nothing elsewhere
unfoldable pub walked : {A : Type 0} → Walk → (ℕ → ℕ → A → A) → List A → List A
walked k g l = each (in_row k.x0 k.planes (on_columns k.left k.right k.pitch k.plane 1 g)) l

-- what a walk over a row of n samples may rely on
pub record Walks (k : Walk) (n : ℕ) : Type 0 where
  pub some : 1 ≤ k.planes
  pub few : k.planes ≤ 8
  pub inside : k.plane < k.planes
  pub spaced : 1 ≤ k.pitch
  pub column : k.x0 ≤ 16777216
  pub left32 : k.left < 4294967296
  pub right32 : k.right < 4294967296
  pub pitch32 : k.pitch < 4294967296
  pub short : n ≤ 524288
  pub first : First k.left k.pitch k.x0 k.col k.nth
