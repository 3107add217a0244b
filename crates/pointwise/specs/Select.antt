-- Which samples of a row an opcode touches (document 01, 'Which samples an opcode touches'), over any sample kind A.
-- Columns are image positions, also where a region's pitch is counted; planes are the window's. Definitions only; the
-- laws are in proofs/.
use Rattle.std.specs.Prelude.{ℕ, ◌+◌, ◌-◌, ◌*◌, ◌/◌, ◌%◌, ◌≤◌, ◌<◌, max, ◌≡◌, Bool, false, cond, ◌&&◌, leb, ltb, eqb}

-- the column (or row) x is selected: lo ≤ x < hi, and x - lo is divisible by the pitch. A pitch of 0 counts as 1.
unfoldable pub selects : ℕ → ℕ → ℕ → ℕ → Bool
selects lo hi pitch x = leb lo x && (ltb x hi && eqb ((x - lo) % max pitch 1) 0)

-- The first selected column at or after x0 is x0 + col, the n-th counted from lo: it lies on the pitch, and no column
-- before it is selected.
pub record First (lo pitch x0 col n : ℕ) : Type 0 where
  pub here : x0 + col ≡ lo + n * max pitch 1
  pub none : (hi x : ℕ) → x0 ≤ x → x < x0 + col → selects lo hi pitch x ≡ false

module _ {A : Type 0} where
  -- sample i of a row of p planes that starts at image column x0: plane i % p of column x0 + i / p
  unfoldable pub in_row : ℕ → ℕ → (ℕ → ℕ → A → A) → ℕ → A → A
  in_row x0 p f i v = f (x0 + i / p) (i % p) v

  -- `g` at the columns and planes of a region, nothing elsewhere: the selected columns, and the planes from `plane` up
  -- to plane + planes
  unfoldable pub on_columns : (lo hi pitch plane planes : ℕ) → (ℕ → ℕ → A → A) → ℕ → ℕ → A → A
  on_columns lo hi pitch plane planes g x k v =
      cond (selects lo hi pitch x) (cond (leb plane k) (cond (ltb k (plane + planes)) (g x k v) v) v) v
