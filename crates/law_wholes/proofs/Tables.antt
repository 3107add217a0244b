-- A table over a window, in both runs: what it selects is the same, what it changes becomes exact, and the rest stays as it was.
-- Bytes of a list below 256 make table entries below 65,536. Assumes nothing.
use Prim.Native.Nat.{ℕ, ◌+◌, ◌*◌, ◌≤◌, ◌<◌}
use mathlib.Core.Path.{sym, subst, ◌∙◌}
use mathlib.Core.Bool.{Bool, true, false, cond}
use mathlib.Core.List.{List}
use native.Mathlib.Omega.{arith}
use lib.Dec.{leb, ltb, eqb}
use lib.Ieee.{Float}
use lib.ListN.{length, get_or, take, drop, length-take, get_or-eq_default}
use lib.Seq.{get_or-take, get_or-drop}
use Rattle.num_words.specs.Words.{big}
use Rattle.pointwise.specs.Select.{selects, on_columns}
use Rattle.pointwise.proofs.Each.{below_or}
use Rattle.dng.specs.declared.Region.{Region}
use Rattle.dng.specs.declared.Window.{Window}
use Rattle.dng.specs.Select.{Rule, on_region, on_window, in_window, whole_pixel, row_of, column_of, plane_of}
use Rattle.dng.specs.Value.{one, table_at, map_table, map_table16}
use Rattle.law_wholes.specs.WholeForm.{Below}
use Rattle.law_wholes.proofs.Near.{Exact, Near, table-exact}

-- ---- bytes

-- a byte of a body, also past its end, where it counts as 0
pub body-byte : (list : List ℕ) → Below 256 list → (n a i : ℕ) → get_or (take n (drop a list)) i 0 < 256
body-byte list h n a i = below_or i n inside (λ q. outside (take n (drop a list)) (omega (arith, length-take n (drop a list))))
  where
    outside : (l : List ℕ) → length l ≤ i → get_or l i 0 < 256
    outside l q = subst (λ (z : ℕ). z < 256) (sym (get_or-eq_default l 0 q)) (omega arith)

    inside : i < n → get_or (take n (drop a list)) i 0 < 256
    inside q =
        subst (λ (z : ℕ). z < 256) (sym (get_or-take n (drop a list) i 0 q ∙ get_or-drop a list i 0))
        (below_or (a + i) (length list) (h (a + i)) (λ r. subst (λ (z : ℕ). z < 256) (sym (get_or-eq_default list 0 r)) (omega arith)))

pub body_entry : (list : List ℕ) → Below 256 list → (n a i : ℕ) → table_at (take n (drop a list)) i < 65536
unfolding big
body_entry list h n a i =
    omega (arith, body-byte list h n a (36 + 2 * i + 0), body-byte list h n a (36 + 2 * i + 1))

-- ---- what both runs keep: a relation between exact and near

pub record Kept (R : ℕ → Float → Type 0) : Type 0 where
  pub from : (a : ℕ) (v : Float) → Exact a v → R a v
  pub to : (a : ℕ) (v : Float) → R a v → Near a v

module _ (R : ℕ → Float → Type 0) where
  either : (z : Bool) {a b : ℕ} {u v : Float} → R a u → R b v → R (cond z a b) (cond z u v)
  either true p q = p
  either false p q = q

  -- two rules that agree on a pair agree on it where a region and a window select
  pub region-pair : (r : Region) (f : ℕ → ℕ → ℕ → ℕ → ℕ) (g : ℕ → ℕ → ℕ → Float → Float) (a : ℕ) (v : Float)
      → ((y x k : ℕ) → R (f y x k a) (g y x k v)) → R a v → (whole : Bool) (y x k : ℕ)
      → R (on_region r f whole y x k a) (on_region r g whole y x k v)
  unfolding on_region on_columns
  region-pair r f g a v h p whole y x k =
      either (selects r.top r.bottom r.row_pitch y)
      (either (selects r.left r.right r.col_pitch x)
      (either (leb r.plane k) (either (ltb k (r.plane + r.planes)) (h y x k) p) p)
      p)
      p

  pub window-pair : (w : Window) (n : ℕ) (f : Rule ℕ) (g : Rule Float) (a : ℕ) (v : Float)
      → ((whole : Bool) (y x k : ℕ) → R (f whole y x k a) (g whole y x k v)) → R a v → (j : ℕ) → R (on_window w n f j a) (on_window w n g j v)
  unfolding on_window
  window-pair w n f g a v h p j =
      either (in_window w j) (h (whole_pixel w.planes n j) (w.y0 + row_of w j) (w.x0 + column_of w j) (plane_of w j)) p

  -- a table at scale 1
  pub table-pair : Kept R → (n : ℕ) (b : List ℕ) → ((i : ℕ) → table_at b i < 65536) → (a : ℕ) (v : Float) → R a v
      → R (cond (eqb n 0) a (map_table16 n b a)) (cond (eqb n 0) v (map_table one n b v))
  table-pair kept n b entries a v p =
      either (eqb n 0) p (kept.from (map_table16 n b a) (map_table one n b v) (table-exact n b entries (kept.to a v p)))
