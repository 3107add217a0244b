-- Blocks of columns over a window: one after another they are one block, and all of them the region's rule, since each sample lies in one of them.
-- Over any sample kind A and any rule. A walk over a region's plane walks a block's columns. Assumes nothing.
use Prim.Native.Nat.{ℕ, ◌+◌, ◌*◌, ◌≤◌, ◌<◌, min, max}
use mathlib.Core.Path.{◌≡◌, refl, sym, ap, ap₂, subst, ◌∙◌}
use mathlib.Core.Bool.{Bool, true, false, cond}
use mathlib.Core.List.{List}
use native.Mathlib.Nat.{add-mul, one-mul, mul_assoc, mul-le-mul_left, mul-le-mul_right}
use native.Mathlib.Omega.{arith}
use lib.Dec.{leb, ltb}
use lib.ListN.{length}
use Rattle.pointwise.specs.Points.{each}
use Rattle.pointwise.specs.Select.{selects, on_columns, First}
use Rattle.pointwise.proofs.Each.{below_or, each-agree, each_none, each-each}
use Rattle.pointwise.proofs.Select.{selects-high, on-unselected}
use Rattle.pointwise.proofs.Walk.{first-bound}
use Rattle.row_select.specs.declared.Walk.{Walk}
use Rattle.row_select.specs.declared.Start.{Start}
use Rattle.row_select.specs.Walks.{walked}
use Rattle.dng.specs.declared.Region.{Region}
use Rattle.dng.specs.declared.Window.{Window}
use Rattle.dng.specs.Select.{Rule, on_region, on_window, in_window, whole_pixel, row_of, column_of, plane_of}
use Rattle.row_gain.specs.Blocks.{within, Filled, Counted, Begins}
use Rattle.row_gain.proofs.Blocks.{within_in, within_low, within-high, within-within, some-counted}
use Rattle.law_rows.proofs.Place.{Laid, row-outside, column-outside, on-window-in, on-window-out, on-window-both, on-window-none}
use Rattle.row_opcode.specs.declared.Place.{Place}
use Rattle.row_opcode.specs.Planes.{WalkIs}
use Rattle.row_gain.specs.declared.Column.{Column}
use Rattle.row_gain.specs.Gain.{Sized, map_position}
use Rattle.win_gain.specs.declared.GainMap.{GainMap}
use Rattle.win_gain.specs.Columns.{pitch_of, block_rule, Lies, Block}

-- a map that was read whole has few points down
pub points-few : (pv ph mp m : ℕ) → Sized pv ph mp m → pv ≤ 16777216
points-few pv ph mp m z =
    let all : pv * ph * max mp 1 ≡ pv * (ph * max mp 1) = mul_assoc pv ph (max mp 1) in
    below_or (ph * max mp 1) 1
    (λ h.
    let none : ph * max mp 1 ≡ 0 = omega arith in
    omega (arith, z.some, all, ap (λ (i : ℕ). pv * i) none))
    (λ h. omega (arith, z.few, all, mul-le-mul_left pv h))

module _ {A : Type 0} where
  -- ---- a region's rule at a sample

  region-agree : (r : Region) (f g : ℕ → ℕ → ℕ → A → A) (whole : Bool) (y x k : ℕ) (v : A) → f y x k v ≡ g y x k v
      → on_region r f whole y x k v ≡ on_region r g whole y x k v
  unfolding on_region on_columns
  region-agree r f g whole y x k v e = rw e

  either : (b : Bool) (v : A) → cond b v v ≡ v
  either true v = refl
  either false v = refl

  region-left : (r : Region) (f : ℕ → ℕ → ℕ → A → A) (whole : Bool) (y x k : ℕ) (v : A) → f y x k v ≡ v → on_region r f whole y x k v ≡ v
  unfolding on_region on_columns
  region-left r f whole y x k v e = rw (e, either, either, either, either)

  region-unselected : (r : Region) (f : ℕ → ℕ → ℕ → A → A) (whole : Bool) (y x k : ℕ) (v : A)
      → selects r.left r.right r.col_pitch x ≡ false → on_region r f whole y x k v ≡ v
  unfolding on_region
  region-unselected r f whole y x k v h =
      ap (λ (u : A). cond (selects r.top r.bottom r.row_pitch y) u v)
      (on-unselected r.left r.right r.col_pitch r.plane r.planes (f y) x k v h)
      ∙ either (selects r.top r.bottom r.row_pitch y) v

  both : (a b c d : Bool) (f g : A → A) (v : A)
      → let on : (A → A) → A → A = λ h u. cond a (cond b (cond c (cond d (h u) u) u) u) u in
      on g (on f v) ≡ on (λ u. g (f u)) v
  both true true true true f g v = refl
  both true true true false f g v = refl
  both true true false d f g v = refl
  both true false c d f g v = refl
  both false b c d f g v = refl

  region-both : (r : Region) (f g : ℕ → ℕ → ℕ → A → A) (whole : Bool) (y x k : ℕ) (v : A)
      → on_region r g whole y x k (on_region r f whole y x k v) ≡ on_region r (λ z i p u. g z i p (f z i p u)) whole y x k v
  unfolding on_region on_columns
  region-both r f g whole y x k v =
      both (selects r.top r.bottom r.row_pitch y) (selects r.left r.right r.col_pitch x) (leb r.plane k)
      (ltb k (r.plane + r.planes)) (f y x k) (g y x k) v

  -- ---- over a window

  on-window-agree : (w : Window) (n : ℕ) (f g : Rule A) (j : ℕ) (v : A)
      → ((whole : Bool) (y x k : ℕ) (u : A) → f whole y x k u ≡ g whole y x k u) → on_window w n f j v ≡ on_window w n g j v
  unfolding on_window
  on-window-agree w n f g j v h =
      ap (λ (u : A). cond (in_window w j) u v) (h (whole_pixel w.planes n j) (w.y0 + row_of w j) (w.x0 + column_of w j) (plane_of w j) v)

  -- a block of no columns
  pub block-begin : (w : Window) (n : ℕ) (r : Region) (a : ℕ) (f : ℕ → ℕ → ℕ → A → A) (s : List A)
      → s ≡ each (on_window w n (block_rule r a a f)) s
  block-begin w n r a f s =
      sym
      (each_none _ s
      (λ j v q.
      on-window-none w n (block_rule r a a f) j v
      (λ whole y x k u.
      region-left r (λ z. within a a (f z)) whole y x k u (below_or x a (within_low a a (f y) x k u) (within-high a a (f y) x k u)))))

  -- the block from a up to e after that from b up to a: the block from b up to e
  pub block-next : (w : Window) (n : ℕ) (r : Region) (b a e : ℕ) (f : ℕ → ℕ → ℕ → A → A) (s : List A) → b ≤ a → a ≤ e
      → each (on_window w n (block_rule r a e f)) (each (on_window w n (block_rule r b a f)) s) ≡ each (on_window w n (block_rule r b e f)) s
  block-next w n r b a e f s ba ae =
      each-each (on_window w n (block_rule r b a f)) (on_window w n (block_rule r a e f)) s
      ∙ each-agree _ _ s
      (λ j v q.
      on-window-both w n (block_rule r b a f) (block_rule r a e f) j v
      ∙ on-window-agree w n _ (block_rule r b e f) j v
      (λ whole y x k u.
      region-both r (λ z. within b a (f z)) (λ z. within a e (f z)) whole y x k u
      ∙ region-agree r _ (λ z. within b e (f z)) whole y x k u (within-within b a e (f y) x k u ba ae)))

  -- the block from the first selected column on that reaches past the last column of the region or of the window: the region's rule
  pub block-all : (w : Window) → Laid w → (n : ℕ) (r : Region) (col nth e : ℕ) (f : ℕ → ℕ → ℕ → A → A) (s : List A)
      → First r.left r.col_pitch w.x0 col nth → min r.right (w.x0 + w.width) ≤ e
      → each (on_window w n (block_rule r (w.x0 + col) e f)) s ≡ each (on_window w n (on_region r f)) s
  block-all w l n r col nth e f s first past = each-agree (on_window w n part) (on_window w n (on_region r f)) s at
    where
      b : ℕ
      b = w.x0 + col

      part : Rule A
      part = block_rule r b e f

      point : (whole : Bool) (y x k : ℕ) (v : A) → w.x0 ≤ x → x < w.x0 + w.width → part whole y x k v ≡ on_region r f whole y x k v
      point whole y x k v low high =
          below_or x b
          (λ q.
          let none : selects r.left r.right r.col_pitch x ≡ false = first.none r.right x low q in
          region-unselected r (λ z. within b e (f z)) whole y x k v none ∙ sym (region-unselected r f whole y x k v none))
          (λ q.
          below_or x r.right
          (λ t. region-agree r (λ z. within b e (f z)) f whole y x k v (within_in b e (f y) x k v q (omega arith)))
          (λ t.
          let none : selects r.left r.right r.col_pitch x ≡ false = selects-high r.left r.right r.col_pitch x t in
          region-unselected r (λ z. within b e (f z)) whole y x k v none ∙ sym (region-unselected r f whole y x k v none)))

      out : (j : ℕ) (v : A) → in_window w j ≡ false → on_window w n part j v ≡ on_window w n (on_region r f) j v
      out j v h = on-window-out w n part j v h ∙ sym (on-window-out w n (on_region r f) j v h)

      at : (j : ℕ) (v : A) → j < length s → on_window w n part j v ≡ on_window w n (on_region r f) j v
      at j v q =
          below_or (row_of w j) w.height
          (λ h.
          below_or (column_of w j) w.width
          (λ c.
          on-window-in w l n part j v h c
          ∙ point (whole_pixel w.planes n j) (w.y0 + row_of w j) (w.x0 + column_of w j) (plane_of w j) v (omega arith) (omega arith)
          ∙ sym (on-window-in w l n (on_region r f) j v h c))
          (λ c. out j v (column-outside w j c)))
          (λ h. out j v (row-outside w j h))

-- ---- a walk over one of the region's planes

module _ {g : Place} {gain : GainMap} {s : Start} {plane : ℕ} {k : Walk} (is : WalkIs g gain.region s plane k) {fw from : ℕ} {cs : List Column}
    (b : Block g.x0 fw gain from cs) where
  pub begins-of : Begins k from (length cs)
  begins-of =
      subst (λ (j : Walk). Begins j from (length cs)) (sym is.is)
      (record { number = b.lies.number; here = b.lies.here; near = b.lies.near; few = b.few })

  pub filled_of : Filled (map_position gain.map fw) (k.x0 + from) k.pitch (length cs) cs
  filled_of =
      subst (λ (j : Walk). Filled (map_position gain.map fw) (j.x0 + from) j.pitch (length cs) cs) (sym is.is) b.filled

module _ {g : Place} {r : Region} {s : Start} {plane : ℕ} {k : Walk} (is : WalkIs g r s plane k) where
  pub columns_of : {A : Type 0} (from w : ℕ) (f : ℕ → ℕ → A → A) (l row : List A)
      → row ≡ walked k (within (k.x0 + from) (k.x0 + from + w * k.pitch) f) l
      → row ≡ walked k (within (g.x0 + from) (g.x0 + from + w * pitch_of r) f) l
  columns_of from w f l row e =
      e
      ∙ ap₂ (λ (x p : ℕ). walked k (within (x + from) (x + from + w * p) f) l)
      (ap (λ (j : Walk). j.x0) is.is) (ap (λ (j : Walk). j.pitch) is.is)

-- ---- where a block begins

-- the first selected column
pub lies-first : {x0 : ℕ} {r : Region} {col nth : ℕ} → First r.left r.col_pitch x0 col nth → r.left < 4294967296
    → r.col_pitch < 4294967296 → Lies x0 r col
lies-first {x0} {r} {col} {nth} f left pitch =
    record { number = nth; here = f.here; near = omega (arith, first-bound _ _ _ _ _ f) }

-- the column after the count that `fill_block` answers
module _ (x0 from : ℕ) (r : Region) {end room count pitch : ℕ} (c : Counted (x0 + from) pitch end room count) (is : pitch ≡ pitch_of r) where
  pub far-fits : x0 + from < end → end ≤ 16842752 → pitch < 4294967297 → from + count * pitch < 8589934592
  far-fits inside few small = omega (arith, c.near)

  pub lies-next : Lies x0 r from → from + count * pitch < 8589934592 → Lies x0 r (from + count * pitch)
  lies-next l near =
      record {
        number = l.number + count;
        here = omega (arith, l.here, add-mul l.number count (pitch_of r), ap (λ (p : ℕ). count * p) is);
        near = near;
      }

  pub far-on : x0 + from < end → 1 ≤ room → from < from + count * pitch
  far-on inside some =
      let spaced : 1 ≤ pitch = omega arith in
      let more : 1 ≤ count = some-counted (x0 + from) pitch end room count c spaced some inside in
      omega (arith, mul-le-mul_right pitch more, one-mul pitch)

  -- up to there, as the rows have it
  pub far-is : x0 + (from + count * pitch) ≡ x0 + from + count * pitch_of r
  far-is = omega (arith, ap (λ (p : ℕ). count * p) is)
