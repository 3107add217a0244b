-- A plane after another is a region's row; a walk that is made from a region may be walked, and selects the region's columns; a row with none of
-- a region's samples is left. Over any sample kind A. Assumes nothing.
use Prim.Native.Nat.{ℕ, ◌+◌, ◌-◌, ◌*◌, ◌/◌, ◌%◌, ◌≤◌, ◌<◌, min, max}
use mathlib.Core.Path.{◌≡◌, refl, sym, ap, ap₂, subst, ◌∙◌}
use mathlib.Core.Bool.{Bool, true, false, cond, ◌&&◌}
use mathlib.Core.List.{List}
use native.Mathlib.Nat.{mod-lt, div-add-mod', mul-le-mul_right}
use native.Mathlib.Omega.{arith}
use borrow.Author.Tests.{eq-eqb, lt-leb, le-ltb}
use lib.Dec.{leb, ltb, eqb}
use lib.ListN.{length}
use Rattle.pointwise.specs.Points.{each}
use Rattle.pointwise.specs.Select.{selects, in_row, on_columns, First}
use Rattle.pointwise.proofs.Each.{below_or, length-each, each-agree, each_none}
use Rattle.pointwise.proofs.Select.{selects-high}
use Rattle.pointwise.proofs.Walk.{planes-none, planes-next, planes-end}
use Rattle.row_select.specs.declared.Walk.{Walk}
use Rattle.row_select.specs.declared.Start.{Start}
use Rattle.row_select.specs.Walks.{walked, Walks}
use Rattle.dng.specs.declared.Region.{Region}
use Rattle.dng.specs.Select.{Rule, on_region, on_row, whole_pixel}
use Rattle.dng.specs.Bounds.{RowFits}
use Rattle.row_opcode.specs.declared.Place.{Place}
use Rattle.row_opcode.specs.Ready.{Leaves}
use Rattle.row_opcode.specs.Planes.{WalkIs, Along, Untouched, touches, region_planes}
use Rattle.row_opcode.proofs.Plans.{either}

-- a pitch of 0 counts as 1, once and again
pitch-twice : (pitch : ℕ) → max (max pitch 1) 1 ≡ max pitch 1
pitch-twice pitch = omega arith

selects-pitch : (lo hi pitch x : ℕ) → selects lo hi (max pitch 1) x ≡ selects lo hi pitch x
unfolding selects
selects-pitch lo hi pitch x = rw (pitch-twice pitch)

first-pitch : (lo pitch x0 col n : ℕ) → First lo pitch x0 col n → First lo (max pitch 1) x0 col n
first-pitch lo pitch x0 col n f =
    record {
      here = rw (pitch-twice pitch) f.here;
      none = λ hi x a b. selects-pitch lo hi pitch x ∙ f.none hi x a b;
    }

-- ---- the walk of a plane

module _ {g : Place} {r : Region} {s : Start} {plane : ℕ} {k : Walk} (w : WalkIs g r s plane k) where
  pub walks-of : {n : ℕ} → RowFits g.x0 g.planes g.y n → First r.left r.col_pitch g.x0 s.col s.nth → plane < g.planes
      → Walks k n
  walks-of fits f below =
      record {
        some = omega (arith, ap (λ (j : Walk). j.planes) w.is);
        few = omega (arith, ap (λ (j : Walk). j.planes) w.is);
        inside = omega (arith, ap (λ (j : Walk). j.planes) w.is, ap (λ (j : Walk). j.plane) w.is);
        spaced = omega (arith, ap (λ (j : Walk). j.pitch) w.is);
        column = omega (arith, ap (λ (j : Walk). j.x0) w.is);
        left32 = w.left32;
        right32 = w.right32;
        pitch32 = w.pitch32;
        short = fits.short;
        first = subst (λ (j : Walk). First j.left j.pitch j.x0 j.col j.nth) (sym w.is) (first-pitch _ _ _ _ _ f);
      }

  pub along-of : Along r k
  along-of = record { left_is = ap (λ (j : Walk). j.left) w.is; pitch-is = ap (λ (j : Walk). j.pitch) w.is }

  -- it walks the region's columns
  pub walked-of : {A : Type 0} (f : ℕ → ℕ → A → A) (l : List A)
      → walked k f l ≡ each (in_row g.x0 g.planes (on_columns r.left r.right r.col_pitch plane 1 f)) l
  unfolding walked in_row on_columns
  walked-of {A} f l =
      subst (λ (j : Walk). walked j f l ≡ each F l) (sym w.is)
      (each-agree _ F l
      (λ i v h.
      ap (λ (b : Bool). cond b (T i v) v) (selects-pitch r.left r.right r.col_pitch (g.x0 + i / g.planes))))
    where
      F : ℕ → A → A
      F = in_row g.x0 g.planes (on_columns r.left r.right r.col_pitch plane 1 f)

      T : ℕ → A → A
      T i v =
          cond (leb plane (i % g.planes)) (cond (ltb (i % g.planes) (plane + 1)) (f (g.x0 + i / g.planes) (i % g.planes) v) v) v

-- ---- a row that has none of a region's samples

and-false : (b : Bool) → b && false ≡ false
and-false true = refl
and-false false = refl

module _ (g : Place) (r : Region) where
  off-column : (i : ℕ) → selects r.left r.right r.col_pitch (g.x0 + i / g.planes) ≡ false → touches g r i ≡ false
  unfolding touches
  off-column i h = rw h (and-false (selects r.top r.bottom r.row_pitch g.y))

  off-plane : (i : ℕ) → leb r.plane (i % g.planes) && ltb (i % g.planes) (r.plane + r.planes) ≡ false → touches g r i ≡ false
  unfolding touches
  off-plane i h =
      rw (h, and-false (selects r.left r.right r.col_pitch (g.x0 + i / g.planes)))
      (and-false (selects r.top r.bottom r.row_pitch g.y))

  -- the row has none of the region's planes
  pub none-by-planes : (n : ℕ) → 1 ≤ g.planes → min (r.plane + r.planes) g.planes ≤ r.plane → Untouched g r n
  none-by-planes n some h =
      record {
        none = λ i q.
            let k : i % g.planes < g.planes = mod-lt i some in
            below_or (i % g.planes) r.plane
            (λ a. off-plane i (rw (lt-leb r.plane (i % g.planes) a)))
            (λ a.
            off-plane i (rw (le-ltb (i % g.planes) (r.plane + r.planes) (omega arith)) (and-false (leb r.plane (i % g.planes)))));
      }

  module _ {col nth : ℕ} (f : First r.left r.col_pitch g.x0 col nth) where
    -- the region's columns end before the first that the row could have
    pub none-by-columns : (n : ℕ) → r.right ≤ g.x0 + col → Untouched g r n
    none-by-columns n h =
        record {
          none = λ i q.
              off-column i
              (below_or (g.x0 + i / g.planes) (g.x0 + col) (λ a. f.none r.right (g.x0 + i / g.planes) (omega arith) a)
              (λ a. selects-high r.left r.right r.col_pitch (g.x0 + i / g.planes) (omega arith)));
        }

    -- the row ends before the first sample that the region's first column could have
    pub none-by-length : (n : ℕ) → 1 ≤ g.planes → n ≤ col * g.planes + r.plane → Untouched g r n
    none-by-length n some h =
        record {
          none = λ i q.
              below_or (i % g.planes) r.plane
              (λ a. off-plane i (rw (lt-leb r.plane (i % g.planes) a)))
              (λ a.
              below_or (i / g.planes) col
              (λ b. off-column i (f.none r.right (g.x0 + i / g.planes) (omega arith) (omega arith)))
              (λ b. absurd (omega (arith, div-add-mod' i g.planes, mul-le-mul_right g.planes b))));
        }

  -- the row is not selected
  pub none-by-row : (n : ℕ) → selects r.top r.bottom r.row_pitch g.y ≡ false → Untouched g r n
  unfolding touches
  none-by-row n h = record { none = λ i q. rw h }

module _ {A : Type 0} where
  -- a walk that changes nothing
  walked_none : (k : Walk) (l : List A) → walked k (λ x p v. v) l ≡ l
  unfolding walked in_row on_columns
  walked_none k l = each_none _ l (λ i v h. simp either)

  -- an empty table
  pub table_none : (k : Walk) (n : ℕ) (f : A → A) (l : List A) → n ≤ 0 → l ≡ walked k (λ x p v. cond (eqb n 0) v (f v)) l
  table_none k n f l h =
      sym (ap (λ (b : Bool). walked k (λ x p v. cond b v (f v)) l) (eq-eqb n 0 (omega arith)) ∙ walked_none k l)

  -- ---- plane after plane

  pub planes-begin : (g : Place) (r : Region) (f : ℕ → ℕ → A → A) (l : List A) → l ≡ region_planes g r (r.plane - r.plane) f l
  unfolding region_planes
  planes-begin g r f l =
      sym
      (ap (λ (n : ℕ). each (in_row g.x0 g.planes (on_columns r.left r.right r.col_pitch r.plane n f)) l) (omega arith)
      ∙ planes-none r.left r.right r.col_pitch r.plane g.x0 g.planes f l)

  -- a turn: row has the planes before j done, and the walk does plane j
  pub planes-turn : {g : Place} {r : Region} {s : Start} {j : ℕ} {k : Walk} → WalkIs g r s j k → (f : ℕ → ℕ → A → A) (l row row' : List A)
      → r.plane ≤ j → row ≡ region_planes g r (j - r.plane) f l → row' ≡ walked k f row → row' ≡ region_planes g r (j + 1 - r.plane) f l
  unfolding region_planes
  planes-turn {g} {r} {s} {j} {k} w f l row row' from done step =
      step ∙ walked-of w f row
      ∙ ap₂ (λ (n : ℕ) (m : List A). each (in_row g.x0 g.planes (on_columns r.left r.right r.col_pitch n 1 f)) m) at done
      ∙ planes-next r.left r.right r.col_pitch r.plane (j - r.plane) g.x0 g.planes f l
      ∙ ap (λ (n : ℕ). each (in_row g.x0 g.planes (on_columns r.left r.right r.col_pitch r.plane n f)) l) next
    where
      at : j ≡ r.plane + (j - r.plane)
      at = omega arith

      next : j - r.plane + 1 ≡ j + 1 - r.plane
      next = omega arith

  -- past the last plane that the region and the row have, all is done
  pub planes-done : (g : Place) (r : Region) (f : ℕ → ℕ → A → A) (l : List A) (j end : ℕ) → 1 ≤ g.planes
      → end ≡ min (r.plane + r.planes) g.planes → end ≤ j → j ≤ max r.plane end
      → region_planes g r (j - r.plane) f l ≡ region_planes g r r.planes f l
  unfolding region_planes
  planes-done g r f l j end some e past near =
      ap (λ (n : ℕ). each (in_row g.x0 g.planes (on_columns r.left r.right r.col_pitch r.plane n f)) l) count
      ∙ planes-end r.left r.right r.col_pitch r.plane r.planes g.x0 g.planes f l some
    where
      count : j - r.plane ≡ min (r.plane + r.planes) g.planes - r.plane
      count = omega arith

  pub length-planes : (g : Place) (r : Region) (n : ℕ) (f : ℕ → ℕ → A → A) (l : List A) → length (region_planes g r n f l) ≡ length l
  unfolding region_planes
  length-planes g r n f l = length-each _ l

  -- ---- a row that the region selects, and one that has none of its samples

  pub row_in : (g : Place) (r : Region) (f : ℕ → ℕ → ℕ → A → A) (l : List A) → selects r.top r.bottom r.row_pitch g.y ≡ true
      → region_planes g r r.planes (f g.y) l ≡ each (on_row g.x0 g.planes g.y (length l) (on_region r f)) l
  unfolding region_planes in_row on_row on_region
  row_in g r f l h = each-agree _ _ l (λ i v q. ap (λ (b : Bool). cond b (at i v) v) (sym h))
    where
      at : ℕ → A → A
      at i v = on_columns r.left r.right r.col_pitch r.plane r.planes (f g.y) (g.x0 + i / g.planes) (i % g.planes) v

  -- one of the four fails, so the value is left
  left_as : (s c a b : Bool) (x v : A) → s && (c && (a && b)) ≡ false → cond s (cond c (cond a (cond b x v) v) v) v ≡ v
  left_as true true true true x v h = absurd (let z : ◌≡◌ {A = ℕ} 0 1 = cc in omega arith)
  left_as true true true false x v h = refl
  left_as true true false b x v h = refl
  left_as true false a b x v h = refl
  left_as false c a b x v h = refl

  pub row-untouched : (g : Place) (r : Region) (f : ℕ → ℕ → ℕ → A → A) (l : List A) → Untouched g r (length l)
      → l ≡ each (on_row g.x0 g.planes g.y (length l) (on_region r f)) l
  unfolding on_row on_region on_columns touches
  row-untouched g r f l u =
      sym
      (each_none _ l
      (λ i v h.
      left_as (selects r.top r.bottom r.row_pitch g.y) (selects r.left r.right r.col_pitch (g.x0 + i / g.planes))
      (leb r.plane (i % g.planes)) (ltb (i % g.planes) (r.plane + r.planes))
      (f g.y (g.x0 + i / g.planes) (i % g.planes) v)
      v
      (u.none i h)))

  -- ---- rules of a row

  pub row-left : (x0 p y : ℕ) (l : List A) (f : Rule A) → Leaves f → l ≡ each (on_row x0 p y (length l) f) l
  unfolding on_row
  row-left x0 p y l f h = sym (each_none _ l (λ i v q. h (whole_pixel p (length l) i) y (x0 + i / p) (i % p) v))
