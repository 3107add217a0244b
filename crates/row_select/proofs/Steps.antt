-- A loop that goes a step at a time, and why it is a walk over the selected samples of one plane. Over any kind A; `d` is what `get_or` gives
-- past the end. Assumes nothing.
use Prim.Native.Nat.{ℕ, ◌+◌, ◌-◌, ◌*◌, ◌/◌, ◌%◌, ◌≤◌, ◌<◌, min, max}
use mathlib.Core.Bool.{Bool, true, false, cond}
use mathlib.Core.List.{List}
use mathlib.Core.Path.{◌≡◌, refl, sym, ap, subst, ◌∙◌}
use native.Mathlib.Nat.{zero-add, zero-mul, add-mul, mul_assoc, div-add-mod', div-lt_iff_lt-mul, mul-le-mul, le_of_mul-le-mul_right, lt_of_mul-lt-mul_right}
use native.Mathlib.Omega.{arith}
use lib.Arith.{digits_div}
use lib.ListN.{length, get_or, set}
use Rattle.pointwise.proofs.Each.{below_or, each-agree}
use Rattle.pointwise.proofs.Select.{selects_at, selects-only, selects-number, on-plane, on_in, on-unselected, on_below, on-above}
use Rattle.pointwise.proofs.Walk.{first-near, in-row-at, Upto, upto-begin, upto-next-by, upto-end}
use Rattle.pointwise.specs.Points.{each}
use Rattle.pointwise.specs.Select.{selects, in_row, on_columns, First}
use Rattle.row_select.specs.Steps.{stepped}
use Rattle.row_select.specs.Walks.{walked, Walks}
use Rattle.row_select.specs.declared.Walk.{Walk}

module _ {A : Type 0} where
  abbrev numbered : (a s : ℕ) → (ℕ → A → A) → ℕ → ℕ → A → A
  numbered a s f x k v = f ((x - a) / max s 1) v

  -- a run of steps is a walk over a row of one plane that starts at column 0
  as-walk : (a e s : ℕ) (f : ℕ → A → A) (i : ℕ) (v : A) → in_row 0 1 (on_columns a e s 0 1 (numbered a s f)) i v ≡ stepped a e s f i v
  unfolding stepped
  as-walk a e s f i v =
      in-row-at 0 1 (on_columns a e s 0 1 (numbered a s f)) i i 0 v (omega arith) (omega arith)
      ∙ on-plane a e s 0 1 (numbered a s f) (0 + i) 0 v (omega arith) (omega arith)
      ∙ ap (λ (x : ℕ). cond (selects a e s x) (f ((x - a) / max s 1) v) v) (zero-add i)

  -- The loop stands at place i, the m-th from a: the places before it are done.
  pub record Steps (a e s : ℕ) (f : ℕ → A → A) (l row : List A) (m i : ℕ) : Type 0 where
    pub walk : Upto a e s 0 0 1 (numbered a s f) l row i i
    pub number : i ≡ a + m * max s 1

  pub steps-begin : (a e s : ℕ) (f : ℕ → A → A) (l : List A) → Steps a e s f l l 0 a
  steps-begin a e s f l =
      record {
        walk = subst (λ (i : ℕ). Upto a e s 0 0 1 (numbered a s f) l l a i) (omega arith)
            (upto-begin (omega arith) (first-near a s 0 a 0 (omega (arith, zero-mul (max s 1))) (λ q. omega arith)));
        number = omega (arith, zero-mul (max s 1));
      }

  pub steps_next : {a e s : ℕ} {f : ℕ → A → A} {l row : List A} {m i : ℕ} {w : A} (d : A) → 1 ≤ s
      → Steps a e s f l row m i → i < min (length l) e → w ≡ f m (get_or row i d) → Steps a e s f l (set row i w) (m + 1) (i + s)
  steps_next {a} {e} {s} {f} {l} {row} {m} {i} {w} d some u below value =
      record {
        walk = upto-next-by d s s (omega arith) (omega arith) (omega arith) u.walk (omega arith)
            (value ∙ ap (λ (j : ℕ). f j (get_or row i d)) (sym (selects-number a s (0 + i) m (omega (arith, u.number)))));
        number = omega (arith, u.number, add-mul m 1 (max s 1));
      }

  pub steps-end : {a e s : ℕ} {f : ℕ → A → A} {l row : List A} {m i : ℕ} → Steps a e s f l row m i → min (length l) e ≤ i
      → row ≡ each (stepped a e s f) l
  steps-end {a} {e} {s} {f} {l} u past =
      upto-end (omega arith) u.walk (omega arith) ∙ each-agree _ _ l (λ i v h. as-walk a e s f i v)

-- either way
by_bool : {C : Type 0} (b : Bool) → (b ≡ true → C) → (b ≡ false → C) → C
by_bool true t e = t refl
by_bool false t e = e refl

-- The selected samples of one plane: place col * p + plane, and from there a step of pitch * p samples for each selected column.
module _ {A : Type 0} (x0 p lo hi pitch plane col n len : ℕ) (f : ℕ → A → A) (g : ℕ → ℕ → A → A) (inside : plane < p) (spaced : 1 ≤ pitch)
    (first : First lo pitch x0 col n) (value : (m : ℕ) (v : A) → f m v ≡ g (lo + (n + m) * pitch) plane v) where
  abbrev a : ℕ
  a = col * p + plane

  abbrev e : ℕ
  e = min len ((hi - x0) * p)

  abbrev s : ℕ
  s = pitch * p

  abbrev F : ℕ → A → A
  F = in_row x0 p (on_columns lo hi pitch plane 1 g)

  wide : 1 * 1 ≤ s
  wide = mul-le-mul {m₁ = 1} spaced (omega arith)

  -- the place of the m-th step is that of the column m steps after the first
  place : (m i : ℕ) → i ≡ a + m * s → i ≡ (col + m * pitch) * p + plane
  place m i q = omega (arith, add-mul col (m * pitch) p, mul_assoc m pitch p)

  one : max pitch 1 ≡ pitch
  one = omega arith

  column : (m : ℕ) → x0 + (col + m * pitch) ≡ lo + (n + m) * pitch
  column m = omega (arith, add-mul n m pitch, subst (λ (q : ℕ). x0 + col ≡ lo + n * q) one first.here)

  chosen : (i : ℕ) (v : A) → selects a e s i ≡ true → stepped a e s f i v ≡ F i v
  unfolding stepped
  chosen i v h = rw h (value m v ∙ ap (λ (x : ℕ). g x plane v) (sym (column m)) ∙ sym there)
    where
      only : (a ≤ i) × (i < e) × ((i - a) % max s 1 ≡ 0)
      only = selects-only a e s i h

      m : ℕ
      m = (i - a) / max s 1

      at : i ≡ a + m * s
      at =
          let one : max s 1 ≡ s = omega (arith, wide) in
          omega (arith, only.0, only.2, subst (λ (q : ℕ). m * q + (i - a) % max s 1 ≡ i - a) one (div-add-mod' (i - a) (max s 1)))

      before : x0 + (col + m * pitch) < hi
      before =
          let q : col + m * pitch < hi - x0 = lt_of_mul-lt-mul_right p (omega (arith, only.1, place m i at)) in
          omega arith

      there : F i v ≡ g (x0 + (col + m * pitch)) plane v
      there =
          in-row-at x0 p (on_columns lo hi pitch plane 1 g) i (col + m * pitch) plane v (place m i at) inside
          ∙ on_in lo hi pitch plane 1 g (x0 + (col + m * pitch)) plane v
          (selects_at lo hi pitch (x0 + (col + m * pitch)) (n + m) (column m ∙ ap (λ (q : ℕ). lo + (n + m) * q) (sym one)) before) (omega arith) (omega arith)

  -- a selected column of the plane is a place of the steps
  reached : (i : ℕ) → i < len → i % p ≡ plane → col ≤ i / p → selects lo hi pitch (x0 + i / p) ≡ true → selects a e s i ≡ true
  reached i q k from h = selects_at a e s i m (at ∙ ap (λ (q : ℕ). a + m * q) (omega (arith, wide))) (omega (arith, q, past))
    where
      only : (lo ≤ x0 + i / p) × (x0 + i / p < hi) × ((x0 + i / p - lo) % max pitch 1 ≡ 0)
      only = selects-only lo hi pitch (x0 + i / p) h

      pos : 0 < p
      pos = omega arith

      before : i / p < hi - x0
      before = omega (arith, only.1)

      past : i < (hi - x0) * p
      past = (div-lt_iff_lt-mul pos).0 before

      number : ℕ
      number = (x0 + i / p - lo) / max pitch 1

      numbered-so : x0 + i / p ≡ lo + number * pitch
      numbered-so =
          omega (
            arith,
            only.0,
            only.2,
            subst (λ (q : ℕ). number * q + (x0 + i / p - lo) % max pitch 1 ≡ x0 + i / p - lo) one (div-add-mod' (x0 + i / p - lo) (max pitch 1)),
          )

      later : n ≤ number
      later =
          le_of_mul-le-mul_right {k = pitch}
          (omega (arith, numbered-so, subst (λ (q : ℕ). x0 + col ≡ lo + n * q) one first.here)) spaced

      m : ℕ
      m = number - n

      same : i / p ≡ col + m * pitch
      same =
          let sum : n + m ≡ number = omega (arith, later) in
          omega (arith, numbered-so, column m, ap (λ (q : ℕ). q * pitch) sum)

      at : i ≡ a + m * s
      at = omega (arith, div-add-mod' i p, ap (λ (q : ℕ). q * p) same, add-mul col (m * pitch) p, mul_assoc m pitch p)

  missed : (i : ℕ) (v : A) → i < len → selects a e s i ≡ false → F i v ≡ v
  unfolding in_row
  missed i v q h =
      below_or (i % p) plane (on_below lo hi pitch plane 1 g (x0 + i / p) (i % p) v)
      (λ r.
      below_or plane (i % p) (λ t. on-above lo hi pitch plane 1 g (x0 + i / p) (i % p) v (omega arith))
      (λ t.
      on-unselected lo hi pitch plane 1 g (x0 + i / p) (i % p) v
      (below_or (i / p) col (λ u. first.none hi (x0 + i / p) (omega arith) (omega arith))
      (λ u. by_bool (selects lo hi pitch (x0 + i / p)) (λ y. y ∙ sym (reached i q (omega arith) u y) ∙ h) (λ y. y)))))

  pub step-or-column : (i : ℕ) (v : A) → i < len → stepped a e s f i v ≡ F i v
  unfolding stepped
  step-or-column i v q =
      by_bool (selects a e s i) (chosen i v) (λ h. rw h (sym (missed i v q h)))

-- a run of steps over a row is a walk, where the m-th step does what the walk does at the m-th selected column
pub steps-walked : {A : Type 0} (k : Walk) (f : ℕ → A → A) (g : ℕ → ℕ → A → A) (l : List A) → Walks k (length l)
    → ((m : ℕ) (v : A) → f m v ≡ g (k.left + (k.nth + m) * k.pitch) k.plane v)
    → each (stepped (k.col * k.planes + k.plane) (min (length l) ((k.right - k.x0) * k.planes)) (k.pitch * k.planes) f) l ≡ walked k g l
unfolding walked
steps-walked k f g l w value =
    each-agree _ _ l
    (λ i v h.
    step-or-column k.x0 k.planes k.left k.right k.pitch k.plane k.col k.nth (length l) f g w.inside w.spaced w.first
    value i v h)

-- the q-th column after left has the number q
number_of : (left pitch q : ℕ) → 1 ≤ pitch → (left + q * pitch - left) / pitch ≡ q
number_of left pitch q spaced = ap (λ (y : ℕ). y / pitch) (omega arith) ∙ digits_div q {m = pitch} {r = 0} (omega arith)

-- the same, where what is done goes by the column's number
pub steps-numbered : {A : Type 0} (k : Walk) (g : ℕ → A → A) (l : List A) → Walks k (length l)
    → each (stepped (k.col * k.planes + k.plane) (min (length l) ((k.right - k.x0) * k.planes)) (k.pitch * k.planes) (λ m v. g (k.nth + m) v)) l
    ≡ walked k (λ x p v. g ((x - k.left) / k.pitch) v) l
steps-numbered k g l w =
    steps-walked k (λ m v. g (k.nth + m) v) (λ x p v. g ((x - k.left) / k.pitch) v) l w
    (λ m v. ap (λ j. g j v) (sym (number_of k.left k.pitch (k.nth + m) w.spaced)))
