-- A walk done in blocks of columns: a block begins and ends where nothing else is to do, and all blocks one after another are the walk.
-- Over any kind A. Assumes nothing.
use Prim.Native.Nat.{ℕ, ◌+◌, ◌*◌, ◌/◌, ◌%◌, ◌≤◌, ◌<◌, min, max}
use mathlib.Core.Path.{◌≡◌, refl, sym, ap, ◌∙◌}
use mathlib.Core.Bool.{Bool, true, false, cond}
use mathlib.Core.List.{List, [], ◌∷◌}
use native.Mathlib.Nat.{mul-le-mul_right, lt_of_mul-lt-mul_right, div-mul-le_self, le-div_iff_mul-le, div-lt_iff_lt-mul}
use native.Mathlib.Omega.{arith}
use lib.Dec.{leb, ltb}
use lib.ListN.{length}
use Rattle.pointwise.specs.Points.{each, before, between}
use Rattle.pointwise.specs.Select.{selects, in_row, on_columns}
use Rattle.pointwise.proofs.Each.{below_or, each-agree, each_none, each-each}
use Rattle.pointwise.proofs.Parts.{before-in, before-out, between_in, between-low, between-high}
use Rattle.pointwise.proofs.Select.{selects-high, on-unselected}
use Rattle.pointwise.proofs.Walk.{in-row, first-bound, Upto}
use Rattle.row_select.specs.declared.Walk.{Walk}
use Rattle.row_select.specs.Walks.{walked, Walks}
use Rattle.row_gain.specs.Blocks.{within, Begins, Counted}

module _ {A : Type 0} where
  -- ---- the cases of `within`

  pub within_in : (a e : ℕ) (g : ℕ → ℕ → A → A) (x k : ℕ) (v : A) → a ≤ x → x < e → within a e g x k v ≡ g x k v
  unfolding within
  within_in a e g x k v = between_in a e (λ y. g y k) x v

  pub within_low : (a e : ℕ) (g : ℕ → ℕ → A → A) (x k : ℕ) (v : A) → x < a → within a e g x k v ≡ v
  unfolding within
  within_low a e g x k v = between-low a e (λ y. g y k) x v

  pub within-high : (a e : ℕ) (g : ℕ → ℕ → A → A) (x k : ℕ) (v : A) → e ≤ x → within a e g x k v ≡ v
  unfolding within
  within-high a e g x k v = between-high a e (λ y. g y k) x v

  pub within-agree : (a e : ℕ) (f g : ℕ → ℕ → A → A) (x k : ℕ) (v : A) → f x k v ≡ g x k v → within a e f x k v ≡ within a e g x k v
  unfolding within between
  within-agree a e f g x k v h = rw h

  -- one block after another
  pub within-within : (b a e : ℕ) (g : ℕ → ℕ → A → A) (x k : ℕ) (v : A) → b ≤ a → a ≤ e
      → within a e g x k (within b a g x k v) ≡ within b e g x k v
  within-within b a e g x k v ba ae =
      below_or x b
      (λ q. within_low a e g x k _ (omega arith) ∙ within_low b a g x k v q ∙ sym (within_low b e g x k v q))
      (λ q.
      below_or x a
      (λ r. within_low a e g x k _ r ∙ within_in b a g x k v q r ∙ sym (within_in b e g x k v q (omega arith)))
      (λ r.
      ap (within a e g x k) (within-high b a g x k v r)
      ∙ below_or x e (λ t. within_in a e g x k v r t ∙ sym (within_in b e g x k v q t))
      (λ t. within-high a e g x k v t ∙ sym (within-high b e g x k v t))))

  -- ---- `on_columns` of rules that leave a sample, and of one rule after another

  either : (b : Bool) (v : A) → cond b v v ≡ v
  either true v = refl
  either false v = refl

  on-left : (lo hi pitch plane planes : ℕ) (g : ℕ → ℕ → A → A) (x k : ℕ) (v : A) → g x k v ≡ v
      → on_columns lo hi pitch plane planes g x k v ≡ v
  unfolding on_columns
  on-left lo hi pitch plane planes g x k v e = rw (e, either, either, either)

  cond-cond : (s p q : Bool) (f g : A → A) (v : A)
      → let on : (A → A) → A → A = λ h u. cond s (cond p (cond q (h u) u) u) u in
      on f (on g v) ≡ on (λ u. f (g u)) v
  cond-cond true true true f g v = refl
  cond-cond true true false f g v = refl
  cond-cond true false q f g v = refl
  cond-cond false p q f g v = refl

  on-on : (lo hi pitch plane planes : ℕ) (f g : ℕ → ℕ → A → A) (x k : ℕ) (v : A)
      → on_columns lo hi pitch plane planes f x k (on_columns lo hi pitch plane planes g x k v)
      ≡ on_columns lo hi pitch plane planes (λ y j u. f y j (g y j u)) x k v
  unfolding on_columns
  on-on lo hi pitch plane planes f g x k v = cond-cond (selects lo hi pitch x) (leb plane k) (ltb k (plane + planes)) (f x k) (g x k) v

  on-agree : (lo hi pitch plane planes : ℕ) (f g : ℕ → ℕ → A → A) (x k : ℕ) (v : A) → f x k v ≡ g x k v
      → on_columns lo hi pitch plane planes f x k v ≡ on_columns lo hi pitch plane planes g x k v
  unfolding on_columns
  on-agree lo hi pitch plane planes f g x k v e = rw e

  -- ---- a walk may begin where the rule leaves every column before it, and end where it leaves every column from there on

  pub upto_from : {lo hi pitch plane x0 p : ℕ} {g : ℕ → ℕ → A → A} {l : List A} {c : ℕ} (n : ℕ) → 0 < p → x0 + c ≡ lo + n * max pitch 1
      → ((x k : ℕ) (v : A) → x < x0 + c → g x k v ≡ v) → Upto lo hi pitch plane x0 p g l l c (c * p + plane)
  upto_from {lo} {hi} {pitch} {plane} {x0} {p} {g} {l} {c} n pos here leaves =
      record {
        done = sym (each_none (before (c * p) F) l (λ i v h. below_or i (c * p) (passed i v) (before-out (c * p) F i v)));
        number = n;
        here = here;
        place = refl;
        same = refl;
      }
    where
      F : ℕ → A → A
      F = in_row x0 p (on_columns lo hi pitch plane 1 g)

      passed : (i : ℕ) (v : A) → i < c * p → before (c * p) F i v ≡ v
      passed i v h =
          let q : i / p < c = (div-lt_iff_lt-mul pos).1 h in
          before-in (c * p) F i v h ∙ in-row x0 p (on_columns lo hi pitch plane 1 g) i v
          ∙ on-left lo hi pitch plane 1 g (x0 + i / p) (i % p) v (leaves (x0 + i / p) (i % p) v (omega arith))

  pub upto-past : {lo hi pitch plane x0 p : ℕ} {g : ℕ → ℕ → A → A} {l row : List A} {c i : ℕ} → 0 < p
      → Upto lo hi pitch plane x0 p g l row c i → ((x k : ℕ) (v : A) → x0 + c ≤ x → g x k v ≡ v)
      → row ≡ each (in_row x0 p (on_columns lo hi pitch plane 1 g)) l
  upto-past {lo} {hi} {pitch} {plane} {x0} {p} {g} {l} {row} {c} {i} pos u leaves =
      u.done
      ∙ each-agree (before (c * p) F) F l
      (λ j v h. below_or j (c * p) (before-in (c * p) F j v) (λ q. before-out (c * p) F j v q ∙ sym (left j v q)))
    where
      F : ℕ → A → A
      F = in_row x0 p (on_columns lo hi pitch plane 1 g)

      left : (j : ℕ) (v : A) → c * p ≤ j → F j v ≡ v
      left j v q =
          let from : c ≤ j / p = (le-div_iff_mul-le pos).1 q in
          in-row x0 p (on_columns lo hi pitch plane 1 g) j v
          ∙ on-left lo hi pitch plane 1 g (x0 + j / p) (j % p) v (leaves (x0 + j / p) (j % p) v (omega arith))

  -- ---- blocks

  -- a block of no columns
  pub block_none : (k : Walk) (a e : ℕ) (g : ℕ → ℕ → A → A) (l : List A) → e ≤ a → walked k (within a e g) l ≡ l
  unfolding walked in_row
  block_none k a e g l h =
      each_none _ l
      (λ i v q.
      let x : ℕ = k.x0 + i / k.planes in
      on-left _ _ _ _ _ _ x (i % k.planes) v
      (below_or x a (within_low a e g x _ v) (λ r. within-high a e g x _ v (omega arith))))

  -- the block from a up to e after that from b up to a: the block from b up to e
  pub block-next : (k : Walk) (b a e : ℕ) (g : ℕ → ℕ → A → A) (l : List A) → b ≤ a → a ≤ e
      → walked k (within a e g) (walked k (within b a g) l) ≡ walked k (within b e g) l
  unfolding walked in_row
  block-next k b a e g l ba ae =
      each-each _ _ l
      ∙ each-agree _ _ l
      (λ i v h.
      let x : ℕ = k.x0 + i / k.planes in
      let p : ℕ = i % k.planes in
      on-on k.left k.right k.pitch k.plane 1 (within a e g) (within b a g) x p v
      ∙ on-agree k.left k.right k.pitch k.plane 1 _ (within b e g) x p v (within-within b a e g x p v ba ae))

  -- the block from the first selected column on that reaches past the last: the walk
  pub block-all : (k : Walk) (b e : ℕ) (g : ℕ → ℕ → A → A) (l : List A) → Walks k (length l) → b ≤ k.x0 + k.col
      → min (k.right * k.planes) (k.x0 * k.planes + length l) ≤ e * k.planes → walked k (within b e g) l ≡ walked k g l
  unfolding walked in_row
  block-all k b e g l w first past =
      each-agree _ _ l
      (λ i v h.
      let c : ℕ = i / k.planes in
      let x : ℕ = k.x0 + c in
      let p : ℕ = i % k.planes in
      below_or x b
      (λ q.
      let none : selects k.left k.right k.pitch x ≡ false = w.first.none k.right x (omega arith) (omega arith) in
      on-unselected _ _ _ _ _ _ x p v none ∙ sym (on-unselected _ _ _ _ _ g x p v none))
      (λ q.
      below_or x k.right
      (λ r.
      let more : (x + 1) * k.planes ≤ k.right * k.planes = mul-le-mul_right k.planes (omega arith) in
      let t : x < e = lt_of_mul-lt-mul_right k.planes (omega (arith, w.some, div-mul-le_self i k.planes)) in
      on-agree k.left k.right k.pitch k.plane 1 (within b e g) g x p v (within_in b e g x p v q t))
      (λ r.
      let none : selects k.left k.right k.pitch x ≡ false = selects-high k.left k.right k.pitch x r in
      on-unselected _ _ _ _ _ _ x p v none ∙ sym (on-unselected _ _ _ _ _ g x p v none))))

  -- blocks one after another: from a up to the first of `es`, from there up to the next, and so on
  unfoldable pub in_blocks : Walk → (ℕ → ℕ → A → A) → ℕ → List ℕ → List A → List A
  in_blocks k g a [] l = l
  in_blocks k g a (e ∷ es) l = in_blocks k g e es (walked k (within a e g) l)

-- none of `es` is before the one before it, the first not before a; the last of them
abbrev pub Ascend : ℕ → List ℕ → Type 0
Ascend a [] = Unit
Ascend a (e ∷ es) = (a ≤ e) × Ascend e es

abbrev pub last_of : ℕ → List ℕ → ℕ
last_of a [] = a
last_of a (e ∷ es) = last_of e es

module _ {A : Type 0} where
  pub blocks-are : (k : Walk) (b a : ℕ) (es : List ℕ) (g : ℕ → ℕ → A → A) (l : List A) → b ≤ a → Ascend a es
      → in_blocks k g a es (walked k (within b a g) l) ≡ walked k (within b (last_of a es) g) l
  unfolding in_blocks
  blocks-are k b a [] g l h up = refl
  blocks-are k b a (e ∷ es) g l h up =
      ap (in_blocks k g e es) (block-next k b a e g l h up.0) ∙ blocks-are k b e es g l (omega (arith, up.0)) up.1

  -- all blocks of a row, one after another, are the row
  pub blocks-row : (k : Walk) (es : List ℕ) (g : ℕ → ℕ → A → A) (l : List A) → Walks k (length l) → Ascend (k.x0 + k.col) es
      → min (k.right * k.planes) (k.x0 * k.planes + length l) ≤ last_of (k.x0 + k.col) es * k.planes
      → in_blocks k g (k.x0 + k.col) es l ≡ walked k g l
  blocks-row k es g l w up past =
      let a : ℕ = k.x0 + k.col in
      ap (in_blocks k g a es) (sym (block_none k a a g l (omega arith)))
      ∙ blocks-are k a a es g l (omega arith) up
      ∙ block-all k a (last_of a es) g l w (omega arith) past

-- ---- where a block begins

pub begins-first : (k : Walk) (n w : ℕ) → Walks k n → w ≤ 65536 → Begins k k.col w
begins-first k n w is few =
    record {
      number = k.nth;
      here = is.first.here ∙ ap (λ (q : ℕ). k.left + k.nth * q) (omega (arith, is.spaced));
      near = omega (arith, first-bound _ _ _ _ _ is.first, is.left32, is.pitch32);
      few = few;
    }

-- the block after w columns; `fill_block` says how far that is (`Counted`, `near`)
pub begins-next : (k : Walk) (from w w' : ℕ) → Begins k from w → from + w * k.pitch < 8589934592 → w' ≤ 65536
    → Begins k (from + w * k.pitch) w'
begins-next k from w w' b near few =
    record { number = b.number + w; here = omega (arith, b.here); near = near; few = few }

-- there is some column in each block, so that blocks come to an end
pub some-counted : (x pitch end room w : ℕ) → Counted x pitch end room w → 1 ≤ pitch → 1 ≤ room → x < end → 1 ≤ w
some-counted x pitch end room w c spaced some h =
    below_or w 1
    (λ q.
    let none : w * pitch ≡ 0 * pitch = ap (λ (i : ℕ). i * pitch) (omega arith) in
    omega (arith, c.all, mul-le-mul_right {m = 1} {n = room} pitch some))
    (λ q. q)

-- where the room was not the limit, the end is reached
pub all-counted : (x pitch end room w : ℕ) → Counted x pitch end room w → w < room → 1 ≤ pitch → end ≤ x + w * pitch
all-counted x pitch end room w c h spaced =
    let more : (w + 1) * pitch ≤ room * pitch = mul-le-mul_right pitch (omega arith) in
    omega (arith, c.all)
