-- A walk over the selected columns of one plane of a row, a plane after another, and the run that stands for both where the pitch is 1 and
-- every plane is taken. Over any kind A; `d` is what `get_or` gives past the end. Assumes nothing.
use Prim.Native.Nat.{ℕ, zero, suc, ◌+◌, ◌-◌, ◌*◌, ◌/◌, ◌%◌, ◌≤◌, ◌<◌, min, max}
use mathlib.Core.Path.{◌≡◌, refl, sym, ap, ap₂, subst, ◌∙◌}
use mathlib.Core.Bool.{true, false}
use mathlib.Core.List.{List}
use native.Mathlib.Nat.{add-mul, suc-mul, mul-one, mul-le-mul_left, mul-le-mul_right, lt_of_mul-lt-mul_right}
use native.Mathlib.Nat.{mod-lt, div-add-mod', div-mul-le_self, le-div_iff_mul-le, div-lt_iff_lt-mul}
use native.Mathlib.Omega.{arith}
use lib.Arith.{digits_div, digits_mod}
use lib.ListN.{length, get_or, set, length-set}
use Rattle.pointwise.specs.Points.{each, before, between}
use Rattle.pointwise.specs.Select.{selects, in_row, on_columns, First}
use Rattle.pointwise.proofs.Each.{below_or, each-agree, each_none, each-each}
use Rattle.pointwise.proofs.Parts.{before-in, before-out, between_in, between-low, between-high, each-between-empty, advance-at, store}
use Rattle.pointwise.proofs.Select.{selects_at, selects-low, selects-high, selects-gap, selects-number}
use Rattle.pointwise.proofs.Select.{on-plane, on_in, on-unselected, on_below, on-above}

-- it is, if it is lo itself or less than a step from the row's start
pub first-near : (lo pitch x0 col n : ℕ) → x0 + col ≡ lo + n * max pitch 1 → (0 < n → col < max pitch 1) → First lo pitch x0 col n
first-near lo pitch x0 col zero e near = record { here = e; none = λ hi x a b. selects-low lo hi pitch x (omega arith) }
first-near lo pitch x0 col (suc m) e near =
    record {
      here = e;
      none = λ hi x a b.
          let step : suc m * max pitch 1 ≡ m * max pitch 1 + max pitch 1 = suc-mul m (max pitch 1) in
          let close : col < max pitch 1 = near (omega arith) in
          below_or x lo (λ q. selects-low lo hi pitch x q) (λ q. selects-gap lo hi pitch x m (omega arith) (omega arith));
    }

-- and only then
pub first-close : (lo pitch x0 col n : ℕ) → First lo pitch x0 col n → 0 < n → col < max pitch 1
first-close lo pitch x0 col zero f h = omega arith
first-close lo pitch x0 col (suc m) f h =
    below_or x x0 (λ q. omega (arith, f.here, suc-mul m (max pitch 1)))
    (λ q. absurd (apart (f.none (suc x) x q (omega (arith, f.here, suc-mul m (max pitch 1))))))
  where
    x : ℕ
    x = lo + m * max pitch 1

    apart : selects lo (suc x) pitch x ≡ false → ⊥
    apart e =
        let t : selects lo (suc x) pitch x ≡ true = selects_at lo (suc x) pitch x m refl (omega arith) in
        let z : ◌≡◌ {A = ℕ} 0 1 = cc in
        omega arith

-- so it is at most lo or a step from the row's start
pub first-bound : (lo pitch x0 col n : ℕ) → First lo pitch x0 col n → col ≤ max lo (max pitch 1)
first-bound lo pitch x0 col zero f = omega (arith, f.here)
first-bound lo pitch x0 col (suc m) f = omega (arith, first-close lo pitch x0 col (suc m) f (omega arith))

-- there is one first column
pub first-unique : (lo pitch x0 col n col' n' : ℕ) → First lo pitch x0 col n → First lo pitch x0 col' n' → col ≡ col'
first-unique lo pitch x0 col n col' n' f f' =
    below_or col col' (λ h. absurd (never col n col' n' f f' h))
    (λ h. below_or col' col (λ q. absurd (never col' n' col n f' f q)) (λ q. omega arith))
  where
    never : (a m b k : ℕ) → First lo pitch x0 a m → First lo pitch x0 b k → a < b → ⊥
    never a m b k u w h =
        let t : selects lo (suc (x0 + a)) pitch (x0 + a) ≡ true = selects_at lo (suc (x0 + a)) pitch (x0 + a) m u.here (omega arith) in
        let e : selects lo (suc (x0 + a)) pitch (x0 + a) ≡ false = w.none (suc (x0 + a)) (x0 + a) (omega arith) (omega arith) in
        let z : ◌≡◌ {A = ℕ} 0 1 = cc in
        omega arith

-- the number of the first column, worked out from the column
pub first-number : (lo pitch x0 col n : ℕ) → First lo pitch x0 col n → n ≡ (x0 + col - lo) / max pitch 1
first-number lo pitch x0 col n f = sym (selects-number lo pitch (x0 + col) n f.here)

pub first-numbered : (lo pitch x0 col n : ℕ) → First lo pitch x0 col n → First lo pitch x0 col ((x0 + col - lo) / max pitch 1)
first-numbered lo pitch x0 col n f = subst (λ (m : ℕ). First lo pitch x0 col m) (first-number lo pitch x0 col n f) f

-- the first column where the row starts at or before lo, on a selected column, and between two; q is the step
pub first-left : (lo pitch x0 : ℕ) → x0 ≤ lo → First lo pitch x0 (lo - x0) 0
first-left lo pitch x0 h = first-near lo pitch x0 (lo - x0) 0 (omega arith) (λ k. omega arith)

pub first_on : (lo pitch x0 q : ℕ) → q ≡ max pitch 1 → lo ≤ x0 → (x0 - lo) % q ≡ 0 → First lo pitch x0 0 ((x0 - lo) / q)
first_on lo pitch x0 q e h z =
    first-near lo pitch x0 0 ((x0 - lo) / q) (rw (← e) (omega (arith, div-add-mod' (x0 - lo) q))) (λ k. omega arith)

pub first_off : (lo pitch x0 q : ℕ) → q ≡ max pitch 1 → lo ≤ x0 → 0 < (x0 - lo) % q
    → First lo pitch x0 (q - (x0 - lo) % q) ((x0 - lo) / q + 1)
first_off lo pitch x0 q e h z =
    let below : (x0 - lo) % q < q = mod-lt (x0 - lo) (omega arith) in
    first-near lo pitch x0 (q - (x0 - lo) % q) ((x0 - lo) / q + 1)
    (rw (← e) (omega (arith, div-add-mod' (x0 - lo) q, add-mul ((x0 - lo) / q) 1 q)))
    (λ k. omega arith)

module _ {A : Type 0} where
  -- what a row's sample is, by its definition
  pub in-row : (x0 p : ℕ) (f : ℕ → ℕ → A → A) (i : ℕ) (v : A) → in_row x0 p f i v ≡ f (x0 + i / p) (i % p) v
  unfolding in_row
  in-row x0 p f i v = refl

  -- sample c * p + k, with k below p, is plane k of column c
  pub in-row-at : (x0 p : ℕ) (f : ℕ → ℕ → A → A) (i c k : ℕ) (v : A) → i ≡ c * p + k → k < p → in_row x0 p f i v ≡ f (x0 + c) k v
  unfolding in_row
  in-row-at x0 p f i c k v e h =
      ap₂ (λ (x j : ℕ). f (x0 + x) j v) (ap (λ (m : ℕ). m / p) e ∙ digits_div c h) (ap (λ (m : ℕ). m % p) e ∙ digits_mod c h)

  -- The walk over one plane stands at sample i, plane `plane` of column c, the number-th selected column: what lies before c is done.
  pub record Upto (lo hi pitch plane x0 p : ℕ) (g : ℕ → ℕ → A → A) (l row : List A) (c i : ℕ) : Type 0 where
    pub done : row ≡ each (before (c * p) (in_row x0 p (on_columns lo hi pitch plane 1 g))) l
    pub number : ℕ
    pub here : x0 + c ≡ lo + number * max pitch 1
    pub place : i ≡ c * p + plane
    pub same : length row ≡ length l

  -- the walk begins at the first column
  pub upto-begin : {lo hi pitch plane x0 p : ℕ} {g : ℕ → ℕ → A → A} {l : List A} {col n : ℕ} → 0 < p → First lo pitch x0 col n
      → Upto lo hi pitch plane x0 p g l l col (col * p + plane)
  upto-begin {lo} {hi} {pitch} {plane} {x0} {p} {g} {l} {col} {n} pos f =
      record {
        done = sym (each_none (before (col * p) F) l (λ i v h. below_or i (col * p) (passed i v) (before-out (col * p) F i v)));
        number = n;
        here = f.here;
        place = refl;
        same = refl;
      }
    where
      F : ℕ → A → A
      F = in_row x0 p (on_columns lo hi pitch plane 1 g)

      passed : (i : ℕ) (v : A) → i < col * p → before (col * p) F i v ≡ v
      passed i v h =
          let q : i / p < col = (div-lt_iff_lt-mul pos).1 h in
          before-in (col * p) F i v h ∙ in-row x0 p (on_columns lo hi pitch plane 1 g) i v
          ∙ on-unselected lo hi pitch plane 1 g (x0 + i / p) (i % p) v (f.none hi (x0 + i / p) (omega arith) (omega arith))

  -- the column's number in the row is at most the sample's
  pub upto_le : {lo hi pitch plane x0 p : ℕ} {g : ℕ → ℕ → A → A} {l row : List A} {c i : ℕ} → 0 < p
      → Upto lo hi pitch plane x0 p g l row c i → c ≤ i
  upto_le {c = c} pos u = omega (arith, u.place, mul-le-mul_left c pos, mul-one c)

  -- one plane: what a sample of another plane, or of a column that is not selected, is left as
  other-plane : (lo hi pitch plane x0 p : ℕ) (g : ℕ → ℕ → A → A) (j : ℕ) (v : A) → (j % p ≡ plane → ⊥)
      → in_row x0 p (on_columns lo hi pitch plane 1 g) j v ≡ v
  other-plane lo hi pitch plane x0 p g j v h =
      in-row x0 p (on_columns lo hi pitch plane 1 g) j v
      ∙ below_or (j % p) plane (on_below lo hi pitch plane 1 g (x0 + j / p) (j % p) v)
      (λ q.
      below_or plane (j % p) (λ r. on-above lo hi pitch plane 1 g (x0 + j / p) (j % p) v (omega arith))
      (λ r. absurd (h (omega arith))))

  other-column : (lo hi pitch plane planes x0 p : ℕ) (g : ℕ → ℕ → A → A) (j : ℕ) (v : A) → selects lo hi pitch (x0 + j / p) ≡ false
      → in_row x0 p (on_columns lo hi pitch plane planes g) j v ≡ v
  other-column lo hi pitch plane planes x0 p g j v h =
      in-row x0 p (on_columns lo hi pitch plane planes g) j v
      ∙ on-unselected lo hi pitch plane planes g (x0 + j / p) (j % p) v h

  -- from a selected column up to the next, the one sample of the plane is all there is to do
  step-at : (lo hi pitch plane x0 p : ℕ) (g : ℕ → ℕ → A → A) (c i n : ℕ) → plane < p → x0 + c ≡ lo + n * max pitch 1
      → i ≡ c * p + plane → x0 + c < hi → (j : ℕ) (v : A) → c * p ≤ j → j < (c + max pitch 1) * p
      → in_row x0 p (on_columns lo hi pitch plane 1 g) j v ≡ between i (i + 1) (in_row x0 p g) j v
  step-at lo hi pitch plane x0 p g c i n pl here place in-hi j v above below =
      below_or (j / p) (suc c)
      (λ q. column (omega (arith, from)))
      (λ q.
      other-column lo hi pitch plane 1 x0 p g j v (selects-gap lo hi pitch (x0 + j / p) n (omega arith) (omega (arith, upto)))
      ∙ sym (between-high i (i + 1) (in_row x0 p g) j v (omega (arith, mul-le-mul_right p q, suc-mul c p, div-mul-le_self j p))))
    where
      pos : 0 < p
      pos = omega arith

      from : c ≤ j / p
      from = (le-div_iff_mul-le pos).1 above

      upto : j / p < c + max pitch 1
      upto = (div-lt_iff_lt-mul pos).1 below

      column : j / p ≡ c → in_row x0 p (on_columns lo hi pitch plane 1 g) j v ≡ between i (i + 1) (in_row x0 p g) j v
      column e =
          let split : j ≡ c * p + j % p = sym (div-add-mod' j p) ∙ ap (λ (m : ℕ). m * p + j % p) e in
          below_or j i
          (λ q. other-plane lo hi pitch plane x0 p g j v (λ z. omega arith) ∙ sym (between-low i (i + 1) (in_row x0 p g) j v q))
          (λ q.
          below_or i j
          (λ r.
          other-plane lo hi pitch plane x0 p g j v (λ z. omega arith)
          ∙ sym (between-high i (i + 1) (in_row x0 p g) j v (omega arith)))
          (λ r.
          in-row-at x0 p (on_columns lo hi pitch plane 1 g) j c plane v (omega arith) pl
          ∙ on_in lo hi pitch plane 1 g (x0 + c) plane v (selects_at lo hi pitch (x0 + c) n here in-hi) (omega arith) (omega arith)
          ∙ sym (in-row-at x0 p g j c plane v (omega arith) pl)
          ∙ sym (between_in i (i + 1) (in_row x0 p g) j v q (omega arith))))

  -- a store at i, and a step to the next selected column
  pub upto_next : {lo hi pitch plane x0 p : ℕ} {g : ℕ → ℕ → A → A} {l row : List A} {c i : ℕ} {w : A} (d : A) → plane < p
      → Upto lo hi pitch plane x0 p g l row c i → i < min (length l) ((hi - x0) * p) → w ≡ g (x0 + c) plane (get_or row i d)
      → Upto lo hi pitch plane x0 p g l (set row i w) (c + max pitch 1) (i + max pitch 1 * p)
  upto_next {lo} {hi} {pitch} {plane} {x0} {p} {g} {l} {row} {c} {i} {w} d pl u below value =
      record {
        done = stored
            ∙ ap (each (between i (i + 1) (in_row x0 p g))) u.done
            ∙ advance-at d F (in_row x0 p g) (c * p) ((c + max pitch 1) * p) i (i + 1) l
            (omega (arith, u.place)) (omega (arith, u.place, step, wide)) (omega (arith, step))
            (λ j a b q. step-at lo hi pitch plane x0 p g c i u.number pl u.here u.place in-hi j (get_or l j d) a b);
        number = u.number + 1;
        here = omega (arith, u.here, add-mul u.number 1 (max pitch 1));
        place = omega (arith, u.place, step);
        same = length-set row i w ∙ u.same;
      }
    where
      F : ℕ → A → A
      F = in_row x0 p (on_columns lo hi pitch plane 1 g)

      step : (c + max pitch 1) * p ≡ c * p + max pitch 1 * p
      step = add-mul c (max pitch 1) p

      wide : 1 * p ≤ max pitch 1 * p
      wide = mul-le-mul_right p (omega arith)

      in-hi : x0 + c < hi
      in-hi = let q : c < hi - x0 = lt_of_mul-lt-mul_right p (omega (arith, u.place)) in omega arith

      stored : set row i w ≡ each (between i (i + 1) (in_row x0 p g)) row
      stored =
          store d (in_row x0 p g) i i row row w (sym (each-between-empty i i (in_row x0 p g) row (omega arith)))
          (value ∙ sym (in-row-at x0 p g i c plane (get_or row i d) u.place pl)) (omega arith) (omega (arith, u.same))

  -- the same, where the step is worked out before the walk: q columns, s samples
  pub upto-next-by : {lo hi pitch plane x0 p : ℕ} {g : ℕ → ℕ → A → A} {l row : List A} {c i : ℕ} {w : A} (d : A) (q s : ℕ)
      → q ≡ max pitch 1 → s ≡ q * p → plane < p
      → Upto lo hi pitch plane x0 p g l row c i → i < min (length l) ((hi - x0) * p) → w ≡ g (x0 + c) plane (get_or row i d)
      → Upto lo hi pitch plane x0 p g l (set row i w) (c + q) (i + s)
  upto-next-by d q s eq es pl u below value = rw (es, eq) (upto_next d pl u below value)

  -- past the last column before hi, or past the end of the row, the plane is done
  pub upto-end : {lo hi pitch plane x0 p : ℕ} {g : ℕ → ℕ → A → A} {l row : List A} {c i : ℕ} → plane < p
      → Upto lo hi pitch plane x0 p g l row c i → min (length l) ((hi - x0) * p) ≤ i
      → row ≡ each (in_row x0 p (on_columns lo hi pitch plane 1 g)) l
  upto-end {lo} {hi} {pitch} {plane} {x0} {p} {g} {l} {row} {c} {i} pl u past =
      u.done
      ∙ each-agree (before (c * p) F) F l
      (λ j v h. below_or j (c * p) (before-in (c * p) F j v) (λ q. before-out (c * p) F j v q ∙ sym (left j v h q)))
    where
      F : ℕ → A → A
      F = in_row x0 p (on_columns lo hi pitch plane 1 g)

      pos : 0 < p
      pos = omega arith

      left : (j : ℕ) (v : A) → j < length l → c * p ≤ j → F j v ≡ v
      left j v h q =
          let from : c ≤ j / p = (le-div_iff_mul-le pos).1 q in
          below_or (x0 + j / p) hi
          (λ r.
          let more : suc (j / p) * p ≤ (hi - x0) * p = mul-le-mul_right p (omega arith) in
          other-plane lo hi pitch plane x0 p g j v
          (λ z. omega (arith, u.place, div-add-mod' j p, mul-le-mul_right p from, suc-mul (j / p) p)))
          (λ r. other-column lo hi pitch plane 1 x0 p g j v (selects-high lo hi pitch (x0 + j / p) r))

  -- no planes: nothing
  pub planes-none : (lo hi pitch plane x0 p : ℕ) (g : ℕ → ℕ → A → A) (l : List A)
      → each (in_row x0 p (on_columns lo hi pitch plane 0 g)) l ≡ l
  planes-none lo hi pitch plane x0 p g l =
      each_none (in_row x0 p (on_columns lo hi pitch plane 0 g)) l
      (λ i v h.
      in-row x0 p (on_columns lo hi pitch plane 0 g) i v
      ∙ below_or (i % p) plane (on_below lo hi pitch plane 0 g (x0 + i / p) (i % p) v)
      (λ q. on-above lo hi pitch plane 0 g (x0 + i / p) (i % p) v (omega arith)))

  -- one plane more, at a sample
  one_more : (lo hi pitch plane n : ℕ) (g : ℕ → ℕ → A → A) (x k : ℕ) (v : A)
      → on_columns lo hi pitch (plane + n) 1 g x k (on_columns lo hi pitch plane n g x k v) ≡ on_columns lo hi pitch plane (n + 1) g x k v
  one_more lo hi pitch plane n g x k v =
      below_or k (plane + n)
      (λ q.
      on_below lo hi pitch (plane + n) 1 g x k _ q
      ∙ below_or k plane (λ r. on_below lo hi pitch plane n g x k v r ∙ sym (on_below lo hi pitch plane (n + 1) g x k v r))
      (λ r. on-plane lo hi pitch plane n g x k v r q ∙ sym (on-plane lo hi pitch plane (n + 1) g x k v r (omega arith))))
      (λ q.
      ap (on_columns lo hi pitch (plane + n) 1 g x k) (on-above lo hi pitch plane n g x k v q)
      ∙ below_or k (plane + n + 1)
      (λ r.
      on-plane lo hi pitch (plane + n) 1 g x k v q r ∙ sym (on-plane lo hi pitch plane (n + 1) g x k v (omega arith) (omega arith)))
      (λ r. on-above lo hi pitch (plane + n) 1 g x k v r ∙ sym (on-above lo hi pitch plane (n + 1) g x k v (omega arith))))

  -- plane `plane + n` after the n planes from `plane`: n + 1 planes
  pub planes-next : (lo hi pitch plane n x0 p : ℕ) (g : ℕ → ℕ → A → A) (l : List A)
      → each (in_row x0 p (on_columns lo hi pitch (plane + n) 1 g)) (each (in_row x0 p (on_columns lo hi pitch plane n g)) l)
      ≡ each (in_row x0 p (on_columns lo hi pitch plane (n + 1) g)) l
  unfolding in_row
  planes-next lo hi pitch plane n x0 p g l =
      each-each (in_row x0 p (on_columns lo hi pitch plane n g)) (in_row x0 p (on_columns lo hi pitch (plane + n) 1 g)) l
      ∙ each-agree
      (λ i v. in_row x0 p (on_columns lo hi pitch (plane + n) 1 g) i (in_row x0 p (on_columns lo hi pitch plane n g) i v))
      (in_row x0 p (on_columns lo hi pitch plane (n + 1) g))
      l
      (λ i v h. one_more lo hi pitch plane n g (x0 + i / p) (i % p) v)

  -- two counts of planes that both reach the window's p planes select the same
  pub planes-past : (lo hi pitch plane n m x0 p : ℕ) (g : ℕ → ℕ → A → A) (l : List A) → 0 < p → p ≤ plane + n → p ≤ plane + m
      → each (in_row x0 p (on_columns lo hi pitch plane n g)) l ≡ each (in_row x0 p (on_columns lo hi pitch plane m g)) l
  unfolding in_row
  planes-past lo hi pitch plane n m x0 p g l pos reach reach' =
      each-agree (in_row x0 p (on_columns lo hi pitch plane n g)) (in_row x0 p (on_columns lo hi pitch plane m g)) l
      (λ i v h.
      let x : ℕ = x0 + i / p in
      let k : ℕ = i % p in
      let q : k < p = mod-lt i pos in
      below_or k plane (λ r. on_below lo hi pitch plane n g x k v r ∙ sym (on_below lo hi pitch plane m g x k v r))
      (λ r.
      on-plane lo hi pitch plane n g x k v r (omega arith) ∙ sym (on-plane lo hi pitch plane m g x k v r (omega arith))))

  -- planes past the window's p select nothing: min (plane + planes) p - plane of them are left
  pub planes-end : (lo hi pitch plane planes x0 p : ℕ) (g : ℕ → ℕ → A → A) (l : List A) → 0 < p
      → each (in_row x0 p (on_columns lo hi pitch plane (min (plane + planes) p - plane) g)) l
      ≡ each (in_row x0 p (on_columns lo hi pitch plane planes g)) l
  planes-end lo hi pitch plane planes x0 p g l pos =
      below_or (plane + planes) p
      (λ q. ap (λ (n : ℕ). each (in_row x0 p (on_columns lo hi pitch plane n g)) l) (omega arith))
      (λ q. planes-past lo hi pitch plane (min (plane + planes) p - plane) planes x0 p g l pos (omega arith) q)

  -- a first plane past the window's selects nothing
  pub planes-outside : (lo hi pitch plane planes x0 p : ℕ) (g : ℕ → ℕ → A → A) (l : List A) → 0 < p → p ≤ plane
      → each (in_row x0 p (on_columns lo hi pitch plane planes g)) l ≡ l
  planes-outside lo hi pitch plane planes x0 p g l pos out =
      planes-past lo hi pitch plane planes 0 x0 p g l pos (omega arith) (omega arith) ∙ planes-none lo hi pitch plane x0 p g l

  -- pitch 1 and every plane: the samples from the first column up to the last are one run
  pub dense : (lo hi pitch plane planes x0 p : ℕ) (g : ℕ → ℕ → A → A) (l : List A) → 0 < p → max pitch 1 ≡ 1 → plane ≡ 0 → p ≤ planes
      → each (between ((lo - x0) * p) (min (length l) ((hi - x0) * p)) (in_row x0 p g)) l
      ≡ each (in_row x0 p (on_columns lo hi pitch plane planes g)) l
  unfolding in_row
  dense lo hi pitch plane planes x0 p g l pos one first all =
      each-agree (between a e (in_row x0 p g)) (in_row x0 p (on_columns lo hi pitch plane planes g)) l at
    where
      a : ℕ
      a = (lo - x0) * p

      e : ℕ
      e = min (length l) ((hi - x0) * p)

      at : (i : ℕ) (v : A) → i < length l → between a e (in_row x0 p g) i v ≡ in_row x0 p (on_columns lo hi pitch plane planes g) i v
      at i v h =
          let x : ℕ = x0 + i / p in
          let k : ℕ = i % p in
          let q : k < p = mod-lt i pos in
          below_or x lo
          (λ r.
          let s : i < a = (div-lt_iff_lt-mul pos).0 (omega arith) in
          between-low a e (in_row x0 p g) i v s ∙ sym (on-unselected lo hi pitch plane planes g x k v (selects-low lo hi pitch x r)))
          (λ r.
          let s : a ≤ i = (le-div_iff_mul-le pos).0 (omega arith) in
          below_or x hi
          (λ t.
          let u : i < (hi - x0) * p = (div-lt_iff_lt-mul pos).0 (omega arith) in
          between_in a e (in_row x0 p g) i v s (omega arith)
          ∙ sym
          (on_in lo hi pitch plane planes g x k v (selects_at lo hi pitch x (x - lo) (rw one (omega arith)) t) (omega arith) (omega arith)))
          (λ t.
          let u : (hi - x0) * p ≤ i = (le-div_iff_mul-le pos).0 (omega arith) in
          between-high a e (in_row x0 p g) i v (omega arith)
          ∙ sym (on-unselected lo hi pitch plane planes g x k v (selects-high lo hi pitch x t))))

  pub dense-one : (lo hi planes x0 p : ℕ) (g : ℕ → ℕ → A → A) (l : List A) → 0 < p → p ≤ planes
      → each (between ((lo - x0) * p) (min (length l) ((hi - x0) * p)) (in_row x0 p g)) l
      ≡ each (in_row x0 p (on_columns lo hi 1 0 planes g)) l
  dense-one lo hi planes x0 p g l pos all = dense lo hi 1 0 planes x0 p g l pos refl refl all
