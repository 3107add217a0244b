-- A row raised pixel by pixel and block by block: begun, one further, ended. Assumes nothing.
use Prim.Native.Nat.{ℕ, ◌+◌, ◌-◌, ◌*◌, ◌/◌, ◌≤◌, ◌<◌}
use mathlib.Core.List.{List}
use mathlib.Core.Path.{◌≡◌, refl, sym, ap, ap₂, ◌∙◌}
use native.Mathlib.Nat.{add-mul, one-mul, mul-le-mul_right, div-mul-le_self, le-div_iff_mul-le, div-lt_iff_lt-mul, add-mul-div_right}
use native.Mathlib.Omega.{arith}
use borrow.Rule.Slice.PartMut.{put_mid}
use lib.Ieee.{Float, nan, binary32, binary64, sub, mul}
use lib.ListN.{length, get_or, take, drop}
use Rattle.pointwise.specs.Points.{each, before, between}
use Rattle.pointwise.proofs.Each.{below_or, length-each, get_or-each, each-agree, each_none}
use Rattle.pointwise.proofs.Parts.{before-in, before-out, between_in, between-low, between-high}
use Rattle.pointwise.proofs.Parts.{each-before-zero, advance, part}
use Rattle.num_narrow.specs.Narrow.{narrow}
use Rattle.num_convert.specs.Convert.{whole_in}
use Rattle.row_vignette.specs.declared.Line.{Line}
use Rattle.row_vignette.specs.Rows.{wide_gain, gain_of, wide_at, raised, raised_by, whole_ones}

-- ---- one pixel

-- the p samples from i on, lent and raised; n is p as the code has it
pub lent : (row new : List Float) (i p : ℕ) {n : ℕ} (g : Float) → i + p ≤ length row → n ≡ p
    → new ≡ each (λ k v. mul binary32 v g) (take n (drop i row))
    → put_mid i n row new ≡ each (between i (i + p) (λ k v. mul binary32 v g)) row
lent row new i p g h same e =
    rw same (ap (λ (m : List Float). put_mid i p row m) (rw same at e) ∙ part nan (λ k v. mul binary32 v g) i p row h)

-- ---- a block

-- sample k of those of p from a on that belong to pixel j
pub pixel-of : (a p j k : ℕ) → a + j * p ≤ k → k < a + j * p + p → (k - a) / p ≡ j
pixel-of a p j k low high =
    let some : 1 ≤ p = omega arith in
    let least : j ≤ (k - a) / p = (le-div_iff_mul-le some).1 (omega arith) in
    let most : (k - a) / p < j + 1 = (div-lt_iff_lt-mul some).1 (omega (arith, add-mul j 1 p, one-mul p)) in
    omega arith

-- j pixels are done, and i is the first sample of the next
pub record Upto (gains : List Float) (a p : ℕ) (l row : List Float) (j i : ℕ) : Type 0 where
  pub done : row ≡ each (before i (raised_by gains a p)) l
  pub same : length row ≡ length l
  pub place : i ≡ a + j * p
  pub some : j ≤ length gains

module _ {gains : List Float} {a p : ℕ} {l : List Float} where
  pub begin : {i : ℕ} → i ≡ a → Upto gains a p l l 0 i
  unfolding raised_by
  begin {i} e =
      record {
        done = sym
            (each_none _ l
            (λ k v h. below_or k i (λ q. before-in i _ k v q ∙ between-low a _ _ k v (omega (arith, e))) (before-out i _ k v)));
        same = refl;
        place = omega (arith, e);
        some = omega arith;
      }

  module _ {row : List Float} {j i : ℕ} (u : Upto gains a p l row j i) where
    -- a pixel that has a gain ends where the block does, or before
    room : j < length gains → i + p ≤ a + length gains * p
    room h = omega (arith, mul-le-mul_right {m = j + 1} {n = length gains} p (omega arith), add-mul j 1 p, one-mul p, u.place)

    pub inside : j < length gains → a + length gains * p ≤ length l → i + p ≤ length l
    inside h fits = omega (arith, room h)

    -- the gain of the pixel is that of each of its samples
    raised_by_lem : {g : Float} → j < length gains → g ≡ narrow (get_or gains j nan) → (k : ℕ) (v : Float) → i ≤ k → k < i + p
        → raised_by gains a p k v ≡ mul binary32 v g
    unfolding raised_by
    raised_by_lem h gain k v low high =
        between_in a (a + length gains * p) (λ m w. mul binary32 w (narrow (get_or gains ((m - a) / p) nan))) k v
        (omega (arith, u.place)) (omega (arith, room h))
        ∙ ap (mul binary32 v)
        (ap (λ (m : ℕ). narrow (get_or gains m nan)) (pixel-of a p j k (omega (arith, u.place)) (omega (arith, u.place))) ∙ sym gain)

    -- one pixel more, whose samples are multiplied by its gain
    pub next : {row' : List Float} {g : Float} {i' : ℕ} → j < length gains → row' ≡ each (between i (i + p) (λ k v. mul binary32 v g)) row
        → g ≡ narrow (get_or gains j nan) → i' ≡ i + p → Upto gains a p l row' (j + 1) i'
    next {row'} {g} {i'} h grown gain e =
        record {
          done = grown
              ∙ ap (each (between i (i + p) G)) u.done
              ∙ advance nan (raised_by gains a p) G i i' i (i + p) l (omega arith) (omega (arith, e)) (omega (arith, e))
              (λ k v low high q.
              raised_by_lem h gain k v low (omega (arith, e)) ∙ sym (between_in i (i + p) G k v low (omega (arith, e))));
          same = ap length grown ∙ length-each (between i (i + p) G) row ∙ u.same;
          place = omega (arith, u.place, add-mul j 1 p, one-mul p, e);
          some = omega arith;
        }
      where
        G : ℕ → Float → Float
        G k v = mul binary32 v g

    -- each gain has been used
    pub end : length gains ≤ j → row ≡ each (raised_by gains a p) l
    unfolding raised_by
    end h =
        let e : i ≡ a + length gains * p = u.place ∙ ap (λ (m : ℕ). a + m * p) (omega (arith, u.some)) in
        u.done
        ∙ each-agree _ _ l
        (λ k v q. below_or k i (before-in i _ k v) (λ r. before-out i _ k v r ∙ sym (between-high a _ _ k v (omega (arith, e)))))

-- ---- a row

-- c pixels are done
pub record Done (t : Line) (x0 p : ℕ) (l row : List Float) (c : ℕ) : Type 0 where
  pub done : row ≡ each (before (c * p) (raised t x0 p)) l
  pub same : length row ≡ length l
  pub whole : c ≤ length l / p

module _ {t : Line} {x0 p : ℕ} {l : List Float} where
  pub row-begin : Done t x0 p l l 0
  row-begin =
      let F : ℕ → Float → Float = raised t x0 p in
      record { done = sym (ap (λ (k : ℕ). each (before k F) l) (omega arith) ∙ each-before-zero F l); same = refl; whole = omega arith }

  module _ {row : List Float} {c : ℕ} (u : Done t x0 p l row c) where
    -- n whole pixels more lie in the row
    pub row_inside : (n : ℕ) → c + n ≤ length l / p → c * p + n * p ≤ length l
    row_inside n h = omega (arith, mul-le-mul_right {m = c + n} {n = length l / p} p h, add-mul c n p, div-mul-le_self (length l) p)

    -- the gain of a sample in a block of the columns from x0 + c on is that of its column
    gain-in : (old : List Float) (k : ℕ) → 1 ≤ p → c * p ≤ k → k < c * p + length old * p
        → get_or (each (wide_at t (x0 + c)) old) ((k - c * p) / p) nan ≡ wide_gain t (sub binary64 (whole_in binary64 (x0 + k / p)) t.centre)
    unfolding wide_at
    gain-in old k pos low high =
        let column : k / p ≡ (k - c * p) / p + c = ap (λ (z : ℕ). z / p) (omega arith) ∙ add-mul-div_right (k - c * p) c pos in
        get_or-each (wide_at t (x0 + c)) old ((k - c * p) / p) nan ((div-lt_iff_lt-mul pos).1 (omega arith))
        ∙ ap (λ (m : ℕ). wide_gain t (sub binary64 (whole_in binary64 m) t.centre)) (omega (arith, column))

    raised-in : (old : List Float) (k : ℕ) (v : Float) → 1 ≤ p → c * p ≤ k → k < c * p + length old * p
        → raised t x0 p k v ≡ raised_by (each (wide_at t (x0 + c)) old) (c * p) p k v
    unfolding raised gain_of raised_by
    raised-in old k v pos low high =
        let gains : List Float = each (wide_at t (x0 + c)) old in
        let n : length gains * p ≡ length old * p = ap (λ (m : ℕ). m * p) (length-each _ old) in
        ap (λ (g : Float). mul binary32 v (narrow g)) (sym (gain-in old k pos low high))
        ∙ sym (between_in (c * p) (c * p + length gains * p) (λ m w. mul binary32 w (narrow (get_or gains ((m - c * p) / p) nan))) k v low (omega (arith, n)))

    -- one block more, of n pixels; `old` is what stood where its gains do
    pub row_next : {row' gains : List Float} {n : ℕ} (old : List Float) → 1 ≤ p → length old ≡ n → c + n ≤ length l / p
        → gains ≡ each (wide_at t (x0 + c)) old → row' ≡ each (raised_by gains (c * p) p) row → Done t x0 p l row' (c + n)
    unfolding raised_by
    row_next {row'} {gains} {n} old pos size h filled grown =
        record {
          done = grown
              ∙ ap₂ (λ (g r : List Float). each (raised_by g (c * p) p) r) filled u.done
              ∙ advance nan (raised t x0 p) G (c * p) ((c + n) * p) (c * p) (c * p + length W * p) l
              (omega arith) (omega (arith, wide, add-mul c n p)) (omega (arith, add-mul c n p))
              (λ k v low high r. raised-in old k v pos low (omega (arith, all, add-mul c n p)));
          same = ap length grown ∙ length-each _ row ∙ u.same;
          whole = h;
        }
      where
        W : List Float
        W = each (wide_at t (x0 + c)) old

        G : ℕ → Float → Float
        G k v = mul binary32 v (narrow (get_or W ((k - c * p) / p) nan))

        all : length old * p ≡ n * p
        all = ap (λ (m : ℕ). m * p) size

        wide : length W * p ≡ n * p
        wide = ap (λ (m : ℕ). m * p) (length-each _ old ∙ size)

    -- all whole pixels are done
    pub row-end : length l / p ≤ c → row ≡ each (whole_ones t x0 p (length l)) l
    unfolding whole_ones
    row-end h = u.done ∙ ap (λ (k : ℕ). each (before (k * p) (raised t x0 p)) l) (omega (arith, u.whole))
