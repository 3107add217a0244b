-- A frame row by row, each row lent from its own start. Over any sample kind. Assumes nothing.
use Prim.Native.Nat.{ℕ, ◌+◌, ◌-◌, ◌*◌, ◌/◌, ◌%◌, ◌≤◌, ◌<◌}
use mathlib.Core.Bool.{Bool, cond}
use mathlib.Core.List.{List, ◌++◌}
use mathlib.Core.Path.{◌≡◌, refl, sym, ap, ◌∙◌}
use native.Mathlib.Nat.{add-mul, zero-mul, one-mul, mul_comm, mul_assoc, mul-le-mul_right, div-lt_iff_lt-mul, mul-add-div_right, mul-add-mod_self_right}
use native.Mathlib.Omega.{arith}
use borrow.Author.Tests.{lt-ltb, le-ltb}
use lib.Arith.{digits_div, digits_mod}
use lib.Ieee.{Float, nan}
use lib.ListN.{length, get_or, take, drop, length-drop}
use lib.Seq.{get_or-take, get_or-drop, length-take-le}
use Rattle.pointwise.specs.Points.{each, before, between}
use Rattle.pointwise.proofs.Each.{below_or, length-each, each-agree}
use Rattle.pointwise.proofs.Parts.{before-in, before-out, between_in, each-before-zero, advance, part}
use Rattle.row_black.specs.declared.Field.{Field}
use Rattle.row_black.specs.declared.Pattern.{Pattern}
use Rattle.row_black.specs.Black.{Levels, total, levelled, levelled_at}
use Rattle.row_black.specs.Rows.{row_rule, Placed, RowLent}
use Rattle.row_black.proofs.Refusals.{Goes, row_fits}

-- a row's samples, and where row y starts
abbrev pub wide : Field → ℕ
wide f = f.width * f.planes

total-is : (f : Field) → f.height * wide f ≡ total f
total-is f =
    sym (mul_assoc f.height f.width f.planes) ∙ ap (λ (m : ℕ). m * f.planes) (mul_comm f.height f.width)

-- behind the frame a sample stays
pub behind : {A : Type 0} (none : A) (to_float : A → Float) (f : Field) (l : Levels) (s : List A) (i : ℕ) (v : Float) → total f ≤ i
    → levelled_at none to_float f l s i v ≡ v
unfolding levelled_at
behind none to_float f l s i v h =
    ap
    (λ (b : Bool).
    cond b (levelled l (f.y0 + i / f.planes / f.width) (f.x0 + i / f.planes % f.width) (i % f.planes) (to_float (get_or s i none))) v)
    (le-ltb i (total f) h)

-- the rows before y are done, and row y starts at `at`
pub record Rows {A : Type 0} (none : A) (to_float : A → Float) (f : Field) (l : Levels) (s : List A) (old now : List Float) (y at : ℕ) : Type 0 where
  pub done : now ≡ each (before at (levelled_at none to_float f l s)) old
  pub same : length now ≡ length old
  pub here : at ≡ y * wide f

module _ {A : Type 0} {none : A} {to_float : A → Float} {f : Field} {l : Levels} {s : List A} {old : List Float} where
  pub rows_start : Rows none to_float f l s old old 0 (0 * wide f)
  rows_start =
      record {
        done = rw zero-mul (sym (each-before-zero (levelled_at none to_float f l s) old));
        same = refl;
        here = refl;
      }

  module _ {now : List Float} {y at : ℕ} (r : Rows none to_float f l s old now y at) where
    -- a row of the frame lies in it
    pub row_inside : y < f.height → at + wide f ≤ total f
    row_inside h =
        omega (arith, r.here, total-is f, mul-le-mul_right {m = y + 1} {n = f.height} (wide f) (omega arith), add-mul y 1 (wide f), one-mul (wide f))

    -- sample i of the frame is sample i - at of the row
    in-row : y < f.height → (i : ℕ) (v : Float) → at ≤ i → i < at + wide f
        → levelled_at none to_float f l s i v
        ≡ row_rule none to_float (take (at + wide f - at) (drop at s)) l f.planes f.x0 (f.y0 + y) (i - at)
    unfolding levelled_at row_rule
    in-row h i v low high =
        rw (
          lt-ltb i (total f) (omega (arith, row_inside h)),
          pixel,
          plane,
          digits_div y {m = f.width} {r = j / f.planes} column,
          digits_mod y {m = f.width} {r = j / f.planes} column,
          sample,
        ) refl
      where
        j : ℕ
        j = i - at

        some : 1 ≤ f.planes
        some =
            below_or 0 f.planes (λ q. q)
            (λ q. absurd (omega (arith, ap (◌*◌ f.width) (let z : f.planes ≡ 0 = omega arith in z), mul_comm f.width 0)))

        split : i ≡ y * f.width * f.planes + j
        split = omega (arith, r.here, mul_assoc y f.width f.planes)

        pixel : i / f.planes ≡ y * f.width + j / f.planes
        pixel = ap (λ (k : ℕ). k / f.planes) split ∙ mul-add-div_right some (y * f.width) j

        plane : i % f.planes ≡ j % f.planes
        plane = ap (λ (k : ℕ). k % f.planes) split ∙ mul-add-mod_self_right (y * f.width) f.planes j

        column : j / f.planes < f.width
        column = (div-lt_iff_lt-mul some).1 (omega arith)

        sample : get_or s i none ≡ get_or (take (at + wide f - at) (drop at s)) j none
        sample =
            sym
            (get_or-take (at + wide f - at) (drop at s) j none (omega arith) ∙ get_or-drop at s j none
            ∙ ap (λ (k : ℕ). get_or s k none) (let e : at + j ≡ i = omega arith in e))

    -- one row more, lent from its own start
    pub rows-turn : {row : List Float} → y < f.height → total f ≤ length old
        → row ≡ each (λ j v. row_rule none to_float (take (at + wide f - at) (drop at s)) l f.planes f.x0 (f.y0 + y) j)
        (take (at + wide f - at) (drop at now))
        → Rows none to_float f l s old (take at now ++ (row ++ drop (at + wide f - at) (drop at now))) (y + 1) ((y + 1) * wide f)
    rows-turn {row} h room e =
        rw (add-mul, one-mul, ← r.here)
        (record {
          done = whole ∙ ap (each (between at (at + k) (λ i. G (i - at)))) r.done
              ∙ advance nan (levelled_at none to_float f l s) (λ i. G (i - at)) at (at + wide f) at (at + k) old (omega arith) (omega arith) (omega arith)
              (λ i v low high q. in-row h i v low high ∙ sym (between_in at (at + k) (λ i. G (i - at)) i v low (omega arith)));
          same = ap length whole ∙ length-each (between at (at + k) (λ i. G (i - at))) now ∙ r.same;
          here = omega (arith, r.here, add-mul y 1 (wide f), one-mul (wide f));
        })
      where
        k : ℕ
        k = at + wide f - at

        G : ℕ → Float → Float
        G j v = row_rule none to_float (take k (drop at s)) l f.planes f.x0 (f.y0 + y) j

        whole : take at now ++ (row ++ drop k (drop at now)) ≡ each (between at (at + k) (λ i. G (i - at))) now
        whole =
            ap (λ (t : List Float). take at now ++ (t ++ drop k (drop at now))) e
            ∙ part nan G at k now (omega (arith, row_inside h, r.same))

    -- past the last row the frame is done, and what stands behind it stays
    pub rows_end : f.height ≤ y → now ≡ each (levelled_at none to_float f l s) old
    rows_end h =
        r.done
        ∙ each-agree (before at (levelled_at none to_float f l s)) (levelled_at none to_float f l s) old
        (λ i v q.
        below_or i at (before-in at (levelled_at none to_float f l s) i v)
        (λ p. before-out at (levelled_at none to_float f l s) i v p ∙ sym (behind none to_float f l s i v (past p))))
      where
        past : {i : ℕ} → at ≤ i → total f ≤ i
        past p = omega (arith, r.here, total-is f, mul-le-mul_right {m = f.height} {n = y} (wide f) h)

-- ---- what a row is lent

-- a part of w samples from `at` on
part_length : {A : Type 0} (at w : ℕ) (t : List A) → at + w ≤ length t → length (take (at + w - at) (drop at t)) ≡ w
part_length at w t h = length-take-le (at + w - at) (drop at t) (omega (arith, length-drop at t)) ∙ omega arith

module _ {A : Type 0} {f : Field} {p : Pattern} {b s : ℕ} (input : List A) (old : List Float) (g : Goes f p b s (length input) (length old)) where
  pub row-placed : {y l c : ℕ} → l ≡ y % p.height → c ≡ f.x0 % p.width → Placed p f.planes f.x0 y l c b s
  row-placed e h =
      record {
        some = g.ranges.some;
        few = g.ranges.few;
        column = g.ranges.column;
        tall = g.tables.tall;
        wide = g.tables.wide;
        black = g.tables.black;
        scale = g.tables.scale;
        line = e;
        first = h;
      }

  pub row-lent : (at : ℕ) (now : List Float) → length now ≡ length old → at + wide f ≤ total f
      → RowLent (length (take (at + wide f - at) (drop at now))) (length (take (at + wide f - at) (drop at input)))
  row-lent at now same h =
      let n : length (take (at + wide f - at) (drop at now)) ≡ wide f = part_length at (wide f) now (omega (arith, g.written, same)) in
      let m : length (take (at + wide f - at) (drop at input)) ≡ wide f = part_length at (wide f) input (omega (arith, g.read)) in
      record { short = omega (arith, n, row_fits g.ranges); read = omega (arith, n, m) }
