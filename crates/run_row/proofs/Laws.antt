-- What one opcode more means to a row, what a row in range may rely on, what a plan makes of it, that a row call's promise leaves one result,
-- and that a refusal leaves the row. Assumes nothing.
use mathlib.Core.Path.{◌≡◌, refl, sym, ap, ◌∙◌, subst}
use mathlib.Core.Bool.{Bool, true, false, ◌&&◌, cond}
use mathlib.Core.List.{List, [], ◌∷◌}
use Prim.Native.Nat.{ℕ, ◌*◌, ◌≤◌, max}
use native.Mathlib.Nat.{mul-le-mul, mul-le-mul_right, le_trans}
use native.Mathlib.Omega.{arith}
use borrow.Author.Tests.{leb-true}
use lib.Ieee.{Float}
use lib.ListN.{length}
use Rattle.pointwise.specs.Points.{each}
use Rattle.dng.specs.declared.RowWindow.{RowWindow}
use Rattle.dng.specs.declared.RowAnswer.{RowAnswer}
use Rattle.dng.specs.declared.RowAnswer.TheVariants as Row
use Rattle.dng.specs.declared.Entry.{Entry}
use Rattle.dng.specs.declared.Opcode.{Opcode}
use Rattle.dng.specs.List.{Item, preview_of, body_of}
use Rattle.dng.specs.Select.{on_row}
use Rattle.dng.specs.Value.{Frame, rule_of}
use Rattle.dng.specs.Run.{kept_of, kept_in, row_on}
use Rattle.dng.specs.Answer.{row_in_range, RowOut, row_out}
use Rattle.dng.specs.Bounds.{RowFits}
use Rattle.std.specs.Prelude.{Result, Ok, Err}
use Rattle.run_refuse.specs.Plans.{row_plan_of}
use Rattle.run_refuse.proofs.Laws.{row-refuses, row-performs, row_settled}
use Rattle.row_opcode.specs.declared.Place.{Place}
use Rattle.run_row.specs.Rows.{RowRan, Narrow, place_of, Spans, frame_of}

-- ---- a row, one opcode at a time

module _ (fr : Frame) (x0 p y : ℕ) (list : List ℕ) (preview : Bool) where
  -- an entry is left out, or it is the first of those that are left
  one :
      (d : Bool) (i : Item) (rest : List Item) (row : List Float)
      → row_on fr x0 p y list rest (cond d row (each (on_row x0 p y (length row) (rule_of fr i.op (body_of list i.entry))) row))
      ≡ row_on fr x0 p y list (cond d rest (i ∷ rest)) row
  unfolding row_on
  one true i rest row = refl
  one false i rest row = refl

  pub more :
      (e : Entry) (op : Opcode) {is rest : List Item} → is ≡ record { entry = e; op = op } ∷ rest
      → (row : List Float) {row' : List Float}
      → row' ≡ cond (preview && preview_of e) row (each (on_row x0 p y (length row) (rule_of fr op (body_of list e))) row)
      → row_on fr x0 p y list (kept_of preview rest) row' ≡ row_on fr x0 p y list (kept_of preview is) row
  unfolding kept_of
  more e op {rest = rest} h row q =
      ap (row_on fr x0 p y list (kept_of preview rest)) q
      ∙ one (preview && preview_of e) (record { entry = e; op = op }) (kept_of preview rest) row
      ∙ sym (ap (λ (l : List Item). row_on fr x0 p y list (kept_of preview l) row) h)

  pub none : {is : List Item} → is ≡ [] → (row : List Float) → row_on fr x0 p y list (kept_of preview is) row ≡ row
  unfolding row_on kept_of
  none h row = ap (λ (l : List Item). row_on fr x0 p y list (kept_of preview l) row) h

-- whether an entry is left out was asked
module _ {A : Type 0} {d b : Bool} (h : b ≡ d) (x y : A) where
  pub left_out : b ≡ true → x ≡ cond d x y
  left_out t = sym (ap (λ (k : Bool). cond k x y) (sym h ∙ t))

  pub not-left-out : b ≡ false → {z : A} → z ≡ y → z ≡ cond d x y
  not-left-out t e = e ∙ sym (ap (λ (k : Bool). cond k x y) (sym h ∙ t))

module _ (fr : Frame) (x0 p y : ℕ) (list : List ℕ) where
  -- the body as it is lent
  pub lent :
      (e : Entry) (op : Opcode) {b : List ℕ} → b ≡ body_of list e
      → (row : List Float) {row' : List Float} → row' ≡ each (on_row x0 p y (length row) (rule_of fr op b)) row
      → row' ≡ each (on_row x0 p y (length row) (rule_of fr op (body_of list e))) row
  lent e op h row q = q ∙ ap (λ (l : List ℕ). each (on_row x0 p y (length row) (rule_of fr op l)) row) h

-- a row keeps its length
pub still : {x0 p y m n : ℕ} → RowFits x0 p y m → n ≡ m → RowFits x0 p y n
still {x0} {p} {y} h e = subst (λ (k : ℕ). RowFits x0 p y k) (sym e) h

pub still-spans : {g : Place} {width m n : ℕ} → Spans g width m → n ≡ m → Spans g width n
still-spans {g} {width} h e = subst (λ (k : ℕ). Spans g width k) (sym e) h

-- ---- the ranges

both : (a b : Bool) → (a && b) ≡ true → (a ≡ true) × (b ≡ true)
both true true h = (refl, refl)
both true false h = (refl, h)
both false b h = (h, cc)

-- what each test of the ranges says, in their order
module _ (w : RowWindow) (y n : ℕ) (h : row_in_range w y n ≡ true) where
  within : RowFits w.x0 w.planes y n × Narrow w y × Spans (place_of w y) (max w.width 1) n
  unfolding row_in_range
  within =
      let a = both _ _ h in
      let b = both _ _ a.1 in
      let c = both _ _ b.1 in
      let d = both _ _ c.1 in
      let e = both _ _ d.1 in
      let f = both _ _ e.1 in
      let g = both _ _ f.1 in
      let width : w.width ≤ 65536 = leb-true _ _ a.0 in
      let planes : w.planes ≤ 8 = leb-true _ _ c.0 in
      let x0 : w.x0 ≤ 16777216 = leb-true _ _ d.0 in
      let wide : w.full_width ≤ 16777216 = leb-true _ _ e.0 in
      let high : w.full_height ≤ 16777216 = leb-true _ _ f.0 in
      let row : y ≤ 16842751 = leb-true _ _ g.0 in
      let short : n ≤ w.width * w.planes = leb-true _ _ g.1 in (
        record {
          some = leb-true _ _ b.0;
          few = planes;
          column = x0;
          row = row;
          short = le_trans short (mul-le-mul width planes);
        },
        record { few = planes; column = x0; row = row; wide = wide; high = high },
        record {
          some = omega arith;
          most = omega (arith, width);
          holds = le_trans short (mul-le-mul_right w.planes (omega arith));
          wide = wide;
          high = high;
        },
      )

  pub fits : RowFits w.x0 w.planes y n
  fits = within.0

  pub narrow : Narrow w y
  narrow = within.1

  pub spans : Spans (place_of w y) (max w.width 1) n
  spans = within.2

-- ---- what a plan makes of the row

module _ (w : RowWindow) (scale : Float) (preview : Bool) (y : ℕ) (list : List ℕ) (row : List Float)
    {p : Result ℕ RowAnswer} (is : p ≡ row_plan_of list w preview y (length row)) where
  pub refused : {a : RowAnswer} → p ≡ Err a → RowRan (row_out w scale preview y list row) a row
  refused q =
      let e = row-refuses w scale preview y list row (sym is ∙ q) in
      record { answered = sym (ap (λ (o : RowOut). o.answer) e); left = sym (ap (λ (o : RowOut). o.row) e) }

  module _ {n : ℕ} (q : p ≡ Ok n) where
    pub goes-narrow : Narrow w y
    goes-narrow = narrow w y (length row) (row_settled list w preview y (length row) (sym is ∙ q)).in-range

    pub goes-fits : {g : Place} → g ≡ place_of w y → RowFits g.x0 g.planes g.y (length row)
    goes-fits h =
        subst (λ (g : Place). RowFits g.x0 g.planes g.y (length row)) (sym h)
        (fits w y (length row) (row_settled list w preview y (length row) (sym is ∙ q)).in-range)

    -- a row without columns is empty: it counts as one column wide
    pub goes-spans : {g : Place} {width : ℕ} → g ≡ place_of w y → width ≡ max w.width 1 → Spans g width (length row)
    goes-spans {g} {width} h e =
        subst (λ (k : ℕ). Spans g k (length row)) (sym e)
        (subst (λ (g : Place). Spans g (max w.width 1) (length row)) (sym h)
        (spans w y (length row) (row_settled list w preview y (length row) (sym is ∙ q)).in-range))

    pub done :
        {g : Place} {row' : List Float} → g ≡ place_of w y
        → row' ≡ row_on (frame_of g scale) g.x0 g.planes g.y list (kept_in preview list) row
        → RowRan (row_out w scale preview y list row) (Row.Done n) row'
    done h r =
        let e = row-performs w scale preview y list row (sym is ∙ q) in
        record {
          answered = sym (ap (λ (o : RowOut). o.answer) e);
          left =
              r
              ∙ ap (λ (g : Place). row_on (frame_of g scale) g.x0 g.planes g.y list (kept_in preview list) row) h
              ∙ sym (ap (λ (o : RowOut). o.row) e);
        }

-- ---- one result

pub record Same (r r' : RowAnswer) (row row' : List Float) : Type 0 where
  pub answers : r ≡ r'
  pub rows : row ≡ row'

pub determined : {o : RowOut} {r r' : RowAnswer} {row row' : List Float} → RowRan o r row → RowRan o r' row' → Same r r' row row'
determined a b = record { answers = a.answered ∙ sym b.answered; rows = a.left ∙ sym b.left }

-- ---- a refusal leaves the row as it was

module _ (w : RowWindow) (scale : Float) (preview : Bool) (y : ℕ) (list : List ℕ) (row : List Float) {r : RowAnswer} {row' : List Float} where
  pub kept : RowRan (row_out w scale preview y list row) r row' → ((n : ℕ) → r ≡ Row.Done n → ⊥) → row' ≡ row
  kept ran not = go (row_plan_of list w preview y (length row)) refl
    where
      go : (p : Result ℕ RowAnswer) → p ≡ row_plan_of list w preview y (length row) → row' ≡ row
      go (Err a) e = (determined ran (refused w scale preview y list row e refl)).rows
      go (Ok n) e = absurd (not n (ran.answered ∙ ap (λ (o : RowOut). o.answer) (row-performs w scale preview y list row (sym e))))
