-- What a run answers, test by test in the table's order, and what it keeps; the same of a row. Assumes nothing.
use Prim.Native.Nat.{ℕ, ◌≤◌, ◌<◌, zero-le}
use mathlib.Core.Bool.{Bool, true, false, cond}
use mathlib.Core.List.{List}
use mathlib.Core.Logic.{◌⊎◌, inl, inr}
use mathlib.Core.Path.{◌≡◌, refl, sym, ap, ap₂, subst, ◌∙◌}
use native.Mathlib.Omega.{arith}
use borrow.Author.Tests.{leb-true, leb-false, le-leb, lt-leb}
use lib.Dec.{leb, lit≤}
use lib.Ieee.{Float}
use lib.ListN.{length, take, drop}
use lib.Seq.{take_at, drop_at}
use Rattle.dng.specs.declared.RowWindow.{RowWindow}
use Rattle.dng.specs.declared.Reason.{Reason}
use Rattle.dng.specs.declared.Reason.TheVariants as Why
use Rattle.dng.specs.declared.Refusal.{Refusal}
use Rattle.dng.specs.declared.Answer.{Answer}
use Rattle.dng.specs.declared.Answer.TheVariants as Ans
use Rattle.dng.specs.declared.RowAnswer.{RowAnswer}
use Rattle.dng.specs.declared.RowAnswer.TheVariants as Row
use Rattle.std.specs.Prelude.{Ok, Err}
use Rattle.dng.specs.List.{reason_number, malformed, Reading, reading_of, items_of}
use Rattle.dng.specs.Run.{kept_in, Progress, going, marks_full, skipped, takes_rows, names_of, row_on}
use Rattle.dng.specs.Answer.{in_range, row_in_range, numbers_of, row_numbers_of, reading_numbers_of, Out, unchanged, finished, ran_on, read_out, run_out, RowOut, row_frame_of, row_read, row_out}
use Rattle.law_promises.specs.Promises.{Call, End, out_of, Meets, Whole, skips, performed, Goes, When, RowWhen, Kept, Numbered}

module _ {A : Type 0} (c : Call A) where
  abbrev pub named : List ℕ
  named = names_of c.skip (kept_in c.preview c.list)

  -- all opcodes
  abbrev all : Progress A
  all = performed c (items_of c.list)

  abbrev refused : Answer → Out A
  refused a = unchanged a c.samples c.names

  -- the run after 1 and 2, over its tests
  abbrev tested : (taken fits : Bool) → Progress A → Out A
  tested t f p = cond t (cond f (finished named c.names p) (refused Ans.Names)) (refused Ans.NotTaken)

  abbrev reads : Reading → Out A
  reads r = read_out c.kind c.takes c.skip c.window c.period c.preview c.room c.list c.samples c.names r

  -- what is said of every outcome of the tests holds of the run
  module _ (P : Out A → Type 0)
      (range : in_range c.window c.period ≡ false → P (refused Ans.Range))
      (malformed : (k : ℕ) (why : Refusal) → in_range c.window c.period ≡ true → reading_of c.list ≡ Err (malformed k why)
      → P (refused (Ans.Malformed k why)))
      (goes : in_range c.window c.period ≡ true → Whole c.list → (t f : Bool) → c.takes (kept_in c.preview c.list) ≡ t
      → leb (skips c) (length c.names) ≡ f → (p : Progress A) → all ≡ p → P (tested t f p)) where
    pub tests : P (out_of c)
    unfolding run_out ran_on
    tests = go (in_range c.window c.period) (reading_of c.list) refl refl
      where
        go : (i : Bool) (r : Reading) → in_range c.window c.period ≡ i → reading_of c.list ≡ r → P (cond i (reads r) (refused Ans.Range))
        go true (Ok n) i r = goes i (n, r) (c.takes (kept_in c.preview c.list)) (leb (skips c) (length c.names)) refl refl all refl
        go true (Err m) i r = malformed m.after m.why i r
        go false q i r = range i

  -- none of 1, 20 to 25, 3, 4: all opcodes, then the names
  pub goes_on : Goes c → out_of c ≡ finished named c.names all
  unfolding run_out ran_on
  goes_on g =
      ap₂ (λ (z : Bool) (r : Reading). cond z (reads r) (refused Ans.Range)) g.ranges g.whole.1
      ∙ ap₂ (λ (y z : Bool). tested y z all) g.taken (le-leb (skips c) (length c.names) g.named)

  -- ---- exactly when

  pub when : When c (out_of c).answer
  when =
      tests (λ (o : Out A). When c o.answer) (λ i. i) (λ k why i r. (i, r)) go
    where
      go : in_range c.window c.period ≡ true → Whole c.list → (t f : Bool) → c.takes (kept_in c.preview c.list) ≡ t
          → leb (skips c) (length c.names) ≡ f → (p : Progress A) → all ≡ p → When c (tested t f p).answer
      go i w true true t f (going s r l) e = (record { ranges = i; whole = w; taken = t; named = leb-true _ _ f }, refl, (s, e))
      go i w true true t f (marks_full s k) e = (record { ranges = i; whole = w; taken = t; named = leb-true _ _ f }, (s, e))
      go i w true false t f p e = (i, w, t, leb-false _ _ f)
      go i w false b t f p e = (i, w, t)

  ran_on_lem : Goes c → (p : Progress A) → all ≡ p → (out_of c).answer ≡ (finished named c.names p).answer
  ran_on_lem g p e = ap (λ (o : Out A). o.answer) (goes_on g) ∙ ap (λ (q : Progress A). (finished named c.names q).answer) e

  pub only : (a : Answer) → When c a → (out_of c).answer ≡ a
  unfolding run_out ran_on
  only (Ans.Done n r l) h = ran_on_lem h.0 (going h.2.0 r l) h.2.1 ∙ ap (λ (m : ℕ). Ans.Done m r l) (sym h.1)
  only Ans.Range h = ap (λ (z : Bool). (cond z (reads (reading_of c.list)) (refused Ans.Range)).answer) h
  only (Ans.Malformed k why) h = ap₂ (λ (z : Bool) (r : Reading). (cond z (reads r) (refused Ans.Range)).answer) h.0 h.1
  only Ans.NotTaken h =
      ap₂ (λ (z : Bool) (r : Reading). (cond z (reads r) (refused Ans.Range)).answer) h.0 h.1.1
      ∙ ap (λ (z : Bool). (tested z (leb (skips c) (length c.names)) all).answer) h.2
  only Ans.Names h =
      ap₂ (λ (z : Bool) (r : Reading). (cond z (reads r) (refused Ans.Range)).answer) h.0 h.1.1
      ∙ ap₂ (λ (y z : Bool). (tested y z all).answer) h.2 (lt-leb (skips c) (length c.names) h.3)
  only (Ans.Marks k) h = ran_on_lem h.0 (marks_full h.1.0 k) h.1.1

  -- ---- kept

  record Holds (o : Out A) : Type 0 where
    first : 1 ≤ (numbers_of o.answer).number → ((numbers_of o.answer).number ≡ 5 → ⊥) → o.samples ≡ c.samples
    any : 1 ≤ (numbers_of o.answer).number → o.names ≡ c.names
    front : (n r l : ℕ) → o.answer ≡ Ans.Done n r l → take n o.names ≡ named
    back : (n r l : ℕ) → o.answer ≡ Ans.Done n r l → drop n o.names ≡ drop n c.names

  -- any refusal before the run
  refused-holds : (a : Answer) → ((n r l : ℕ) → a ≡ Ans.Done n r l → ⊥) → Holds (refused a)
  refused-holds a h =
      record { first = λ p q. refl; any = λ p. refl; front = λ n r l e. absurd (h n r l e); back = λ n r l e. absurd (h n r l e) }

  holds : Holds (out_of c)
  holds =
      tests Holds (λ i. refused-holds Ans.Range (λ n r l e. let z : ◌≡◌ {A = ℕ} 0 1 = cc in omega arith))
      (λ k why i q. refused-holds (Ans.Malformed k why) (λ n r l e. let z : ◌≡◌ {A = ℕ} 0 1 = cc in omega arith)) go
    where
      go : in_range c.window c.period ≡ true → Whole c.list → (t f : Bool) → c.takes (kept_in c.preview c.list) ≡ t
          → leb (skips c) (length c.names) ≡ f → (p : Progress A) → all ≡ p → Holds (tested t f p)
      go i w true true t f (going s a b) e =
          record {
            first = λ p q. absurd (omega arith);
            any = λ p. absurd (omega arith);
            front = λ n r l h. take_at named (drop (length named) c.names) n (cc);
            back = λ n r l h. let m : length named ≡ n = cc in
                drop_at named (drop (length named) c.names) n m ∙ ap (λ (k : ℕ). drop k c.names) m;
          }
      go i w true true t f (marks_full s k) e =
          record {
            first = λ p q. absurd (q refl);
            any = λ p. refl;
            front = λ n r l h. absurd (let z : ◌≡◌ {A = ℕ} 0 1 = cc in omega arith);
            back = λ n r l h. absurd (let z : ◌≡◌ {A = ℕ} 0 1 = cc in omega arith);
          }
      go i w true false t f p e = refused-holds Ans.Names (λ n r l h. let z : ◌≡◌ {A = ℕ} 0 1 = cc in omega arith)
      go i w false b t f p e = refused-holds Ans.NotTaken (λ n r l h. let z : ◌≡◌ {A = ℕ} 0 1 = cc in omega arith)

  pub kept : (e : End A) → Meets (out_of c) c.room e → Kept c e
  kept e m =
      record {
        samples = λ p q. m.left ∙ holds.first (subst (λ (a : Answer). 1 ≤ (numbers_of a).number) m.answered p)
            (λ h. q (ap (λ (a : Answer). (numbers_of a).number) m.answered ∙ h));
        names = λ p. m.named ∙ holds.any (subst (λ (a : Answer). 1 ≤ (numbers_of a).number) m.answered p);
        written = λ n r l p. ap (take n) m.named ∙ holds.front n r l (sym m.answered ∙ p);
        after = λ n r l p. ap (drop n) m.named ∙ holds.back n r l (sym m.answered ∙ p);
        marks = m.marks_clear;
      }

-- ---- numbers

no-totals : (a : Answer) → 1 ≤ (numbers_of a).number → ((numbers_of a).names ≡ 0) × ((numbers_of a).repaired ≡ 0) × ((numbers_of a).left ≡ 0)
no-totals (Ans.Done n r l) h = absurd (omega arith)
no-totals Ans.Range h = (refl, refl, refl)
no-totals (Ans.Malformed k why) h = (refl, refl, refl)
no-totals Ans.NotTaken h = (refl, refl, refl)
no-totals Ans.Names h = (refl, refl, refl)
no-totals (Ans.Marks k) h = (refl, refl, refl)

-- 20 to 25
pub reason-least : (q : Reason) → 20 ≤ reason_number q
reason-least Why.Ends = lit≤ tt
reason-least Why.TooMany = lit≤ tt
reason-least Why.TooLong = lit≤ tt
reason-least Why.Inside = lit≤ tt
reason-least Why.Count = lit≤ tt
reason-least Why.Degree = lit≤ tt

reason-most : (q : Reason) → reason_number q ≤ 25
reason-most Why.Ends = lit≤ tt
reason-most Why.TooMany = lit≤ tt
reason-most Why.TooLong = lit≤ tt
reason-most Why.Inside = lit≤ tt
reason-most Why.Count = lit≤ tt
reason-most Why.Degree = lit≤ tt

no-entry : (a : Answer) → (numbers_of a).number < 20 → ((numbers_of a).entry ≡ 0) × ((numbers_of a).offset ≡ 0)
no-entry (Ans.Done n r l) h = (refl, refl)
no-entry Ans.Range h = (refl, refl)
no-entry (Ans.Malformed k why) h = absurd (omega (arith, reason-least why.reason))
no-entry Ans.NotTaken h = (refl, refl)
no-entry Ans.Names h = (refl, refl)
no-entry (Ans.Marks k) h = (refl, refl)

no-opcode : (a : Answer) → ((numbers_of a).number ≡ 5 → ⊥) → (numbers_of a).opcode ≡ 0
no-opcode (Ans.Done n r l) h = refl
no-opcode Ans.Range h = refl
no-opcode (Ans.Malformed k why) h = refl
no-opcode Ans.NotTaken h = refl
no-opcode Ans.Names h = refl
no-opcode (Ans.Marks k) h = absurd (h refl)

no_six : (a : Answer) → (numbers_of a).number ≡ 6 → ⊥
no_six (Ans.Done n r l) h = omega arith
no_six Ans.Range h = omega arith
no_six (Ans.Malformed k why) h = omega (arith, reason-least why.reason)
no_six Ans.NotTaken h = omega arith
no_six Ans.Names h = omega arith
no_six (Ans.Marks k) h = omega arith

no-two : (a : Answer) → (numbers_of a).number ≡ 2 → ⊥
no-two (Ans.Done n r l) h = omega arith
no-two Ans.Range h = omega arith
no-two (Ans.Malformed k why) h = omega (arith, reason-least why.reason)
no-two Ans.NotTaken h = omega arith
no-two Ans.Names h = omega arith
no-two (Ans.Marks k) h = omega arith

row_number : (a : RowAnswer) → ((row_numbers_of a).number ≤ 3) ⊎ ((20 ≤ (row_numbers_of a).number) × ((row_numbers_of a).number ≤ 25))
row_number (Row.Done n) = inl (omega arith)
row_number Row.Range = inl (omega arith)
row_number (Row.Malformed k why) = inr (reason-least why.reason, reason-most why.reason)
row_number Row.NotTaken = inl (omega arith)

row-no-two : (a : RowAnswer) → (row_numbers_of a).number ≡ 2 → ⊥
row-no-two (Row.Done n) h = omega arith
row-no-two Row.Range h = omega arith
row-no-two (Row.Malformed k why) h = omega (arith, reason-least why.reason)
row-no-two Row.NotTaken h = omega arith

row-entry : (a : RowAnswer) → (row_numbers_of a).number < 20 → ((row_numbers_of a).entry ≡ 0) × ((row_numbers_of a).offset ≡ 0)
row-entry (Row.Done n) h = (refl, refl)
row-entry Row.Range h = (refl, refl)
row-entry (Row.Malformed k why) h = absurd (omega (arith, reason-least why.reason))
row-entry Row.NotTaken h = (refl, refl)

row-rest : (a : RowAnswer) → ((row_numbers_of a).opcode ≡ 0) × ((row_numbers_of a).names ≡ 0) × ((row_numbers_of a).repaired ≡ 0) × ((row_numbers_of a).left ≡ 0)
row-rest (Row.Done n) = (refl, refl, refl, refl)
row-rest Row.Range = (refl, refl, refl, refl)
row-rest (Row.Malformed k why) = (refl, refl, refl, refl)
row-rest Row.NotTaken = (refl, refl, refl, refl)

reading-number : (a : Reading) → (reading_numbers_of a).number < 20
    → ((reading_numbers_of a).number ≡ 0) × ((reading_numbers_of a).entry ≡ 0) × ((reading_numbers_of a).offset ≡ 0)
reading-number (Ok n) h = (refl, refl, refl)
reading-number (Err m) h = absurd (omega (arith, reason-least m.why.reason))

reading-most : (a : Reading) → (reading_numbers_of a).number ≤ 25
reading-most (Ok n) = zero-le
reading-most (Err m) = reason-most m.why.reason

reading-rest : (a : Reading) → ((reading_numbers_of a).opcode ≡ 0) × ((reading_numbers_of a).names ≡ 0) × ((reading_numbers_of a).repaired ≡ 0)
    × ((reading_numbers_of a).left ≡ 0)
reading-rest (Ok n) = (refl, refl, refl, refl)
reading-rest (Err m) = (refl, refl, refl, refl)

pub numbered : Numbered
numbered =
    record {
      refused = no-totals;
      entry = no-entry;
      opcode = no-opcode;
      withdrawn = no_six;
      divided = no-two;
      row = row_number;
      row_divided = row-no-two;
      row_entry = row-entry;
      row_rest = row-rest;
      reading = reading-number;
      reading_most = reading-most;
      reading_rest = reading-rest;
    }

-- ---- a row

module _ (w : RowWindow) (scale : Float) (preview : Bool) (y : ℕ) (list : List ℕ) (row : List Float) where
  abbrev row_done : Bool → RowOut
  row_done t =
      cond t
      (record {
        answer = Row.Done (length (names_of skipped (kept_in preview list)));
        row = row_on (row_frame_of w scale) w.x0 w.planes y list
            (kept_in preview list) row;
      })
      (record { answer = Row.NotTaken; row = row })

  pub row-when : RowWhen w preview y (length row) list (row_out w scale preview y list row).answer
  unfolding row_out
  row-when = go (row_in_range w y (length row)) (reading_of list) refl refl
    where
      taken : (t : Bool) → row_in_range w y (length row) ≡ true → Whole list → takes_rows (kept_in preview list) ≡ t
          → RowWhen w preview y (length row) list (row_done t).answer
      taken true i h e = (i, h, e, refl)
      taken false i h e = (i, h, e)

      go : (i : Bool) (r : Reading) → row_in_range w y (length row) ≡ i → reading_of list ≡ r
          → RowWhen w preview y (length row) list (cond i (row_read w scale preview y list row r) (record { answer = Row.Range; row = row })).answer
      go true (Ok n) i r = taken (takes_rows (kept_in preview list)) i (n, r) refl
      go true (Err m) i r = (i, r)
      go false r i q = i

  pub row-only : (a : RowAnswer) → RowWhen w preview y (length row) list a → (row_out w scale preview y list row).answer ≡ a
  unfolding row_out
  row-only (Row.Done n) h =
      ap₂ (λ (i : Bool) (r : Reading). (cond i (row_read w scale preview y list row r) (record { answer = Row.Range; row = row })).answer) h.0 h.1.1
      ∙ ap (λ (t : Bool). (row_done t).answer) h.2 ∙ ap Row.Done (sym h.3)
  row-only Row.Range h = ap (λ (i : Bool). (cond i (row_read w scale preview y list row (reading_of list)) (record { answer = Row.Range; row = row })).answer) h
  row-only (Row.Malformed k why) h =
      ap₂ (λ (i : Bool) (r : Reading). (cond i (row_read w scale preview y list row r) (record { answer = Row.Range; row = row })).answer) h.0 h.1
  row-only Row.NotTaken h =
      ap₂ (λ (i : Bool) (r : Reading). (cond i (row_read w scale preview y list row r) (record { answer = Row.Range; row = row })).answer) h.0 h.1.1
      ∙ ap (λ (t : Bool). (row_done t).answer) h.2
