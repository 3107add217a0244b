-- The promises of specs/Promises, proved. Assumes nothing.
use Prim.Native.Nat.{ℕ}
use mathlib.Core.Bool.{Bool, true, cond}
use mathlib.Core.List.{List}
use lib.Dec.{eqb}
use lib.Ieee.{Float}
use lib.ListN.{length}
use mathlib.Core.Logic.{◌↔◌}
use mathlib.Core.Path.{◌≡◌, refl, sym, ap, subst, ◌∙◌}
use native.Mathlib.Omega.{arith}
use Rattle.dng.specs.declared.Answer.{Answer}
use Rattle.dng.specs.declared.Answer.TheVariants as Ans
use Rattle.dng.specs.declared.RowWindow.{RowWindow}
use Rattle.dng.specs.declared.Reason.{Reason}
use Rattle.dng.specs.declared.Reason.TheVariants as Why
use Rattle.dng.specs.declared.Refusal.{Refusal}
use Rattle.std.specs.Prelude.{Ok, Err}
use Rattle.dng.specs.List.{reason_number, refusal, items_of, malformed, Reading, reading_of}
use Rattle.list_read.proofs.Fold.{refused}
use Rattle.list_read.proofs.Offsets.{offset-held}
use Rattle.dng.specs.Run.{Progress, going, marks_full}
use Rattle.dng.specs.declared.RowAnswer.{RowAnswer}
use Rattle.dng.specs.declared.RowAnswer.TheVariants as Row
use Rattle.dng.specs.Answer.{in_range, row_in_range, Out, finished, numbers_of, row_numbers_of, reading_numbers_of, row_out}
use Rattle.run_row.specs.Rows.{RowRan}
use Rattle.run_row.proofs.Laws.{determined as rows-determined, kept as rows-kept}
use Rattle.law_promises.specs.Promises.{Forms, Determined, Call, End, out_of, Meets, performed, Goes, When, RowWhen, MarksOver, ExactlyWhen, RowExactlyWhen, Keeps, RowKeeps, Numbered, Locates, RefusedFor, ByReason, AddsUp, Scratch, RowCallsHold, WholeCalls, WholeCallsAlike}
use Rattle.law_promises.proofs.Answers.{named, goes_on, when, only, kept, reason-least, row-when, row-only}
use Rattle.law_promises.proofs.Stops.{shown, marks-stop}
use Rattle.law_promises.proofs.Answers as Answers
use Rattle.law_promises.proofs.Sums as Sums
use Rattle.law_promises.proofs.Rooms.{other-room}
use Rattle.law_promises.proofs.Calls as Calls

pub forms : Forms
forms = record { f32 = λ w set room list s names. refl; u16 = λ w period preview room list s names. refl }

-- ---- 1

pub determined : Determined
determined =
    record {
      run = λ A o room e e' a b.
          record {
            answers = a.answered ∙ sym b.answered;
            samples = a.left ∙ sym b.left;
            names = a.named ∙ sym b.named;
            marks = a.marks_clear ∙ sym b.marks_clear;
          };
      row = λ o r r' t t' a b. let d = rows-determined a b in (d.answers, d.rows);
      reading = λ list r r' a b. a ∙ sym b;
    }

-- ---- 2

module _ {A : Type 0} (c : Call A) (e : End A) (m : Meets (out_of c) c.room e) where
  answers : (a : Answer) → (e.answer ≡ a) ↔ When c a
  answers a = (λ p. subst (When c) (sym m.answered ∙ p) (when c), λ h. m.answered ∙ only c a h)

  -- the samples are those that the opcodes came to
  stopped : Goes c → (p : Progress A) → performed c (items_of c.list) ≡ p → e.samples ≡ (finished (named c) c.names p).samples
  stopped g p q =
      m.left ∙ ap (λ (o : Out A). o.samples) (goes_on c g) ∙ ap (λ (x : Progress A). (finished (named c) c.names x).samples) q

  marks : (k : ℕ) → (e.answer ≡ Ans.Marks k) ↔ (Goes c × ((t : List A) × MarksOver c k t))
  marks k = (
    λ p. let h : When c (Ans.Marks k) = (answers (Ans.Marks k)).0 p in (h.0, (h.1.0, shown c (marks_full h.1.0 k) h.1.1)),
    λ h. (answers (Ans.Marks k)).1 (h.0, (h.1.0, marks-stop c k h.1.0 h.1.1)),
  )

  marks-left : (k : ℕ) → e.answer ≡ Ans.Marks k → MarksOver c k e.samples
  marks-left k p =
      let h : When c (Ans.Marks k) = (answers (Ans.Marks k)).0 p in
      subst (λ (t : List A). MarksOver c k t) (sym (stopped h.0 (marks_full h.1.0 k) h.1.1)) (shown c (marks_full h.1.0 k) h.1.1)

  result : (n r l : ℕ) → e.answer ≡ Ans.Done n r l → performed c (items_of c.list) ≡ going e.samples r l
  result n r l p =
      let h : When c (Ans.Done n r l) = (answers (Ans.Done n r l)).0 p in
      h.2.1 ∙ ap (λ (t : List A). going t r l) (sym (stopped h.0 (going h.2.0 r l) h.2.1))

pub exactly-when : ExactlyWhen
exactly-when A c e m =
    record { answers = answers c e m; marks = marks c e m; result = result c e m; marks_stop = marks-left c e m }

pub row-exactly-when : RowExactlyWhen
row-exactly-when w scale preview y list row r t ran a = (
  λ p. subst (RowWhen w preview y _ list) (sym ran.answered ∙ p) (row-when w scale preview y list row),
  λ h. ran.answered ∙ row-only w scale preview y list row a h,
)

-- ---- 3

pub keeps : Keeps
keeps A c e m = kept c e m

pub numbered : Numbered
numbered = Answers.numbered

pub row_keeps : RowKeeps
row_keeps w scale preview y list row r t ran not = rows-kept w scale preview y list row ran not

-- a malformed list

pub locates : Locates
locates list k why h = record { entries = sym (refused list h).0; offset = offset-held list h }

-- a number tells its reason
reason_of : ℕ → Reason
reason_of n =
    cond (eqb n 20) Why.Ends
    (cond (eqb n 21) Why.TooMany (cond (eqb n 22) Why.TooLong (cond (eqb n 23) Why.Inside (cond (eqb n 24) Why.Count Why.Degree))))

reason-of : (q : Reason) → reason_of (reason_number q) ≡ q
unfolding reason_of
reason-of Why.Ends = refl
reason-of Why.TooMany = refl
reason-of Why.TooLong = refl
reason-of Why.Inside = refl
reason-of Why.Count = refl
reason-of Why.Degree = refl

reason-same : (p q : Reason) → reason_number p ≡ reason_number q → p ≡ q
reason-same p q h = sym (reason-of p) ∙ ap reason_of h ∙ reason-of q

-- a refusal by its reason
refused-for :
    (list : List ℕ) (k : ℕ) (why : Refusal) (q : Reason) → reading_of list ≡ Err (malformed k why)
    → reason_number why.reason ≡ reason_number q → RefusedFor list q
refused-for list k why q e h =
    (k, (why.at, e ∙ ap (λ (p : Reason). Err (malformed k (refusal p why.at))) (reason-same why.reason q h)))

pub by-reason : ByReason
by-reason =
    record {
      run = λ A c e m q. (
        λ h. there c e m q e.answer refl h,
        λ g. ap (λ (a : Answer). (numbers_of a).number)
            ((answers c e m (Ans.Malformed g.1.0 (refusal q g.1.1.0))).1 (g.0, g.1.1.1)),
      );
      row = λ w scale preview y list row r t ran q. (
        λ h. row-there w scale preview y list row r t ran q r refl h,
        λ g. ap (λ (a : RowAnswer). (row_numbers_of a).number)
            ((row-exactly-when w scale preview y list row r t ran (Row.Malformed g.1.0 (refusal q g.1.1.0))).1 (g.0, g.1.1.1)),
      );
      reading = λ list q. (λ h. read-there list q (reading_of list) refl h, λ g. ap (λ (a : Reading). (reading_numbers_of a).number) g.1.1);
    }
  where
    there :
        {A : Type 0} (c : Call A) (e : End A) → Meets (out_of c) c.room e → (q : Reason) (a : Answer) → e.answer ≡ a
        → (numbers_of a).number ≡ reason_number q → (in_range c.window c.period ≡ true) × RefusedFor c.list q
    there c e m q (Ans.Done n r l) p h = absurd (omega (arith, h, reason-least q))
    there c e m q Ans.Range p h = absurd (omega (arith, h, reason-least q))
    there c e m q (Ans.Malformed k why) p h =
        let g : When c (Ans.Malformed k why) = (answers c e m (Ans.Malformed k why)).0 p in
        (g.0, refused-for c.list k why q g.1 h)
    there c e m q Ans.NotTaken p h = absurd (omega (arith, h, reason-least q))
    there c e m q Ans.Names p h = absurd (omega (arith, h, reason-least q))
    there c e m q (Ans.Marks k) p h = absurd (omega (arith, h, reason-least q))

    row-there :
        (w : RowWindow) (scale : Float) (preview : Bool) (y : ℕ) (list : List ℕ) (row : List Float) (r : RowAnswer) (t : List Float)
        → RowRan (row_out w scale preview y list row) r t → (q : Reason) (a : RowAnswer) → r ≡ a
        → (row_numbers_of a).number ≡ reason_number q → (row_in_range w y (length row) ≡ true) × RefusedFor list q
    row-there w scale preview y list row r t ran q (Row.Done n) p h = absurd (omega (arith, h, reason-least q))
    row-there w scale preview y list row r t ran q Row.Range p h = absurd (omega (arith, h, reason-least q))
    row-there w scale preview y list row r t ran q (Row.Malformed k why) p h =
        let g : RowWhen w preview y (length row) list (Row.Malformed k why) = (row-exactly-when w scale preview y list row r t ran (Row.Malformed k why)).0 p in
        (g.0, refused-for list k why q g.1 h)
    row-there w scale preview y list row r t ran q Row.NotTaken p h = absurd (omega (arith, h, reason-least q))

    read-there : (list : List ℕ) (q : Reason) (a : Reading) → reading_of list ≡ a → (reading_numbers_of a).number ≡ reason_number q → RefusedFor list q
    read-there list q (Ok n) p h = absurd (omega (arith, h, reason-least q))
    read-there list q (Err m) p h = refused-for list m.after m.why q p h

-- ---- 4

pub adds-up : AddsUp
adds-up A c e m n r l p =
    let h : When c (Ans.Done n r l) = (answers c e m (Ans.Done n r l)).0 p in
    Sums.adds-up c h.2.0 r l h.2.1

pub scratch : Scratch
scratch A c e m n r l p room = other-room c n r l ((answers c e m (Ans.Done n r l)).0 p) room

-- ---- 5

pub row-calls : RowCallsHold
row-calls = Calls.row-calls

pub whole-calls : WholeCalls
whole-calls = Calls.whole-calls

pub whole-calls-alike : WholeCallsAlike
whole-calls-alike = Calls.whole-calls-alike
