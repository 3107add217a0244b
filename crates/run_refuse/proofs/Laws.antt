-- A plan says what a run answers: on a refusal everything is unchanged, and a run that goes on is all opcodes performed, then the names.
-- The same for a row. Assumes nothing.
use mathlib.Core.Path.{◌≡◌, refl, sym, ap, ◌∙◌}
use mathlib.Core.Bool.{Bool, true, false, cond}
use mathlib.Core.List.{List}
use Rattle.std.specs.Prelude.{Result, Ok, Err}
use Prim.Native.Nat.{ℕ, ◌≤◌}
use borrow.Author.Tests.{leb-true}
use lib.Dec.{leb}
use lib.Ieee.{Float}
use lib.ListN.{length}
use Rattle.dng.specs.declared.Window.{Window}
use Rattle.dng.specs.declared.RowWindow.{RowWindow}
use Rattle.dng.specs.declared.Answer.{Answer}
use Rattle.dng.specs.declared.Answer.TheVariants as Ans
use Rattle.dng.specs.declared.RowAnswer.{RowAnswer}
use Rattle.dng.specs.declared.RowAnswer.TheVariants as Row
use Rattle.dng.specs.declared.Malformed.{Malformed}
use Rattle.dng.specs.declared.Class.{Class}
use Rattle.dng.specs.List.{Item, reading_of, items_of}
use Rattle.dng.specs.Run.{kept_in, Kind, skipped, takes_rows, names_of, going, Room, perform_all, row_on}
use Rattle.dng.specs.Answer.{in_range, row_in_range, Out, unchanged, finished, ran_on, read_out, run_out, RowOut, row_frame_of, row_read, row_out}
use Rattle.list_read.specs.Count.{count_of}
use Rattle.list_read.proofs.Fold.{accepted}
use Rattle.run_refuse.specs.Plans.{plan_for, plan_on, plan_read, plan_of, row_plan_for, row_plan_on, row_plan_read, row_plan_of}

counted-whole : (list : List ℕ) {n : ℕ} → reading_of list ≡ Ok n → reading_of list ≡ Ok (count_of list)
counted-whole list e = e ∙ ap Ok (accepted list e).1

-- ---- what a run answers

module _ {A : Type 0} (kind : Kind A) (takes : List Item → Bool) (skip : Class → Bool) (w : Window) (period : ℕ) (preview : Bool) (room : Room)
    (list : List ℕ) (s : List A) (names : List ℕ) where
  abbrev performed : Out A
  performed = finished (names_of skip (kept_in preview list)) names (perform_all kind w period room preview list 0 (items_of list) (going s 0 0))

  abbrev planned : Result ℕ Answer → Out A
  planned (Err a) = unchanged a s names
  planned (Ok n) = performed

  ran-planned : ran_on kind takes skip w period preview room list s names ≡ planned (plan_on takes skip list preview (length names))
  unfolding ran_on plan_for
  ran-planned = go (takes (kept_in preview list)) (leb (length (names_of skip (kept_in preview list))) (length names))
    where
      go :
          (a b : Bool)
          → cond a (cond b performed (unchanged Ans.Names s names)) (unchanged Ans.NotTaken s names)
          ≡ planned (cond a (cond b (Ok (length (names_of skip (kept_in preview list)))) (Err Ans.Names)) (Err Ans.NotTaken))
      go true true = refl
      go true false = refl
      go false b = refl

  run-planned : run_out kind takes skip w period preview room list s names ≡ planned (plan_of takes skip list w period preview (length names))
  unfolding run_out plan_of
  run-planned = go (in_range w period) (reading_of list)
    where
      go :
          (a : Bool) (r : Result ℕ Malformed)
          → cond a (read_out kind takes skip w period preview room list s names r) (unchanged Ans.Range s names)
          ≡ planned (cond a (plan_read takes skip list preview (length names) r) (Err Ans.Range))
      go true (Ok n) = ran-planned
      go true (Err m) = refl
      go false r = refl

  -- a refusal leaves everything
  pub refuses :
      {a : Answer} → plan_of takes skip list w period preview (length names) ≡ Err a
      → run_out kind takes skip w period preview room list s names ≡ unchanged a s names
  refuses e = run-planned ∙ ap planned e

  -- a run that goes on performs every opcode, and then writes the names
  pub performs :
      {n : ℕ} → plan_of takes skip list w period preview (length names) ≡ Ok n
      → run_out kind takes skip w period preview room list s names
      ≡ finished (names_of skip (kept_in preview list)) names (perform_all kind w period room preview list 0 (items_of list) (going s 0 0))
  performs e = run-planned ∙ ap planned e

-- ---- what a run that goes on has tested; room is the length of the skip buffer, and n names are to be written

pub record Settled (takes : List Item → Bool) (skip : Class → Bool) (list : List ℕ) (w : Window) (period : ℕ) (preview : Bool) (room n : ℕ) : Type 0 where
  pub in-range : in_range w period ≡ true
  pub whole : reading_of list ≡ Ok (count_of list)
  pub taken : takes (kept_in preview list) ≡ true
  pub many : n ≡ length (names_of skip (kept_in preview list))
  pub fits : n ≤ room

module _ (takes : List Item → Bool) (skip : Class → Bool) (list : List ℕ) (w : Window) (period : ℕ) (preview : Bool) (room : ℕ) {n : ℕ} where
  settled_on :
      in_range w period ≡ true → reading_of list ≡ Ok (count_of list) → plan_on takes skip list preview room ≡ Ok n
      → Settled takes skip list w period preview room n
  unfolding plan_for
  settled_on i r = go (takes (kept_in preview list)) (leb (length (names_of skip (kept_in preview list))) room) refl (λ l. leb-true _ _ l)
    where
      go :
          (a b : Bool) → takes (kept_in preview list) ≡ a → (b ≡ true → length (names_of skip (kept_in preview list)) ≤ room)
          → cond a (cond b (Ok (length (names_of skip (kept_in preview list)))) (Err Ans.Names)) (Err Ans.NotTaken) ≡ Ok n
          → Settled takes skip list w period preview room n
      go true true t l e =
          let m : length (names_of skip (kept_in preview list)) ≡ n = cc in
          record { in-range = i; whole = r; taken = t; many = sym m; fits = rw m at (l refl) }
      go true false t l e = cc
      go false b t l e = cc

  pub settled : plan_of takes skip list w period preview room ≡ Ok n → Settled takes skip list w period preview room n
  unfolding plan_of
  settled = go (in_range w period) (reading_of list) refl refl
    where
      go :
          (a : Bool) (r : Result ℕ Malformed) → in_range w period ≡ a → reading_of list ≡ r
          → cond a (plan_read takes skip list preview room r) (Err Ans.Range) ≡ Ok n → Settled takes skip list w period preview room n
      go true (Ok k) i r e = settled_on i (counted-whole list r) e
      go true (Err m) i r e = cc
      go false q i r e = cc

-- ---- a row

module _ (w : RowWindow) (scale : Float) (preview : Bool) (y : ℕ) (list : List ℕ) (row : List Float) where
  abbrev row_planned : Result ℕ RowAnswer → RowOut
  row_planned (Err a) = record { answer = a; row = row }
  row_planned (Ok n) =
      record { answer = Row.Done n; row = row_on (row_frame_of w scale) w.x0 w.planes y list (kept_in preview list) row }

  row-planned : row_out w scale preview y list row ≡ row_planned (row_plan_of list w preview y (length row))
  unfolding row_out row_plan_of row_plan_for
  row-planned = go (row_in_range w y (length row)) (reading_of list)
    where
      taken :
          (b : Bool)
          → cond b
          (record {
            answer = Row.Done (length (names_of skipped (kept_in preview list)));
            row = row_on (row_frame_of w scale) w.x0 w.planes y list (kept_in preview list) row;
          })
          (record { answer = Row.NotTaken; row = row })
          ≡ row_planned (cond b (Ok (length (names_of skipped (kept_in preview list)))) (Err Row.NotTaken))
      taken true = refl
      taken false = refl

      go :
          (a : Bool) (r : Result ℕ Malformed)
          → cond a (row_read w scale preview y list row r) (record { answer = Row.Range; row = row })
          ≡ row_planned (cond a (row_plan_read list preview r) (Err Row.Range))
      go true (Ok n) = taken (takes_rows (kept_in preview list))
      go true (Err m) = refl
      go false r = refl

  pub row-refuses :
      {a : RowAnswer} → row_plan_of list w preview y (length row) ≡ Err a → row_out w scale preview y list row ≡ record { answer = a; row = row }
  row-refuses e = row-planned ∙ ap row_planned e

  pub row-performs :
      {n : ℕ} → row_plan_of list w preview y (length row) ≡ Ok n
      → row_out w scale preview y list row
      ≡ record { answer = Row.Done n; row = row_on (row_frame_of w scale) w.x0 w.planes y list (kept_in preview list) row }
  row-performs e = row-planned ∙ ap row_planned e

-- what a row of m samples that goes on has tested; n of its opcodes are skipped
pub record RowSettled (list : List ℕ) (w : RowWindow) (preview : Bool) (y m n : ℕ) : Type 0 where
  pub in-range : row_in_range w y m ≡ true
  pub whole : reading_of list ≡ Ok (count_of list)
  pub taken : takes_rows (kept_in preview list) ≡ true
  pub many : n ≡ length (names_of skipped (kept_in preview list))

module _ (list : List ℕ) (w : RowWindow) (preview : Bool) (y m : ℕ) {n : ℕ} where
  row-settled-on :
      row_in_range w y m ≡ true → reading_of list ≡ Ok (count_of list) → row_plan_on list preview ≡ Ok n → RowSettled list w preview y m n
  unfolding row_plan_for
  row-settled-on i r = go (takes_rows (kept_in preview list)) refl
    where
      go :
          (a : Bool) → takes_rows (kept_in preview list) ≡ a
          → cond a (Ok (length (names_of skipped (kept_in preview list)))) (Err Row.NotTaken) ≡ Ok n → RowSettled list w preview y m n
      go true t e = record { in-range = i; whole = r; taken = t; many = cc }
      go false t e = cc

  pub row_settled : row_plan_of list w preview y m ≡ Ok n → RowSettled list w preview y m n
  unfolding row_plan_of
  row_settled = go (row_in_range w y m) (reading_of list) refl refl
    where
      go :
          (a : Bool) (r : Result ℕ Malformed) → row_in_range w y m ≡ a → reading_of list ≡ r
          → cond a (row_plan_read list preview r) (Err Row.Range) ≡ Ok n → RowSettled list w preview y m n
      go true (Ok k) i r e = row-settled-on i (counted-whole list r) e
      go true (Err m) i r e = cc
      go false q i r e = cc
