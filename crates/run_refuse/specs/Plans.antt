-- The refusals 1, 20 to 25, 3 and 4 as one value: which of them a call is given, or how many names a run that goes on
-- will write. Document 01, 'What comes back'.
-- Over which lists a form takes and which opcodes it skips. proofs/Laws says that it is what the definitions of a run
-- and of a row answer.
use Rattle.std.specs.Prelude.{ℕ, Bool, cond, List, ◌≡◌, leb, length, Result, Ok, Err}
use Rattle.dng.specs.declared.Window.{Window}
use Rattle.dng.specs.declared.RowWindow.{RowWindow}
use Rattle.dng.specs.declared.Answer.{Answer}
use Rattle.dng.specs.declared.Answer.TheVariants as Ans
use Rattle.dng.specs.declared.RowAnswer.{RowAnswer}
use Rattle.dng.specs.declared.RowAnswer.TheVariants as Row
use Rattle.dng.specs.declared.Malformed.{Malformed}
use Rattle.dng.specs.declared.Class.{Class}
use Rattle.dng.specs.List.{Item, reading_of}
use Rattle.dng.specs.Run.{kept_in, skipped, takes_rows, names_of}
use Rattle.dng.specs.Answer.{in_range, row_in_range}

-- a list that is read whole: 3, then 4
unfoldable pub plan_for : (taken : Bool) → (names room : ℕ) → Result ℕ Answer
plan_for taken names room =
    cond taken (cond (leb names room) (Ok names) (Err Ans.Names)) (Err Ans.NotTaken)

module _ (takes : List Item → Bool) (skip : Class → Bool) where
  -- forms and names go by what a preview leaves of the list
  abbrev pub plan_on : List ℕ → (preview : Bool) → (room : ℕ) → Result ℕ Answer
  plan_on list preview room =
      plan_for (takes (kept_in preview list)) (length (names_of skip (kept_in preview list))) room

  abbrev pub plan_read : List ℕ → (preview : Bool) → (room : ℕ) → Result ℕ Malformed → Result ℕ Answer
  plan_read list preview room (Ok n) = plan_on list preview room
  plan_read list preview room (Err m) = Err (Ans.Malformed m.after m.why)

  -- 1 before 20 to 25; room is the length of the skip buffer
  unfoldable pub plan_of : List ℕ → Window → (period : ℕ) → (preview : Bool) → (room : ℕ) → Result ℕ Answer
  plan_of list w period preview room =
      cond (in_range w period) (plan_read list preview room (reading_of list)) (Err Ans.Range)

-- a form takes those lists, skips those opcodes, and is settled so
pub record IsForm (takes : List Item → Bool) (skip : Class → Bool) (those_lists : List Item → Bool)
    (those_opcodes : Class → Bool) : Type 0 where
  pub same_takes : takes ≡ those_lists
  pub same_skip : skip ≡ those_opcodes
  pub same_plan : plan_of takes skip ≡ plan_of those_lists those_opcodes

-- a row: 1, 20 to 25, 3
unfoldable pub row_plan_for : (taken : Bool) → (names : ℕ) → Result ℕ RowAnswer
row_plan_for taken names = cond taken (Ok names) (Err Row.NotTaken)

abbrev pub row_plan_on : List ℕ → (preview : Bool) → Result ℕ RowAnswer
row_plan_on list preview =
    row_plan_for (takes_rows (kept_in preview list)) (length (names_of skipped (kept_in preview list)))

abbrev pub row_plan_read : List ℕ → (preview : Bool) → Result ℕ Malformed → Result ℕ RowAnswer
row_plan_read list preview (Ok n) = row_plan_on list preview
row_plan_read list preview (Err m) = Err (Row.Malformed m.after m.why)

unfoldable pub row_plan_of : List ℕ → RowWindow → (preview : Bool) → (y n : ℕ) → Result ℕ RowAnswer
row_plan_of list w preview y n =
    cond (row_in_range w y n) (row_plan_read list preview (reading_of list)) (Err Row.Range)
