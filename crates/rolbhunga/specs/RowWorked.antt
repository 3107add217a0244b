-- A row call's numbers are the paper's of the same answer, in a struct of their own; and which of them is which, by a
-- worked value. Document 02, M-100.
use Rattle.std.specs.Prelude.{◌≡◌, refl}
use Rattle.dng.specs.declared.RowAnswer.{RowAnswer}
use Rattle.dng.specs.declared.RowAnswer.TheVariants as Row
use Rattle.dng.specs.declared.Reason.TheVariants as Why
use Rattle.dng.specs.List.{refusal}
use Rattle.dng.specs.Answer.{row_numbers_of}
use Rattle.rolbhunga.specs.Calls.{row_numbers_for}

pub record Agrees (a : RowAnswer) : Type 0 where
  pub number : (row_numbers_for a).number ≡ (row_numbers_of a).number
  pub entry : (row_numbers_for a).entry ≡ (row_numbers_of a).entry
  pub offset : (row_numbers_for a).offset ≡ (row_numbers_of a).offset

pub agrees : (a : RowAnswer) → Agrees a
agrees (Row.Done n) = record { number = refl; entry = refl; offset = refl }
agrees Row.Range = record { number = refl; entry = refl; offset = refl }
agrees (Row.Malformed k why) = record { number = refl; entry = refl; offset = refl }
agrees Row.NotTaken = record { number = refl; entry = refl; offset = refl }

pub malformed : row_numbers_for (Row.Malformed 1 (refusal Why.Inside 40))
    ≡ record { number = 23; entry = 1; offset = 40; skipped = 0 }
malformed = refl
