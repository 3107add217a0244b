-- What the exported functions promise. The outputs are those of `dng`'s Answer; the byte forms add where the samples
-- stand and an answer for too little work room.
use Rattle.std.specs.Prelude.{ℕ, ◌/◌, Bool, true, false, cond, List, ◌≡◌, leb, Float, length, replicate}
use Rattle.std.specs.Float.{nan, binary32}
use Rattle.std.specs.Float.Ieee.{to_bits}
use Rattle.dng.specs.declared.Answer.{Answer}
use Rattle.dng.specs.declared.Answer.TheVariants as Ans
use Rattle.dng.specs.declared.Numbers.{Numbers}
use Rattle.dng.specs.declared.RowAnswer.{RowAnswer}
use Rattle.dng.specs.declared.RowAnswer.TheVariants as Row
use Rattle.dng.specs.List.{reason_number}
use Rattle.dng.specs.Value.{nought}
use Rattle.dng.specs.Run.{Room}
use Rattle.dng.specs.Answer.{RowOut, Out, Ran, numbers_of}
use Rattle.run_bytes.specs.Samples.{encoded}
use Rattle.rolbhunga.specs.declared.RowNumbers.{RowNumbers}

-- ---- a row

-- the paper's number and values, with the names that the f32 run would write
abbrev pub row_numbers_for : RowAnswer → RowNumbers
row_numbers_for (Row.Done n) = record { number = 0; entry = 0; offset = 0; skipped = n }
row_numbers_for Row.Range = record { number = 1; entry = 0; offset = 0; skipped = 0 }
row_numbers_for (Row.Malformed k why) = record {
  number = reason_number why.reason;
  entry = k;
  offset = why.at;
  skipped = 0;
}
row_numbers_for Row.NotTaken = record { number = 3; entry = 0; offset = 0; skipped = 0 }

-- too little work room: 100, which no other answer has
abbrev pub row_short : RowNumbers
row_short = record { number = 100; entry = 0; offset = 0; skipped = 0 }

abbrev pub row_done : RowAnswer → Bool
row_done (Row.Done n) = true
row_done Row.Range = false
row_done (Row.Malformed k why) = false
row_done Row.NotTaken = false

-- a typed row
pub record RowTold (o : RowOut) (r : RowNumbers) (row : List Float) : Type 0 where
  pub answered : r ≡ row_numbers_for o.answer
  pub left : row ≡ o.row

-- a row that stands in the bytes `old`: those of the result where the list ran, and otherwise as they were
abbrev pub row_bytes : RowOut → List ℕ → List ℕ
row_bytes o old = cond (row_done o.answer) (encoded 4 (to_bits binary32) nan o.row old) old

-- inside: the answer is not yet a number
pub record RowLeft (o : RowOut) (old : List ℕ) (r : RowAnswer) (bytes : List ℕ) : Type 0 where
  pub answered : r ≡ o.answer
  pub left : bytes ≡ row_bytes o old

-- the work room has an entry for each whole sample of n bytes
abbrev pub roomy : (size n work : ℕ) → Bool
roomy size n work = leb (n / size) work

-- A row in bytes. The test of the work room comes before all others; the work room is clear afterwards.
pub record RowBytes (o : RowOut) (old : List ℕ) (work : ℕ) (r : RowNumbers) (bytes : List ℕ) (room : List Float) : Type
    0 where
  pub answered : r ≡ cond (roomy 4 (length old) work) (row_numbers_for o.answer) row_short
  pub left : bytes ≡ cond (roomy 4 (length old) work) (row_bytes o old) old
  pub clear : room ≡ replicate work nought

-- ---- a whole window

-- too little work room, of a run
abbrev pub short : Numbers
short = record { number = 100; entry = 0; offset = 0; opcode = 0; names = 0; repaired = 0; left = 0 }

-- the answers after which the samples are a run's: 0 and 5
abbrev pub reached : Answer → Bool
reached (Ans.Done n r l) = true
reached Ans.Range = false
reached (Ans.Malformed k why) = false
reached Ans.NotTaken = false
reached Ans.Names = false
reached (Ans.Marks k) = true

module _ {A : Type 0} where
  -- typed samples: the run's own promise, its answer in numbers
  pub record Told (o : Out A) (room : Room) (r : Numbers) (samples : List A) (names marks : List ℕ) : Type 0 where
    pub answered : r ≡ numbers_of o.answer
    pub ran : Ran o room o.answer samples names marks

  module _ (size : ℕ) (bits : A → ℕ) (none : A) where
    -- samples that stand in the bytes `old`: those of the result where a run came to them, and otherwise as they were
    abbrev pub bytes_of : Out A → List ℕ → List ℕ
    bytes_of o old = cond (reached o.answer) (encoded size bits none o.samples old) old

    -- inside: the answer is not yet a number
    pub record Left (o : Out A) (room : Room) (old : List ℕ) (r : Answer) (bytes names marks : List ℕ) : Type 0 where
      pub answered : r ≡ o.answer
      pub left : bytes ≡ bytes_of o old
      pub named : names ≡ o.names
      pub marks_clear : marks ≡ replicate room.marks 0

    -- Samples in bytes. The test of the work room comes before all others; all typed room is clear afterwards, to
    -- `zero`.
    pub record Bytes (zero : A) (o : Out A) (room : Room) (old oldNames : List ℕ) (work : ℕ) (r : Numbers)
        (bytes names marks : List ℕ) (rest : List A) : Type 0 where
      pub answered : r ≡ cond (roomy size (length old) work) (numbers_of o.answer) short
      pub left : bytes ≡ cond (roomy size (length old) work) (bytes_of o old) old
      pub named : names ≡ cond (roomy size (length old) work) o.names oldNames
      pub marks_clear : marks ≡ replicate room.marks 0
      pub work_clear : rest ≡ replicate work zero
