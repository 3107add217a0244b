-- `run_answers::row_in_range` meets its contract: each early answer is a test of the definition that fails, and where the product is made it fits.
use native.Mathlib.Nat.{mul-le-mul, lt_of_le_of_lt}
use borrow.Author.Tests.{le-leb, lt-leb}
use lib.Dec.{lit<}
use Rattle.dng.specs.Answer.{row_in_range}
use Rattle.run_answers.proofs.row_in_range.Goals as goal

pub returns-then-width-gt-MAX_SIZE : goal.returns-then-width-gt-MAX_SIZE
unfolding row_in_range
returns-then-width-gt-MAX_SIZE c = simp (lt-leb _ _ c.if-width-gt-MAX_SIZE.true)

pub returns-then-planes-lt1 : goal.returns-then-planes-lt1
unfolding row_in_range
returns-then-planes-lt1 c = simp (le-leb _ _ c.if-width-gt-MAX_SIZE.false, lt-leb _ _ c.if-planes-lt1.true)

pub returns-then-planes-gt-MAX_PLANES : goal.returns-then-planes-gt-MAX_PLANES
unfolding row_in_range
returns-then-planes-gt-MAX_PLANES c = simp (le-leb _ _ c.if-width-gt-MAX_SIZE.false, le-leb _ _ c.if-planes-lt1.false, lt-leb _ _ c.if-planes-gt-MAX_PLANES.true)

pub overflow_mul-result : goal.overflow_mul-result
overflow_mul-result c =
    record { fits = lt_of_le_of_lt (mul-le-mul c.if-width-gt-MAX_SIZE.false c.if-planes-gt-MAX_PLANES.false) (lit< tt) }

pub returns : goal.returns
unfolding row_in_range
returns c =
    simp (
      le-leb _ _ c.if-width-gt-MAX_SIZE.false,
      le-leb _ _ c.if-planes-lt1.false,
      le-leb _ _
          c.if-planes-gt-MAX_PLANES.false,
    )
