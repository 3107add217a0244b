-- `list_bodies::degree_reason` meets its contract, by its test. Assumes nothing.
use borrow.Author.Tests.{le-leb, lt-leb}
use Rattle.list_bodies.proofs.degree_reason.Goals as goal

pub returns-then-d-gt-MAX_DEGREE : goal.returns-then-d-gt-MAX_DEGREE
returns-then-d-gt-MAX_DEGREE c = simp (lt-leb _ _ c.if-d-gt-MAX_DEGREE.true)

pub returns-else-d-gt-MAX_DEGREE : goal.returns-else-d-gt-MAX_DEGREE
returns-else-d-gt-MAX_DEGREE c = simp (le-leb _ _ c.if-d-gt-MAX_DEGREE.false)
