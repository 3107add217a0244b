-- `run_refuse::settle_read` meets its contract: 3 before 4. Assumes nothing.
use borrow.Author.Tests.{le-leb, lt-leb}
use Rattle.run_refuse.specs.Plans.{plan_for}
use Rattle.run_refuse.proofs.settle_read.Goals as goal

pub returns-then-not-taken : goal.returns-then-not-taken
unfolding plan_for
returns-then-not-taken c = simp c.if-not-taken.true

pub returns-then-room-names : goal.returns-then-room-names
unfolding plan_for
returns-then-room-names c = simp (c.if-not-taken.false, lt-leb _ _ c.if-room-names.true)

pub returns : goal.returns
unfolding plan_for
returns c = simp (c.if-not-taken.false, le-leb _ _ c.if-room-names.false)
