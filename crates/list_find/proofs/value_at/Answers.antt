-- `list_find::value_at` meets its contract. Assumes nothing.
use borrow.Author.Tests.{le-leb, lt-leb}
use Rattle.list_find.specs.Walk.{value_at}
use Rattle.list_find.proofs.value_at.Goals as goal

pub returns-then-n-le4 : goal.returns-then-n-le4
unfolding value_at
returns-then-n-le4 c = simp (le-leb _ _ c.if-n-le4.true)

pub returns-else-n-le4 : goal.returns-else-n-le4
unfolding value_at
returns-else-n-le4 c = simp (lt-leb _ _ c.if-n-le4.false) c.word.ensures.0
