-- `say_pgm::goes_on` meets its contract, by the two cases of the definition. Assumes nothing.
use Rattle.say_pgm.specs.Pgm.{goes_on}
use Rattle.say_pgm.proofs.goes_on.Goals as goal

pub returns-then-comment : goal.returns-then-comment
unfolding goes_on
returns-then-comment c = simp c.if-comment.true

pub returns-else-comment : goal.returns-else-comment
unfolding goes_on
returns-else-comment c = simp (c.if-comment.false, c.is_white.ensures)
