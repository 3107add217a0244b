-- `say_pgm::in_comment` meets its contract, by the two cases of the definition. Assumes nothing.
use Rattle.say_pgm.specs.Pgm.{inside}
use Rattle.say_pgm.proofs.in_comment.Goals as goal

pub returns-then-comment : goal.returns-then-comment
unfolding inside
returns-then-comment c = simp (c.if-comment.true, c.ends_line.ensures)

pub returns-else-comment : goal.returns-else-comment
unfolding inside
returns-else-comment c = simp c.if-comment.false
