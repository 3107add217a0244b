-- `say_pgm::is_p5` meets its contract. Assumes nothing.
use Rattle.say_pgm.specs.Pgm.{p5}
use Rattle.say_pgm.proofs.is_p5.Goals as goal

pub returns : goal.returns
unfolding p5
returns c = simp (c.byte.ensures, c.byte-2.ensures)
