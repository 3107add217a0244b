-- `Ruler::place` meets its contract: each way out is a case of `place_on`, by the test of the spacing. Assumes nothing.
use lib.Ieee.{of_bits}
use Rattle.num_convert.specs.Convert.{held_to}
use Rattle.row_gain.specs.Strip.{place_on}
use Rattle.row_gain.proofs.Ruler.place.Goals as goal

pub returns-then-self : goal.returns-then-self
unfolding place_on held_to of_bits
returns-then-self c = rw c.if-self.true (cc)

pub returns-else-self : goal.returns-else-self
unfolding place_on of_bits
returns-else-self c = rw c.if-self.false
