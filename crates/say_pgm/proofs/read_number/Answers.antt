-- `say_pgm::read_number` meets its contract. Assumes nothing.
use Rattle.say_pgm.proofs.Laws.{a-number, no_number}
use Rattle.say_pgm.proofs.read_number.Goals as goal

pub returns-then-f-bytes : goal.returns-then-f-bytes
returns-then-f-bytes c = a-number _ _ c.number-f.ensures c.if-f-bytes.true

pub returns-else-f-bytes : goal.returns-else-f-bytes
returns-else-f-bytes c = no_number _ _ c.number-f.ensures c.if-f-bytes.false
