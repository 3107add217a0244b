-- `say_pgm::count_over` meets its contract. Assumes nothing.
use Rattle.std.proofs.Common.{rules}
use Rattle.say_pgm.proofs.Laws.{over-counts}
use Rattle.say_pgm.proofs.count_over.Goals as goal

pub returns : goal.returns
returns c = rw (over-counts c.args.maxval c.args.samples.now) (search rules)
