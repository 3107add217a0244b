-- `run_stored::held` meets its contract. Assumes nothing.
use Rattle.std.proofs.Common.{rules}
use Rattle.run_stored.proofs.Laws.{held-counts}
use Rattle.run_stored.proofs.held.Goals as goal

pub returns : goal.returns
returns c = rw (held-counts c.args.wide.now) (search rules)
