-- `add_row` meets its contract: the closure gives the definition's value. Assumes nothing.
use lib.Ieee.{add, binary32}
use borrow.Author.Rules.{rules}
use Rattle.row_deltas.proofs.add_row.Goals as goal

pub returns : goal.returns
returns c = c.on_walk.ensures (λ j v. add binary32 v c.args.d) (λ j v r b p. search rules)
