-- `scale_row` meets its contract: the closure gives the definition's value. Assumes nothing.
use borrow.Author.Rules.{rules}
use Rattle.dng.specs.Value.{scaled}
use Rattle.row_deltas.proofs.scale_row.Goals as goal

pub returns : goal.returns
unfolding scaled
returns c = c.on_walk.ensures (λ j v. scaled c.args.s v) (λ j v r b p. search rules)
