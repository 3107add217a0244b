-- `add_columns` meets its contract: the closure gives the definition's value. Assumes nothing.
use borrow.Author.Rules.{rules}
use Rattle.dng.specs.Value.{nought, nth, delta}
use Rattle.row_deltas.proofs.Literals.{zero_is}
use Rattle.row_deltas.proofs.Values.{from-nth}
use Rattle.row_deltas.proofs.add_columns.Goals as goal

pub returns : goal.returns
unfolding delta
returns c = c.on_walk.ensures (λ j v. delta c.args.scale (nth c.args.n c.args.body.now nought j) v) (λ j v r b p. search (rules, from-nth, zero_is))
