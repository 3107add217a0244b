-- `scale_columns` meets its contract: the closure gives the definition's value. Assumes nothing.
use borrow.Author.Rules.{rules}
use Rattle.dng.specs.Value.{one, nth, scaled}
use Rattle.row_deltas.proofs.Literals.{one-is}
use Rattle.row_deltas.proofs.Values.{from-nth}
use Rattle.row_deltas.proofs.scale_columns.Goals as goal

pub returns : goal.returns
unfolding scaled
returns c = c.on_walk.ensures (λ j v. scaled (nth c.args.n c.args.body.now one j) v) (λ j v r b p. search (rules, from-nth, one-is))
