-- `table_row` meets its contract: both closures give the definition's value. Assumes nothing.
use borrow.Author.Rules.{rules}
use Rattle.dng.specs.Value.{map_table}
use Rattle.row_tables.proofs.table_row.Goals as goal

pub returns-then-n-body : goal.returns-then-n-body
returns-then-n-body c = c.on_walk.ensures (λ j v. map_table c.args.scale c.args.n c.args.body.now v) (λ j v r b p. search rules)

pub returns-else-n-le16777216 : goal.returns-else-n-le16777216
returns-else-n-le16777216 c = c.on_walk-else-n-le16777216.ensures (λ j v. map_table c.args.scale c.args.n c.args.body.now v) (λ j v r b p. search rules)
