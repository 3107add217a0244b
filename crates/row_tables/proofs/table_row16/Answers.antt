-- `table_row16` meets its contract: each closure gives the definition's value. Assumes nothing.
use borrow.Author.Rules.{rules}
use Rattle.dng.specs.Value.{map_table16}
use Rattle.row_tables.proofs.table_row16.Goals as goal

pub returns-then-n-ge65536 : goal.returns-then-n-ge65536
returns-then-n-ge65536 c = c.on_spaced.ensures (λ j v. map_table16 c.args.n c.args.body.now v) (λ j v r b p. search rules)

pub returns-else-n-ge65536 : goal.returns-else-n-ge65536
returns-else-n-ge65536 c = c.on_spaced-else-n-ge65536.ensures (λ j v. map_table16 c.args.n c.args.body.now v) (λ j v r b p. search rules)

pub returns-else-n-body : goal.returns-else-n-body
returns-else-n-body c = c.on_spaced-else-n-body.ensures (λ j v. map_table16 c.args.n c.args.body.now v) (λ j v r b p. search rules)
