-- `window_step16` meets its contract: left where no row is to be done. Assumes nothing.
use mathlib.Core.Path.{sym, ◌∙◌}
use Rattle.win_rows.proofs.Turns.{ordered, unordered}
use Rattle.win_opcode.proofs.window_step16.Goals as goal

pub returns-else-is_active : goal.returns-else-is_active
returns-else-is_active c = unordered _ _ _ (sym c.is_active.ensures ∙ c.if-is_active.false)

pub each_row-requires-clause-fits : goal.each_row-requires-clause-fits
each_row-requires-clause-fits c = (c.requires, ordered _ (sym c.is_active.ensures ∙ c.if-is_active.true))
