-- `window_step` meets its contract: left where no row is to be done. Assumes nothing.
use mathlib.Core.Path.{sym, ◌∙◌}
use Rattle.win_rows.proofs.Turns.{ordered, unordered}
use Rattle.win_opcode.proofs.window_step.Goals as goal

pub by_kind-requires : goal.by_kind-requires
by_kind-requires c = (c.requires.0, ordered _ (sym c.is_active.ensures ∙ c.if-is_active.true), c.requires.1)

pub returns-else-is_active : goal.returns-else-is_active
returns-else-is_active c = unordered _ _ _ (sym c.is_active.ensures ∙ c.if-is_active.false)
