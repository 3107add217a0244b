-- `list_read::read` meets its contract, by the count. Assumes nothing.
use mathlib.Core.Path.{◌∙◌}
use Rattle.list_read.proofs.Laws.{reading-none, reading-is}
use Rattle.list_read.proofs.read.Goals as goal

pub returns-in-Ok : goal.returns-in-Ok
returns-in-Ok c = c.read_entries.ensures ∙ reading-is _ c.entries_in.ensures c.in-Ok.is

pub returns-in-Err : goal.returns-in-Err
returns-in-Err c = reading-none _ c.entries_in.ensures c.in-Err.is
