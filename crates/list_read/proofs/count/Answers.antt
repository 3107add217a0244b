-- `list_read::count` meets its contract. Assumes nothing.
use mathlib.Core.Path.{◌∙◌}
use Rattle.list_read.proofs.Laws.{or-none}
use Rattle.list_read.proofs.count.Goals as goal

pub returns : goal.returns
returns c = c.unwrap_or.ensures ∙ or-none _ c.entries_in.ensures
