-- `list_entries::dropped` meets its contract. Assumes nothing.
use Rattle.list_entries.proofs.dropped.Goals as goal

pub returns : goal.returns
returns c = cc
