-- `list_entries::header` meets its contract: each field is the word that was read. Assumes nothing.
use Rattle.list_entries.proofs.header.Goals as goal

pub returns : goal.returns
returns c = cc
