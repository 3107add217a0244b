-- `list_names::is_named` meets its contract. Assumes nothing.
use Rattle.list_names.proofs.is_named.Goals as goal

pub returns : goal.returns
returns c = cc
