-- `settled` meets its contract. Assumes nothing.
use Rattle.row_black.proofs.settled.Goals as goal

pub returns : goal.returns
returns c = cc
