-- `num_text::put` meets its contract. Assumes nothing.
use Rattle.num_text.proofs.Laws.{appended-copied}
use Rattle.num_text.proofs.put.Goals as goal

pub returns : goal.returns
returns c = appended-copied _ _ _ c.requires c.copy_from_slice.ensures.after
