-- `put_two` meets its contract: byte after byte, as the definition puts them. Assumes nothing.
use Rattle.std.proofs.Common.{arith, length-set}
use Rattle.num_words.proofs.Laws.{put_one, put_next}
use Rattle.num_words.proofs.put_two.Goals as goal

pub bounds-s-at-2 : goal.bounds-s-at-2
bounds-s-at-2 c = simp length-set (omega arith)

pub returns : goal.returns
returns c = put_next 1 _ _ _ (put_one _ _ _)
