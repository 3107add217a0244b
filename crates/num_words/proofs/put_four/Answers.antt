-- `put_four` meets its contract: byte after byte, as the definition puts them. Assumes nothing.
use Rattle.std.proofs.Common.{arith, length-set}
use Rattle.num_words.proofs.Laws.{put_one, put_next}
use Rattle.num_words.proofs.put_four.Goals as goal

pub bounds-s-at-2 : goal.bounds-s-at-2
bounds-s-at-2 c = simp length-set (omega arith)

pub bounds-s-at-3 : goal.bounds-s-at-3
bounds-s-at-3 c = simp length-set (omega arith)

pub bounds-s-at-4 : goal.bounds-s-at-4
bounds-s-at-4 c = simp length-set (omega arith)

pub returns : goal.returns
returns c = put_next 3 _ _ _ (put_next 2 _ _ _ (put_next 1 _ _ _ (put_one _ _ _)))
