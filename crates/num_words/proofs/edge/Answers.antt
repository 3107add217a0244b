-- `edge` meets its contract: the word is its halves, and past the end it is 0. Assumes nothing.
use Rattle.std.proofs.Common.{sym}
use Rattle.num_words.proofs.Laws.{join, past}
use Rattle.num_words.proofs.edge.Goals as goal

pub returns-then-at-s : goal.returns-then-at-s
returns-then-at-s c = join 4 4 _ _ c.half.ensures c.half-then-at-s.ensures

pub returns-else-at-s : goal.returns-else-at-s
returns-else-at-s c = sym (past 8 _ _ c.if-at-s.false)
