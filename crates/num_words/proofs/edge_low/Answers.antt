-- `edge_low` meets its contract: the word is its bytes, and past the end it is 0. Assumes nothing.
use Rattle.std.proofs.Common.{sym}
use Rattle.num_words.proofs.Laws.{little-one, little-next, little-past}
use Rattle.num_words.proofs.edge_low.Goals as goal

pub returns-then-at-s : goal.returns-then-at-s
returns-then-at-s c =
    let two = little-next 1 _ _ (little-one _ _ c.byte.ensures.0) c.byte-then-at-s.ensures.0 in
    little-next 3 _ _ (little-next 2 _ _ two c.byte-then-at-s-2.ensures.0) c.byte-then-at-s-3.ensures.0

pub returns-else-at-s : goal.returns-else-at-s
returns-else-at-s c = sym (little-past 4 _ _ c.if-at-s.false)
