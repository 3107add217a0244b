-- `edge_put_two` meets its contract: the bytes are put one by one, and past the end none is. Assumes nothing.
use Rattle.std.proofs.Common.{sym, ◌∙◌}
use Rattle.num_words.proofs.Laws.{put_one, put_next, put-past}
use Rattle.num_words.proofs.edge_put_two.Goals as goal

pub returns-then-at-s : goal.returns-then-at-s
returns-then-at-s c =
    c.put_byte-then-at-s.ensures ∙ put_next 1 _ _ _ (c.put_byte.ensures ∙ put_one _ _ _)

pub returns-else-at-s : goal.returns-else-at-s
returns-else-at-s c = sym (put-past 2 _ _ _ c.if-at-s.false)
