-- `edge_put_four` meets its contract: the bytes are put one by one, and past the end none is. Assumes nothing.
use Rattle.std.proofs.Common.{sym, ◌∙◌}
use Rattle.num_words.proofs.Laws.{put_one, put_next, put-past}
use Rattle.num_words.proofs.edge_put_four.Goals as goal

pub returns-then-at-s : goal.returns-then-at-s
returns-then-at-s c =
    let e₁ = c.put_byte.ensures ∙ put_one _ _ _ in
    let e₂ = c.put_byte-then-at-s.ensures ∙ put_next 1 _ _ _ e₁ in
    let e₃ = c.put_byte-then-at-s-2.ensures ∙ put_next 2 _ _ _ e₂ in
    c.put_byte-then-at-s-3.ensures ∙ put_next 3 _ _ _ e₃

pub returns-else-at-s : goal.returns-else-at-s
returns-else-at-s c = sym (put-past 4 _ _ _ c.if-at-s.false)
