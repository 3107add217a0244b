-- `list_bodies::constant` meets its contract, by its test. Assumes nothing.
use Rattle.list_bodies.proofs.Laws.{constant-short, constant-read}
use Rattle.list_bodies.proofs.constant.Goals as goal

pub returns-then-len-lt8 : goal.returns-then-len-lt8
returns-then-len-lt8 c = constant-short _ _ _ c.cut_words.ensures c.if-len-lt8.true

pub returns : goal.returns
returns c = constant-read _ _ _ c.if-len-lt8.false c.word.ensures c.word-2.ensures
