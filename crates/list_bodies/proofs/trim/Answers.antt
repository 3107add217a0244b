-- `list_bodies::trim` meets its contract, by its test. Assumes nothing.
use Rattle.list_bodies.proofs.Laws.{trim-short, trim-read}
use Rattle.list_bodies.proofs.trim.Goals as goal

pub returns-then-len-lt16 : goal.returns-then-len-lt16
returns-then-len-lt16 c = trim-short _ _ _ c.cut_words.ensures c.if-len-lt16.true

pub returns : goal.returns
returns c = trim-read _ _ _ c.if-len-lt16.false c.word.ensures c.word-2.ensures c.word-3.ensures c.word-4.ensures
