-- `num_words::u32_in` meets its contract, by its test. Assumes nothing.
use Rattle.num_words.proofs.Laws.{word_cut, word-is}
use Rattle.num_words.proofs.u32_in.Goals as goal

pub returns-then-left-lt4 : goal.returns-then-left-lt4
returns-then-left-lt4 c = word_cut _ _ c.if-left-lt4.true

pub returns-else-left-lt4 : goal.returns-else-left-lt4
returns-else-left-lt4 c = word-is _ _ c.if-left-lt4.false c.u32_at.ensures
