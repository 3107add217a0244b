-- `say_pgm::byte_of` meets its contract. Assumes nothing.
use Rattle.say_pgm.proofs.Laws.{one_byte, no_byte, high, low, past_all}
use Rattle.say_pgm.proofs.byte_of.Goals as goal

pub returns-then-j-samples : goal.returns-then-j-samples
returns-then-j-samples c =
    one_byte _ _ _ _ c.if-maxval-lt256.true c.if-j-samples.true c.held.ensures c.low_byte.ensures

pub returns-else-j-samples : goal.returns-else-j-samples
returns-else-j-samples c = no_byte _ _ _ _ c.if-maxval-lt256.true c.if-j-samples.false

pub returns-then-j-eq0 : goal.returns-then-j-eq0
returns-then-j-eq0 c =
    high _ _ _ _ c.if-maxval-lt256.false c.if-j-samples-2.true c.if-j-eq0.true c.held-v.ensures c.high_byte.ensures

pub returns-else-j-eq0 : goal.returns-else-j-eq0
returns-else-j-eq0 c =
    low _ _ _ _ c.if-maxval-lt256.false c.if-j-samples-2.true c.if-j-eq0.false c.held-v.ensures c.low_byte-else-j-eq0.ensures

pub returns-else-j-samples-2 : goal.returns-else-j-samples-2
returns-else-j-samples-2 c = past_all _ _ _ _ c.if-maxval-lt256.false c.if-j-samples-2.false
