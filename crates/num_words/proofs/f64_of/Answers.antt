-- `f64_of` meets its contract: the test tells the patterns of a NaN from the others. Assumes nothing.
use lib.Ieee.{binary64}
use Rattle.std.proofs.Common.{rules}
use Rattle.num_words.proofs.Laws.{is-nan, no_nan}
use Rattle.num_words.proofs.f64_of.Goals as goal

pub float_from_bits-result : goal.float_from_bits-result
float_from_bits-result c = no_nan binary64 _ c.wrapping_add_u64.ensures.value (search rules)

pub returns-then-wrapping_add_u64-gt18437736874454810624 : goal.returns-then-wrapping_add_u64-gt18437736874454810624
returns-then-wrapping_add_u64-gt18437736874454810624 c = is-nan binary64 _ c.wrapping_add_u64.ensures.value (search rules)
