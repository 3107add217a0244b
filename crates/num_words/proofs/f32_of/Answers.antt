-- `f32_of` meets its contract: the test tells the patterns of a NaN from the others. Assumes nothing.
use lib.Ieee.{binary32}
use Rattle.std.proofs.Common.{rules}
use Rattle.num_words.proofs.Laws.{is-nan, no_nan}
use Rattle.num_words.proofs.f32_of.Goals as goal

pub float_from_bits-result : goal.float_from_bits-result
float_from_bits-result c = no_nan binary32 _ c.wrapping_add_u32.ensures.value (search rules)

pub returns-then-wrapping_add_u32-gt4278190080 : goal.returns-then-wrapping_add_u32-gt4278190080
returns-then-wrapping_add_u32-gt4278190080 c = is-nan binary32 _ c.wrapping_add_u32.ensures.value (search rules)
