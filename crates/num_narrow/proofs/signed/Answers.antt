-- `num_narrow::signed` meets its contract: without the sign the bits are at most an infinity's, so they are no NaN's.
use native.Mathlib.Omega.{arith}
use lib.Ieee.{binary32}
use Rattle.num_narrow.proofs.Sign.{no_nan}
use Rattle.num_narrow.proofs.signed.Goals as goal

pub float_from_bits-result : goal.float_from_bits-result
float_from_bits-result c = no_nan binary32 _ (omega arith)
