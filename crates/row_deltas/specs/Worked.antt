-- Worked values, each by computing: what a missing delta does, and a value by its byte position. Document 01, 'What
-- each does to a value v'.
use Rattle.std.specs.Prelude.{true, [], ◌∷◌, ◌≡◌, refl, pos}
use Rattle.std.specs.Float.{nan, fin}
use Rattle.std.specs.Float.Ieee.{add, mul, div, of_bits, of_int}
use Rattle.num_words.specs.Words.{big}
use Rattle.dng.specs.Value.{nought, one, delta}
use Rattle.row_deltas.specs.Bytes.{value_from}

-- a missing delta is added all the same: −0 becomes +0
pub minus_zero : delta one nought (fin true 0 (pos 0)) ≡ nought
unfolding delta add mul div of_int
minus_zero = refl

-- and a scale of 0 makes NaN of every value
pub no-scale : delta nought nought one ≡ nan
unfolding delta add mul div of_int
no-scale = refl

-- 63 128 0 0 is 1.0 as big-endian bytes: of one value that ends before byte 4 it is the first, and the next is missing
pub first-value : value_from (63 ∷ 128 ∷ 0 ∷ 0 ∷ []) 4 nought 0 ≡ one
unfolding value_from big of_bits
first-value = refl

pub next-value : value_from (63 ∷ 128 ∷ 0 ∷ 0 ∷ []) 4 nought 4 ≡ nought
unfolding value_from
next-value = refl
