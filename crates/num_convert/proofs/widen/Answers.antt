-- `num_convert::widen` meets its contract: only a NaN differs from itself, and every other f32 is an f64.
use mathlib.Core.Path.{◌≡◌, refl, sym, ◌∙◌, subst}
use mathlib.Core.Bool.{not}
use lib.Dec.{T}
use lib.Ieee.{nan, binary64, div, fits, is_nan, of_bits}
use lib.Ieee.Compare.{differs_from_itself}
use lib.Ieee.Fits.{and_i, fits_widens}
use Rattle.num_narrow.proofs.Sign.{not-nan}
use Rattle.num_convert.proofs.widen.Goals as goal

zero_by_zero : div binary64 (of_bits binary64 0) (of_bits binary64 0) ≡ nan
unfolding div of_bits
zero_by_zero = refl

pub returns-then-x : goal.returns-then-x
returns-then-x c = zero_by_zero ∙ sym (differs_from_itself c.args.x (subst T (sym c.if-x.true) tt))

pub float_to_float-result : goal.float_to_float-result
float_to_float-result c =
    let x = c.args.x in
    and_i (fits binary64 x) (not (is_nan x)) (fits_widens x c.row_known-1.given) (not-nan x c.if-x.false)
