-- `num_round::round_large` meets its contract: `Larger` says of each way what x is there. Assumes nothing.
use native.Mathlib.Nat.{min-eq_left, min-eq_right, le_of_lt}
use mathlib.Core.Path.{sym, ◌∙◌, subst}
use mathlib.Core.Bool.{true, false, not}
use mathlib.Core.Path.{◌≡◌}
use lib.IntN.{pos}
use lib.Ieee.{Float, fin, lt}
use lib.Dec.{T}
use lib.Ieee.{binary32, binary64, fits, is_nan, of_bits}
use lib.Ieee.Fits.{and_i, fits_widens}
use Rattle.num_round.proofs.Larger.{WholeNumber, whole_is, whole-no-nan, whole-counts, whole-rounds, nan-rounds, past-rounds}
use Rattle.num_round.proofs.round_large.Goals as goal

-- what owning an `f32` tells, that the format holds it, and the tests: x is a whole number
below : (x : Float) → fits binary32 x ≡ true → lt x (fin false 1 (pos 24)) ≡ false → lt x (of_bits binary32 1333788672) ≡ true → WholeNumber x
unfolding of_bits
below x f a b = whole_is x (subst T (sym f) tt) a (subst T (sym b) tt)

pub float_to_float-w : goal.float_to_float-w
float_to_float-w c =
    let x = c.args.x in
    and_i (fits binary64 x) (not (is_nan x)) (fits_widens x (subst T (sym c.well_formed.0.1) tt)) (whole-no-nan x (below c.args.x c.well_formed.0.1 c.requires c.if-x.true))

pub float_to_int-w : goal.float_to_int-w
float_to_int-w c = whole-counts c.args.x (below c.args.x c.well_formed.0.1 c.requires c.if-x.true)

pub returns-then-w-last : goal.returns-then-w-last
returns-then-w-last c =
    sym (min-eq_left (le_of_lt c.if-w-last.true)) ∙ whole-rounds c.args.last c.args.x (below c.args.x c.well_formed.0.1 c.requires c.if-x.true)

pub returns-else-w-last : goal.returns-else-w-last
returns-else-w-last c =
    sym (min-eq_right c.if-w-last.false) ∙ whole-rounds c.args.last c.args.x (below c.args.x c.well_formed.0.1 c.requires c.if-x.true)

pub returns-then-x-2 : goal.returns-then-x-2
returns-then-x-2 c = nan-rounds c.args.last c.args.x c.if-x-2.true

pub returns-else-x-2 : goal.returns-else-x-2
unfolding of_bits
returns-else-x-2 c =
    past-rounds c.args.last c.args.x c.ranges.last.fits c.if-x.false c.if-x-2.false
