-- `num_narrow::by_cases` meets its contract, a case to each way out: a NaN; `normal`; `small` and the infinity with the sign put back by
-- `by_sign`.
use mathlib.Core.Path.{◌≡◌, refl, sym, ap, ◌∙◌, subst}
use Prim.Native.Nat.{◌%◌, ◌^◌, ◌≤◌}
use native.Mathlib.Omega.{arith}
use borrow.Author.Rules.{rules}
use borrow.Author.Tests.{ltb-true}
use lib.Dec.{T}
use lib.Ieee.{nan, binary32, binary64, div, fits, of_bits, to_bits}
use lib.Ieee.Compare.{differs_from_itself}
use Rattle.num_narrow.specs.Narrow.{narrow}
use Rattle.num_narrow.proofs.Patterns.{inf_bits}
use Rattle.num_narrow.proofs.Cases.{to-infinity}
use Rattle.num_narrow.proofs.Sign.{not-nan, below, at_most, by_sign, of-its-bits}
use Rattle.num_narrow.proofs.by_cases.Goals as goal

zero_by_zero : div binary32 (of_bits binary32 0) (of_bits binary32 0) ≡ nan
unfolding div of_bits
zero_by_zero = refl

narrow-nan : narrow nan ≡ nan
unfolding narrow
narrow-nan = refl

pub returns-then-x : goal.returns-then-x
returns-then-x c = zero_by_zero ∙ sym narrow-nan ∙ ap narrow (sym (differs_from_itself c.args.x (subst T (sym c.if-x.true) tt)))

pub float_to_bits-b : goal.float_to_bits-b
float_to_bits-b c = not-nan c.args.x c.if-x.false

pub normal-requires : goal.normal-requires
normal-requires c = (omega arith, omega (arith, ltb-true))

pub returns-then-a-lt5183643170835005440 : goal.returns-then-a-lt5183643170835005440
returns-then-a-lt5183643170835005440 c =
    let held : T (fits binary64 c.args.x) = subst T (sym c.well_formed.0.1) tt in
    c.normal.ensures ∙ of-its-bits c.args.x held

-- ---- a zero or a subnormal result, and an infinity
pub small-requires : goal.small-requires
small-requires c = search rules

pub returns-then-a-lt4039728865751334912 : goal.returns-then-a-lt4039728865751334912
returns-then-a-lt4039728865751334912 c =
    let held : T (fits binary64 c.args.x) = subst T (sym c.well_formed.0.1) tt in
    c.signed.ensures
    ∙ by_sign (to_bits binary64 c.args.x) (below c.args.x held) c.small.result c.small.ensures.1
    ∙ of-its-bits c.args.x held

pub returns : goal.returns
returns c =
    let held : T (fits binary64 c.args.x) = subst T (sym c.well_formed.0.1) tt in
    let x = c.args.x in
    let past : 0x47ef_ffff_f000_0000 ≤ to_bits binary64 x % 2 ^ 63 =
    omega arith in
    c.signed-2.ensures
    ∙ by_sign (to_bits binary64 c.args.x) (below x held) 0x7f80_0000
    (λ t. inf_bits t ∙ sym (to-infinity (to_bits binary64 c.args.x % 2 ^ 63) past (at_most x held (not-nan x c.if-x.false)) t))
    ∙ of-its-bits x held
