-- `num_narrow::normal` meets its contract: `by-rounding`.
use Prim.Native.Nat.{◌%◌, ◌^◌, ◌≤◌, ◌<◌}
use native.Mathlib.Omega.{arith}
use Rattle.num_narrow.proofs.Sign.{by-rounding, rounded-fits, rounded-real}
use Rattle.num_narrow.proofs.normal.Goals as goal

pub overflow_add-t : goal.overflow_add-t
overflow_add-t c =
    let hi : c.args.b % 2 ^ 63 < 0x47ef_ffff_f000_0000 = omega arith in
    let fit : c.args.b < 2 ^ 64 = omega arith in
    omega (arith, hi, fit)

pub overflow_add-t-2 : goal.overflow_add-t-2
overflow_add-t-2 c =
    let hi : c.args.b % 2 ^ 63 < 0x47ef_ffff_f000_0000 = omega arith in
    let fit : c.args.b < 2 ^ 64 = omega arith in
    omega (arith, hi, fit)

pub overflow_mul-t : goal.overflow_mul-t
overflow_mul-t c =
    let hi : c.args.b % 2 ^ 63 < 0x47ef_ffff_f000_0000 = omega arith in
    let fit : c.args.b < 2 ^ 64 = omega arith in
    omega (arith, hi, fit)

pub float_from_bits-result : goal.float_from_bits-result
float_from_bits-result c =
    let lo : 0x3810_0000_0000_0000 ≤ c.args.b % 2 ^ 63 = omega arith in
    let hi : c.args.b % 2 ^ 63 < 0x47ef_ffff_f000_0000 = omega arith in
    let fit : c.args.b < 2 ^ 64 = omega arith in
    rounded-real c.args.b fit lo hi

pub float_to_float-result : goal.float_to_float-result
float_to_float-result c =
    let lo : 0x3810_0000_0000_0000 ≤ c.args.b % 2 ^ 63 = omega arith in
    let hi : c.args.b % 2 ^ 63 < 0x47ef_ffff_f000_0000 = omega arith in
    let fit : c.args.b < 2 ^ 64 = omega arith in
    rounded-fits c.args.b fit lo hi

pub returns : goal.returns
returns c =
    let lo : 0x3810_0000_0000_0000 ≤ c.args.b % 2 ^ 63 = omega arith in
    let hi : c.args.b % 2 ^ 63 < 0x47ef_ffff_f000_0000 = omega arith in
    let fit : c.args.b < 2 ^ 64 = omega arith in
    by-rounding c.args.b fit lo hi
