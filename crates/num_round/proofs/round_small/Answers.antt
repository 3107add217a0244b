-- `num_round::round_small` meets its contract: `Sums` says what the bits of the sum are, at x held from below by 0. Assumes nothing.
use Prim.Native.Nat.{◌/◌, ◌%◌, min}
use native.Mathlib.Nat.{min-eq_left, min-eq_right, le_of_lt}
use mathlib.Core.Path.{◌≡◌, sym, ap, ◌∙◌, subst}
use mathlib.Core.Bool.{Bool, false, cond, not}
use lib.IntN.{pos}
use lib.Dec.{T}
use lib.Ieee.{Float, fin, binary32, binary64, add, fits, is_nan, of_bits, to_bits}
use lib.Ieee.Fits.{and_i, fits_widens}
use Rattle.num_round.specs.Whole.{round_held}
use Rattle.num_round.proofs.Sums.{from_zero, half_up, held-no-nan, added-no-nan, small_is}
use Rattle.num_round.proofs.round_small.Goals as goal
use Rattle.num_round.proofs.round_small.Goals.{then-x, else-x}

pub float_to_float-bits : goal.float_to_float-bits
unfolding of_bits
float_to_float-bits c =
    let x = c.args.x in
    let held : T (fits binary32 x) = subst T (sym c.well_formed.0.1) tt in
    let from-zero-is : c.if-x.h ≡ from_zero x =
    elim c.if-x.branch [
      | then-x w ↦ w.h-is ∙ sym (ap (λ (b : Bool). cond b x (fin false 0 (pos 0))) w.if-x.true)
      | else-x w ↦ w.h-is ∙ sym (ap (λ (b : Bool). cond b x (fin false 0 (pos 0))) w.if-x.false)
    ] in
    let h = c.if-x.h in
    and_i (fits binary64 h) (not (is_nan h)) (fits_widens h c.row_known-1.given)
    (subst (λ (z : Float). T (not (is_nan z))) (sym from-zero-is)
    (held-no-nan c.args.x held c.requires))

pub float_to_bits-bits : goal.float_to_bits-bits
unfolding of_bits
float_to_bits-bits c =
    let x = c.args.x in
    let held : T (fits binary32 x) = subst T (sym c.well_formed.0.1) tt in
    let from-zero-is : c.if-x.h ≡ from_zero x =
    elim c.if-x.branch [
      | then-x w ↦ w.h-is ∙ sym (ap (λ (b : Bool). cond b x (fin false 0 (pos 0))) w.if-x.true)
      | else-x w ↦ w.h-is ∙ sym (ap (λ (b : Bool). cond b x (fin false 0 (pos 0))) w.if-x.false)
    ] in
    subst (λ (z : Float). T (not (is_nan (add binary64 z half_up)))) (sym from-zero-is)
    (added-no-nan c.args.x held c.requires)

pub returns-then-n-last : goal.returns-then-n-last
unfolding of_bits
returns-then-n-last c =
    let x = c.args.x in
    let held : T (fits binary32 x) = subst T (sym c.well_formed.0.1) tt in
    let from-zero-is : c.if-x.h ≡ from_zero x =
    elim c.if-x.branch [
      | then-x w ↦ w.h-is ∙ sym (ap (λ (b : Bool). cond b x (fin false 0 (pos 0))) w.if-x.true)
      | else-x w ↦ w.h-is ∙ sym (ap (λ (b : Bool). cond b x (fin false 0 (pos 0))) w.if-x.false)
    ] in
    let min-is : min (to_bits binary64 (add binary64 c.if-x.h half_up) / 67108864 % 67108864) c.args.last ≡ round_held c.args.last x =
    ap (λ (z : Float). min (to_bits binary64 (add binary64 z half_up) / 67108864 % 67108864) c.args.last) from-zero-is
    ∙ small_is x held c.requires c.args.last in
    sym (min-eq_left (le_of_lt c.if-n-last.true)) ∙ min-is

pub returns-else-n-last : goal.returns-else-n-last
unfolding of_bits
returns-else-n-last c =
    let x = c.args.x in
    let held : T (fits binary32 x) = subst T (sym c.well_formed.0.1) tt in
    let from-zero-is : c.if-x.h ≡ from_zero x =
    elim c.if-x.branch [
      | then-x w ↦ w.h-is ∙ sym (ap (λ (b : Bool). cond b x (fin false 0 (pos 0))) w.if-x.true)
      | else-x w ↦ w.h-is ∙ sym (ap (λ (b : Bool). cond b x (fin false 0 (pos 0))) w.if-x.false)
    ] in
    let min-is : min (to_bits binary64 (add binary64 c.if-x.h half_up) / 67108864 % 67108864) c.args.last ≡ round_held c.args.last x =
    ap (λ (z : Float). min (to_bits binary64 (add binary64 z half_up) / 67108864 % 67108864) c.args.last) from-zero-is
    ∙ small_is x held c.requires c.args.last in
    sym (min-eq_right c.if-n-last.false) ∙ min-is
