-- `num_round::round_below` meets its contract: `Kept` says what the bits of the sum are, at x held by 0 and top. Assumes nothing.
use mathlib.Core.Path.{◌≡◌, sym, ap, ◌∙◌, subst}
use Prim.Native.Nat.{◌/◌, ◌%◌}
use mathlib.Core.Bool.{Bool, false, cond, not}
use lib.IntN.{pos}
use lib.Dec.{T}
use lib.Ieee.{Float, fin, binary32, binary64, add, lt, fits, is_nan, of_bits, to_bits}
use lib.Ieee.Fits.{and_i, fits_widens}
use Rattle.num_round.proofs.Sums.{from_zero, half_up}
use Rattle.num_round.proofs.Kept.{up_to, kept-no-nan, sum-of-kept-no-nan, kept-is}
use Rattle.num_round.proofs.round_below.Goals as goal
use Rattle.num_round.proofs.round_below.Goals.{then-x, else-x, then-raised-top, else-raised-top}

pub float_to_float-bits : goal.float_to_float-bits
unfolding of_bits
float_to_float-bits c =
    let x = c.args.x in
    let top = c.args.top in
    let fit : T (fits binary32 x) = subst T (sym c.well_formed.0.1) tt in
    let fit-top : T (fits binary32 top) = subst T (sym c.well_formed.1.1.0.1) tt in
    let raised-is : c.if-x.raised ≡ from_zero x =
    elim c.if-x.branch [
      | then-x w ↦ w.raised-is ∙ sym (ap (λ (b : Bool). cond b x (fin false 0 (pos 0))) w.if-x.true)
      | else-x w ↦ w.raised-is ∙ sym (ap (λ (b : Bool). cond b x (fin false 0 (pos 0))) w.if-x.false)
    ] in
    let r = c.if-x.raised in
    let kept-as : c.if-raised-top.kept ≡ up_to top x =
    elim c.if-raised-top.branch [
      | then-raised-top w ↦ w.kept-is ∙ sym (ap (λ (b : Bool). cond b r top) w.if-raised-top.true)
      | else-raised-top w ↦ w.kept-is ∙ sym (ap (λ (b : Bool). cond b r top) w.if-raised-top.false)
    ] ∙ ap (λ (z : Float). cond (lt z top) z top) raised-is in
    let h = c.if-raised-top.kept in
    and_i (fits binary64 h) (not (is_nan h)) (fits_widens h c.row_known-1.given)
    (subst (λ (z : Float). T (not (is_nan z))) (sym kept-as)
    (kept-no-nan c.args.last c.args.top c.args.x c.requires.0 c.requires.1 fit-top fit))

pub float_to_bits-bits : goal.float_to_bits-bits
unfolding of_bits
float_to_bits-bits c =
    let x = c.args.x in
    let top = c.args.top in
    let fit : T (fits binary32 x) = subst T (sym c.well_formed.0.1) tt in
    let fit-top : T (fits binary32 top) = subst T (sym c.well_formed.1.1.0.1) tt in
    let raised-is : c.if-x.raised ≡ from_zero x =
    elim c.if-x.branch [
      | then-x w ↦ w.raised-is ∙ sym (ap (λ (b : Bool). cond b x (fin false 0 (pos 0))) w.if-x.true)
      | else-x w ↦ w.raised-is ∙ sym (ap (λ (b : Bool). cond b x (fin false 0 (pos 0))) w.if-x.false)
    ] in
    let r = c.if-x.raised in
    let kept-as : c.if-raised-top.kept ≡ up_to top x =
    elim c.if-raised-top.branch [
      | then-raised-top w ↦ w.kept-is ∙ sym (ap (λ (b : Bool). cond b r top) w.if-raised-top.true)
      | else-raised-top w ↦ w.kept-is ∙ sym (ap (λ (b : Bool). cond b r top) w.if-raised-top.false)
    ] ∙ ap (λ (z : Float). cond (lt z top) z top) raised-is in
    subst (λ (z : Float). T (not (is_nan (add binary64 z half_up)))) (sym kept-as)
    (sum-of-kept-no-nan c.args.last c.args.top c.args.x c.requires.0 c.requires.1 fit-top fit)

pub returns : goal.returns
unfolding of_bits
returns c =
    let x = c.args.x in
    let top = c.args.top in
    let fit : T (fits binary32 x) = subst T (sym c.well_formed.0.1) tt in
    let fit-top : T (fits binary32 top) = subst T (sym c.well_formed.1.1.0.1) tt in
    let raised-is : c.if-x.raised ≡ from_zero x =
    elim c.if-x.branch [
      | then-x w ↦ w.raised-is ∙ sym (ap (λ (b : Bool). cond b x (fin false 0 (pos 0))) w.if-x.true)
      | else-x w ↦ w.raised-is ∙ sym (ap (λ (b : Bool). cond b x (fin false 0 (pos 0))) w.if-x.false)
    ] in
    let r = c.if-x.raised in
    let kept-as : c.if-raised-top.kept ≡ up_to top x =
    elim c.if-raised-top.branch [
      | then-raised-top w ↦ w.kept-is ∙ sym (ap (λ (b : Bool). cond b r top) w.if-raised-top.true)
      | else-raised-top w ↦ w.kept-is ∙ sym (ap (λ (b : Bool). cond b r top) w.if-raised-top.false)
    ] ∙ ap (λ (z : Float). cond (lt z top) z top) raised-is in
    ap (λ (z : Float). to_bits binary64 (add binary64 z half_up) / 67108864 % 67108864) kept-as
    ∙ kept-is c.args.last c.args.top c.args.x c.requires.0 c.requires.1 fit-top fit
