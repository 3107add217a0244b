-- `num_round::floor` meets its contract: `Lower` says what w is, and what the whole part of f is in the two other arms. Assumes nothing.
use mathlib.Core.Path.{◌≡◌, refl, sym, ap, ◌∙◌, subst}
use Prim.Native.Nat.{ℕ}
use lib.IntN.{pos}
use mathlib.Core.Bool.{true}
use lib.Dec.{T}
use lib.Ieee.{Float, binary64, lt, sub, of_int, of_bits, in_unsigned, to_unsigned}
use Rattle.num_round.specs.Whole.{FloorIs}
use Rattle.num_round.proofs.Lower.{over, near, floor-is, floor-past, floor-none, part-back}
use Rattle.num_round.proofs.floor.Goals as goal
use Rattle.num_round.proofs.floor.Goals.{then-f-near, else-f-near}

-- w is the whole part of f, as a float
whole_part : (f v : Float) → v ≡ over (lt f (near f)) → lt (of_bits binary64 0) f ≡ true → lt f (of_bits binary64 4751297606875873280) ≡ true
    → sub binary64 (near f) v ≡ of_int binary64 (pos (to_unsigned 32 f))
unfolding of_bits
whole_part f v is a b =
    ap (λ (z : Float). sub binary64 (near f) z) is
    ∙ floor-is f (subst T (sym a) tt) (subst T (sym b) tt)

-- the index and the rest, from the whole part n
parts : (f v : Float) (n : ℕ) → to_unsigned 32 f ≡ n → v ≡ of_int binary64 (pos n) → FloorIs f n (sub binary64 f v)
parts f v n e p = record {
  index_is = sym e;
  rest-is = ap (λ (z : Float). sub binary64 f z) (p ∙ ap (λ (k : ℕ). of_int binary64 (pos k)) (sym e));
}

pub float_to_int-index : goal.float_to_int-index
unfolding of_bits
float_to_int-index c =
    let f = c.args.f in
    let is : c.if-f-near.over ≡ over (lt f (near f)) =
    elim c.if-f-near.branch [
      | then-f-near w ↦ w.over-is ∙ sym (ap over w.if-f-near.true)
      | else-f-near w ↦ w.over-is ∙ sym (ap over w.if-f-near.false)
    ] in
    subst (λ (z : Float). T (in_unsigned binary64 32 z)) (sym (whole_part f _ is c.if-f.true c.if-f-2.true)) (part-back f).0

pub returns-after-f-near : goal.returns-after-f-near
unfolding of_bits
returns-after-f-near c =
    let f = c.args.f in
    let is : c.if-f-near.over ≡ over (lt f (near f)) =
    elim c.if-f-near.branch [
      | then-f-near w ↦ w.over-is ∙ sym (ap over w.if-f-near.true)
      | else-f-near w ↦ w.over-is ∙ sym (ap over w.if-f-near.false)
    ] in
    record {
      index_is = ap (λ (z : Float). to_unsigned 32 z) (whole_part f _ is c.if-f.true c.if-f-2.true) ∙ (part-back f).1;
      rest-is = ap (λ (z : Float). sub binary64 f z) (whole_part f _ is c.if-f.true c.if-f-2.true);
    }

pub returns-else-f-2 : goal.returns-else-f-2
unfolding of_bits of_int
returns-else-f-2 c =
    let f = c.args.f in
    parts f (of_bits binary64 4751297606873776128) 4294967295
    (floor-past f (subst T (sym c.if-f.true) tt) c.if-f-2.false) refl

pub returns-else-f : goal.returns-else-f
unfolding of_bits of_int
returns-else-f c = parts c.args.f (of_bits binary64 0) 0 (floor-none c.args.f c.if-f.false) refl
