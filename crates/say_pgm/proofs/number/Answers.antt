-- `say_pgm::number` meets its contract. The loop's invariant: the digits from i on, after those that say `value`, give the number, held at the end. Assumes
-- nothing.
use mathlib.Core.Path.{refl, ◌∙◌}
use Rattle.say_pgm.specs.Pgm.{number_at}
use Rattle.say_pgm.proofs.Laws.{digits-on, digits-off, digits-end, decimal-on, decimal-off, decimal-end}
use native.Mathlib.Omega.{arith}
use Rattle.say_pgm.proofs.number.Goals as goal

pub loop-i-init : goal.loop-i-init
unfolding number_at
loop-i-init c = (omega arith, refl, refl, omega arith)

pub returns-then-not-is_digit : goal.returns-then-not-is_digit
returns-then-not-is_digit c =
    let r = c.is_digit.ensures in
    let in-it = c.loop-i-test.true in
    let off = c.if-not-is_digit.true in
    record {
      starts = refl;
      ends = digits-off _ _ in-it r off ∙ c.loop-i.invariant.1;
      held = omega (arith, decimal-off c.args.bytes.now c.loop-i.i c.loop-i.value in-it r off, c.loop-i.invariant.2, c.loop-i.invariant.0);
    }

pub loop-i-preserved : goal.loop-i-preserved
loop-i-preserved c =
    let r = c.is_digit.ensures in
    let in-it = c.loop-i-test.true in
    let on = c.if-not-is_digit.false in (
      omega arith,
      digits-on _ _ in-it r on ∙ c.loop-i.invariant.1,
      decimal-on _ _ _ _ _ in-it r on c.digit.ensures.0 c.more-value.ensures
          ∙ c.loop-i.invariant.2,
      omega arith,
    )

pub returns : goal.returns
returns c = record {
  starts = refl;
  ends = omega (arith, digits-end c.args.bytes.now c.loop-i.i c.loop-i-test.false, c.loop-i.invariant.1, c.loop-i.invariant.3);
  held = omega (
    arith,
    decimal-end c.loop-i.value c.args.bytes.now c.loop-i.i c.loop-i-test.false,
    c.loop-i.invariant.2,
    c.loop-i.invariant.0,
  );
}
