-- `say_pgm::skip` meets its contract. The loop's invariant: what is left to pass over from i on ends where all of it does. Assumes nothing.
use mathlib.Core.Path.{refl, ◌∙◌}
use native.Mathlib.Omega.{arith}
use Rattle.say_pgm.specs.Pgm.{past}
use Rattle.say_pgm.proofs.Laws.{blanks-on, blanks-off, blanks-end}
use Rattle.say_pgm.proofs.skip.Goals as goal

pub loop-i-init : goal.loop-i-init
unfolding past
loop-i-init c = (refl, omega arith)

pub returns-then-not-goes_on : goal.returns-then-not-goes_on
returns-then-not-goes_on c =
    blanks-off _ _ _ c.loop-i-test.true c.goes_on.ensures c.if-not-goes_on.true ∙ c.loop-i.invariant.0

pub loop-i-preserved : goal.loop-i-preserved
loop-i-preserved c = (
  blanks-on _ _ _ c.loop-i-test.true c.goes_on.ensures c.if-not-goes_on.false c.in_comment-comment.ensures
      ∙ c.loop-i.invariant.0,
  omega arith,
)

pub returns : goal.returns
returns c =
    omega (arith, blanks-end c.loop-i.comment c.args.bytes.now c.loop-i.i c.loop-i-test.false, c.loop-i.invariant.0, c.loop-i.invariant.1)
