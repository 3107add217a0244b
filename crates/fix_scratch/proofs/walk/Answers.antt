-- `fix_scratch::walk` meets its contract: after each turn the span up to p is held besides what was held at the start.
-- Assumes nothing.
use Prim.Native.Nat.{◌+◌}
use mathlib.Core.Path.{refl}
use native.Mathlib.Omega.{arith}
use Rattle.fix_scratch.proofs.Joining.{steps-start, steps-to, steps_next, steps-full, steps-end}
use Rattle.fix_scratch.proofs.Joining.{span_none, span_more, span-on, span-low, span-at, span-whole, run-covered}
use Rattle.fix_scratch.proofs.walk.Goals as goal

pub returns-in_err-k : goal.returns-in_err-k
returns-in_err-k c =
    let at = c.loop-p in
    let less = c.loop-p-test.true in
    let a = c.args.a in
    let b = c.args.b in
    rw c.from_residual.ensures (steps-full _ _ _ _ _ _ _ at.invariant.0 _ _ c.in_err-k.ensures
    (λ q l. span-low a b at.p q (omega (arith, less))) (λ q l. span-at a b at.p q at.invariant.1 less))

pub loop-p-preserved : goal.loop-p-preserved
loop-p-preserved c =
    let push = c.push in
    let at = c.loop-p in
    let a = c.args.a in (
      steps_next _ _ _ _ _ _ _ at.invariant.0 _ _ _ c.in_ok-k.ensures
          push.auto.s
          (λ q l. span_more a at.p q at.invariant.1),
      omega (arith, at.invariant.1),
      omega (arith, c.loop-p-test.true),
    )

pub loop-p-preserved-then-m-gt0 : goal.loop-p-preserved-then-m-gt0
loop-p-preserved-then-m-gt0 c =
    let at = c.loop-p in
    let got = c.stretch-m in
    let front = at.invariant.0.gains.front in
    let a = c.args.a in (
      steps-to _ _ _ _ _ _ _ at.invariant.0 _ _ (at.p + got.result) _
          (run-covered _ at.p (at.p + got.result) _ _ _ front (got.ensures.there front.rises)) refl
          (λ q l. span-on a at.p got.result q at.invariant.1),
      omega (arith, at.invariant.1),
      omega (arith, got.ensures.within),
    )

pub returns : goal.returns
returns c =
    let at = c.loop-p in
    steps-end _ _ _ _ _ _ _ _ at.invariant.0 (λ q l. span-whole c.args.a c.args.b
    at.p q c.loop-p-test.false at.invariant.2)

pub loop-p-init : goal.loop-p-init
loop-p-init c = (steps-start _ _ _ _ _ c.requires.front (span_none c.args.a), omega arith, omega arith)
