-- `fix_listed::patch` meets its contract: rows are one run; else, after each turn, the rows up to y are besides what was at the
-- start. Assumes nothing.
use native.Mathlib.Omega.{arith}
use Rattle.fix_scratch.proofs.Joining.{joined_as, steps-start, steps_next, steps-full}
use Rattle.fix_listed.proofs.Listing.{block_none, block_more, block-low, block_row, patch-rows}
use Rattle.fix_listed.proofs.patch.Goals as goal

pub loop-y-init : goal.loop-y-init
loop-y-init c =
    let a = c.args in
    (steps-start _ _ _ _ _ c.requires.front (block_none a.width a.r.top a.r.left a.r.right), omega arith, omega arith)

pub returns-then-r-width : goal.returns-then-r-width
returns-then-r-width c =
    let a = c.args in
    let run = c.run in
    joined_as _ _ _ _ _ _ run.result
    (λ q l. patch-rows a.width a.r.top a.r.left a.r.bottom a.r.right a.top q c.requires.inside c.if-r-width.true) run.ensures

pub loop-y-preserved : goal.loop-y-preserved
loop-y-preserved c =
    let run = c.run-in-loop-y in
    let l = c.loop-y in
    let a = c.args in (
      steps_next _ _ _ _ _ _ _ l.invariant.0 _ _ _ c.in_ok-k.ensures run.auto.s
          (λ q m. block_more a.width a.r.top a.r.left a.r.right l.y q l.invariant.1 c.requires.inside.columns),
      omega (arith, l.invariant.1),
      omega (arith, c.loop-y-test.true),
    )

pub returns-in_err-k : goal.returns-in_err-k
returns-in_err-k c =
    let l = c.loop-y in
    let a = c.args in
    rw c.from_residual.ensures (steps-full _ _ _ _ _ _ _ l.invariant.0 _ _ c.in_err-k.ensures
    (λ q m. block-low a.width a.r.top a.r.left a.r.bottom a.r.right l.y q (omega (arith, c.loop-y-test.true)))
    (λ q m. block_row a.width a.r.top a.r.left a.r.bottom a.r.right l.y q l.invariant.1 c.loop-y-test.true c.requires.inside.columns))
