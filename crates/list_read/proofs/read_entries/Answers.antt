-- `list_read::read_entries` meets its contract, by the loop's invariant. Assumes nothing.
use mathlib.Core.Path.{sym, ap, ◌∙◌}
use native.Mathlib.Omega.{arith}
use lib.ListN.{length}
use Rattle.list_read.proofs.Fold.{stop, end, total, why-item, why-stop}
use Rattle.list_read.proofs.Laws.{reading-stop, reading-whole}
use Rattle.list_read.proofs.read_entries.Goals as goal

pub loop-k-preserved : goal.loop-k-preserved
loop-k-preserved c =
    let h = c.loop-k-test.true in (
      total _ _ _ _ _ h c.step.ensures c.in-Ok.is c.loop-k.invariant.0,
      sym (why-item _ _ _ _ h c.step.ensures c.in-Ok.is) ∙ c.loop-k.invariant.1,
    )

pub returns-in-Err : goal.returns-in-Err
returns-in-Err c =
    let h = c.loop-k-test.true in
    reading-stop _ _
    (omega (arith, ap length (stop _ _ _ _ h c.step.ensures c.in-Err.is)))
    h
    (sym c.loop-k.invariant.1 ∙ why-stop _ _ _ _ h c.step.ensures c.in-Err.is)

pub returns : goal.returns
returns c =
    let args = c.args in
    reading-whole _ _ (omega (arith, ap length (end args.list.now args.n c.loop-k.k c.loop-k.c c.loop-k-test.false)))
