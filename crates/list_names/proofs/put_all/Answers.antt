-- `list_names::put_all` meets its contract. The loop's invariant: the buffer with the names that are left stored from j on is the one with all names
-- stored. Assumes nothing.
use mathlib.Core.Path.{ap, sym, ◌∙◌}
use native.Mathlib.Omega.{arith}
use lib.Seq.{sets}
use Rattle.dng.specs.Run.{kept_of, names_of}
use Rattle.list_classes.proofs.Counted.{counted, counted-most}
use Rattle.list_read.proofs.Fold.{begin, item, stop, end}
use Rattle.list_names.specs.Names.{skipped_in}
use Rattle.list_names.proofs.Laws.{put-more, none}
use Rattle.list_names.proofs.put_all.Goals as goal

pub loop-k-init : goal.loop-k-init
loop-k-init c = (
  omega arith,
  let a = c.args in
      ap (λ l. sets a.names.now 0 (names_of (skipped_in a.whole) (kept_of a.preview l))) (begin _ c.count-n.ensures),
)

pub loop-k-preserved : goal.loop-k-preserved
loop-k-preserved c =
    let a = c.args in (
      omega (arith, c.from-j.ensures, counted-most c.is_named-named.result),
      put-more
          a.preview (skipped_in a.whole) _ _
          (item _ _ _ _ c.loop-k-test.true c.step.ensures c.in-Ok.is)
          c.is_named-named.ensures (c.from-j.ensures ∙ counted _) _ _ c.put.ensures ∙ c.loop-k.invariant.1,
    )

pub returns-in_default : goal.returns-in_default
returns-in_default c =
    let a = c.args in
    sym (ap (λ l. sets c.loop-k.names c.loop-k.j l) (none a.preview (skipped_in a.whole)
    (stop _ _ _ _ c.loop-k-test.true c.step.ensures c.in_default.is)))
    ∙ c.loop-k.invariant.1

pub returns : goal.returns
returns c =
    let a = c.args in
    sym (ap (λ l. sets c.loop-k.names c.loop-k.j l) (none a.preview (skipped_in a.whole)
    (end a.list.now c.count-n.result c.loop-k.k c.loop-k.c c.loop-k-test.false)))
    ∙ c.loop-k.invariant.1
