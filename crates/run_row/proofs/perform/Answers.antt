-- `run_row::perform` meets its contract, by the loop's invariant. Assumes nothing.
use mathlib.Core.List.{List}
use mathlib.Core.Path.{ap, sym, ◌∙◌}
use Rattle.dng.specs.List.{Item}
use Rattle.dng.specs.Run.{kept_of, row_on}
use Rattle.list_read.proofs.Fold.{begin, item, stop, end}
use Rattle.list_read.proofs.Bounds.{sound}
use Rattle.run_row.specs.Rows.{frame_of}
use Rattle.run_row.proofs.Laws.{more, none, still, still-spans}
use Rattle.run_row.proofs.perform.Goals as goal

pub loop-k-init : goal.loop-k-init
loop-k-init c =
    let g = c.args.g in
    ap
    (λ (l : List Item). row_on (frame_of g c.args.scale) g.x0 g.planes g.y c.args.list.now (kept_of c.args.preview l) c.args.row.now)
    (begin _ c.count-n.ensures)

pub perform_one-requires : goal.perform_one-requires
perform_one-requires c = (
  still c.requires.0 c.loop-k.auto.row,
  (sound _ _ c.step.ensures c.in-Ok.is).counts,
  still-spans c.requires.1 c.loop-k.auto.row,
)

pub loop-k-preserved : goal.loop-k-preserved
loop-k-preserved c =
    more _ _ _ _ _ _ _ _ (item _ _ _ _ c.loop-k-test.true c.step.ensures c.in-Ok.is) _ c.perform_one.ensures ∙ c.loop-k.invariant

pub returns-in_default : goal.returns-in_default
returns-in_default c =
    sym (none _ _ _ _ _ _ (stop _ _ _ _ c.loop-k-test.true c.step.ensures c.in_default.is) _) ∙ c.loop-k.invariant

pub returns : goal.returns
returns c =
    sym (none _ _ _ _ _ _ (end c.args.list.now c.count-n.result c.loop-k.k c.loop-k.c c.loop-k-test.false) _)
    ∙ c.loop-k.invariant
