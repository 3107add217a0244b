-- `fix_columns::turn` meets its contract: each turn of the loop writes one position. Assumes nothing.
use mathlib.Core.Path.{sym, ◌∙◌}
use native.Mathlib.Omega.{arith}
use Rattle.pointwise.proofs.Each.{each-agree}
use Rattle.pointwise.proofs.Parts.{between_in, each-between-empty, store}
use Rattle.fix_columns.specs.Columns.{turned}
use Rattle.fix_columns.proofs.Turning.{Entry, entry}
use Rattle.fix_columns.proofs.turn.Goals as goal

pub loop-v-init : goal.loop-v-init
loop-v-init c = (sym (each-between-empty 0 0 _ _ (omega arith)), omega arith)

pub returns : goal.returns
returns c =
    let s = c.args in
    let a = c.loop-v in
    a.invariant.0
    ∙ each-agree _ _ s.s.now (λ i v h. between_in 0 a.v-index (λ j q. turned s.width s.height q) i v (omega arith) (omega arith))

pub loop-v-preserved : goal.loop-v-preserved
loop-v-preserved c =
    let at : Entry c.args.width c.args.height _ c.column_of-x.result = entry _ _ _ _ _ _ c.requires c.loop-v.invariant.0 (omega arith) c.column_of-x.ensures in
    let a = c.args in
    let l = c.loop-v in (
      store 0 (λ j q. turned a.width a.height q) 0 l.v-index a.s.now l.s _ l.invariant.0 at.parts.is (omega arith) (omega arith),
      omega (arith, at.parts.below, at.small),
    )

pub overflow_cast-v : goal.overflow_cast-v
overflow_cast-v c =
    let at : Entry c.args.width c.args.height _ c.column_of-x.result = entry _ _ _ _ _ _ c.requires c.loop-v.invariant.0 (omega arith) c.column_of-x.ensures in
    omega (arith, at.parts.under, at.parts.below, at.low, at.small)
