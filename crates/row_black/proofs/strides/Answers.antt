-- `strides` meets its contract: each turn is one place of the walk. Assumes nothing.
use native.Mathlib.Omega.{arith}
use Rattle.row_black.proofs.Walks.{walk_start, walk-column, walk-near, walk-next, walk_end, walk-value}
use Rattle.row_black.proofs.strides.Goals as goal

pub loop-j-init : goal.loop-j-init
loop-j-init g c = walk_start c.requires.0

pub overflow_add-c : goal.overflow_add-c
overflow_add-c g c =
    omega (arith, walk-near c.requires.0 c.loop-j.invariant (c.loop-j-test.true), c.requires.0.narrow)

pub loop-j-preserved : goal.loop-j-preserved
loop-j-preserved g c =
    let v = c.args in
    walk-next c.requires.0 c.loop-j.invariant (c.loop-j-test.true)
    (walk-value g.S.Sample.none g.S.Sample.to_float v.input.now v.a v.columns.now v.x v.pitch v.step c.loop-j.j c.loop-j.c
    (walk-column c.requires.0 c.loop-j.invariant) (omega (arith, c.loop-j-test.true, c.requires.1)) c.take_black.ensures c.with_delta.ensures c.index-input-j.is c.to_f32.ensures)

pub returns : goal.returns
returns g c = walk_end c.requires.0 c.loop-j.invariant (omega (arith, c.loop-j-test.false))
