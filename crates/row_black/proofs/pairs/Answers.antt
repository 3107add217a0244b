-- `pairs` meets its contract: a turn is a pair, and a sample may be left. Assumes nothing.
use native.Mathlib.Omega.{arith}
use Rattle.row_black.proofs.Evens.{value-even, value-odd, pairs_next, pairs-last}
use Rattle.row_black.proofs.pairs.Goals as goal

pub loop-k-init : goal.loop-k-init
loop-k-init g c = λ i h. absurd (omega arith)

pub loop-k-preserved : goal.loop-k-preserved
loop-k-preserved g c =
    let k = c.loop-k.k in
    pairs_next _ _ _ _ _ _ k c.loop-k.out (omega arith) c.loop-k.invariant
    (value-even _ _ _ _ _ _ k (omega (arith, c.requires.long)) c.black.ensures c.take_black-v.ensures c.to_f32.ensures c.index-input-j.is)
    (value-odd _ _ _ _ _ _ k (omega (arith, c.requires.long)) c.black-in-loop-k.ensures c.take_black-w.ensures c.to_f32-in-loop-k.ensures
    c.index-input-j-in-loop-k.is)

pub returns-then-n-eq0 : goal.returns-then-n-eq0
returns-then-n-eq0 g c = λ j h. c.loop-k.invariant j (omega arith)

pub returns : goal.returns
returns g c =
    λ j h.
    pairs-last _ _ _ _ _ _ c.loop-k.k c.loop-k.out (omega arith) (omega arith) (omega (arith, c.requires.long)) c.loop-k.invariant c.black-2.ensures
    c.take_black.ensures c.to_f32-2.ensures c.index-input-end.is j (omega arith)
