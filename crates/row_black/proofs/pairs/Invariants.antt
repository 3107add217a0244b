-- `pairs` meets its contract: a turn is a pair, and a sample may be left. Assumes nothing.
use Prim.Native.Nat.{◌*◌}
use Rattle.row_black.proofs.Evens.{Paired}
use Rattle.row_black.proofs.pairs.Given as goal

abbrev pub invariant-loop-k : goal.invariant-loop-k
invariant-loop-k g l =
    Paired g.S.Sample.none g.S.Sample.to_float l.input (λ j b r. goal.F-post g l.black j b r) l.even l.odd l.out (2 * l.k)
