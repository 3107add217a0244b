-- `fix_columns::turn` meets its contract: each turn of the loop writes one position. Assumes nothing.
use Prim.Native.Nat.{◌<◌, ◌^◌}
use mathlib.Core.Path.{◌≡◌}
use Rattle.pointwise.specs.Points.{each, between}
use Rattle.fix_columns.specs.Columns.{turned}
use Rattle.fix_columns.proofs.turn.Given as goal

abbrev pub invariant-loop-v : goal.invariant-loop-v
invariant-loop-v l = (l.s ≡ each (between 0 l.v-index (λ j q. turned l.width l.height q)) l.initial.s) × (l.x < 2 ^ 32)
