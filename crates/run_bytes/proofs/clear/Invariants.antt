-- `run_bytes::clear` meets its contract. The places before the loop's are clear. Assumes nothing.
use Rattle.std.proofs.Common.{◌≡◌}
use Rattle.pointwise.specs.Points.{each, between}
use Rattle.run_bytes.proofs.clear.Given as goal

abbrev pub invariant-loop-v : goal.invariant-loop-v
invariant-loop-v g l = l.room ≡ each (between 0 l.v-index (λ j v. g.S.InBytes.ZERO)) l.initial.room
