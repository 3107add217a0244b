-- `run_bytes::decode` meets its contract. The samples before i are decoded. Assumes nothing.
use Rattle.std.proofs.Common.{◌≡◌}
use Rattle.pointwise.specs.Points.{each, between}
use Rattle.run_bytes.proofs.decode.Given as goal

abbrev pub invariant-loop-i : goal.invariant-loop-i
invariant-loop-i g l = l.room ≡ each (between 0 l.i (λ j v. g.S.InBytes.at l.bytes j)) l.initial.room
