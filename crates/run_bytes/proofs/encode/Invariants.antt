-- `run_bytes::encode` meets its contract. The bytes of the samples before i are put. Assumes nothing.
use Rattle.std.proofs.Common.{◌≡◌, ◌*◌}
use Rattle.pointwise.specs.Points.{each, between}
use Rattle.run_bytes.specs.Samples.{byte_of}
use Rattle.run_bytes.proofs.encode.Given as goal

abbrev pub invariant-loop-i : goal.invariant-loop-i
invariant-loop-i g l =
    l.bytes ≡ each (between 0 (l.i * g.S.InBytes.SIZE) (λ j v. byte_of g.S.InBytes.SIZE g.S.InBytes.bits g.S.Sample.none l.room j)) l.initial.bytes
