-- `run_bytes::decode` meets its contract. The samples before i are decoded. Assumes nothing.
use Rattle.std.proofs.Common.{sym, arith}
use Rattle.pointwise.proofs.Parts.{each-between-empty}
use Rattle.run_bytes.proofs.Laws.{next, decoded-all}
use Rattle.run_bytes.proofs.decode.Goals as goal

pub loop-i-init : goal.loop-i-init
loop-i-init g c = sym (each-between-empty 0 0 _ c.args.room.now (omega arith))

pub loop-i-preserved : goal.loop-i-preserved
loop-i-preserved g c = next g.S.Sample.none (g.S.InBytes.at c.args.bytes.now) _ _ _ _ c.loop-i.invariant (omega arith) c.from_bytes.ensures

pub returns : goal.returns
returns g c = decoded-all _ _ _ _ c.loop-i.invariant (omega arith)
