-- `run_bytes::clear` meets its contract. The places before the loop's are clear. Assumes nothing.
use Rattle.std.proofs.Common.{sym, arith}
use Rattle.pointwise.proofs.Parts.{each-between-empty}
use Rattle.run_bytes.proofs.Laws.{next, cleared-all}
use Rattle.run_bytes.proofs.clear.Goals as goal

pub loop-v-init : goal.loop-v-init
loop-v-init g c = sym (each-between-empty 0 0 _ c.args.room.now (omega arith))

pub loop-v-preserved : goal.loop-v-preserved
loop-v-preserved g c = next g.S.Sample.none (λ j. g.S.InBytes.ZERO) _ _ _ _ c.loop-v.invariant (omega arith) c.ZERO.ensures

pub returns : goal.returns
returns g c = cleared-all _ _ _ _ c.loop-v.invariant (omega arith)
