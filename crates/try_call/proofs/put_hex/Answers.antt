-- `try_call::put_hex` meets its contract. The digits of the first i bytes stand at the start of the text. Assumes nothing.
use Rattle.std.proofs.Common.{refl}
use Rattle.try_call.specs.Hex.{hex_to}
use Rattle.try_call.proofs.Laws.{hex-next}
use Rattle.try_call.proofs.put_hex.Goals as goal

pub loop-i-init : goal.loop-i-init
unfolding hex_to
loop-i-init c = refl

pub loop-i-preserved : goal.loop-i-preserved
loop-i-preserved c = hex-next _ c.loop-i.i _ _ c.loop-i.invariant c.put_pair.ensures
