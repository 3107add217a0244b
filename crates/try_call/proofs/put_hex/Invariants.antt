-- `try_call::put_hex` meets its contract. The digits of the first i bytes stand at the start of the text. Assumes nothing.
use Prim.Native.Nat.{◌*◌}
use mathlib.Core.Path.{◌≡◌}
use lib.ListN.{take}
use Rattle.try_call.specs.Hex.{hex_to}
use Rattle.try_call.proofs.put_hex.Given as goal

abbrev pub invariant-loop-i : goal.invariant-loop-i
invariant-loop-i l = take (l.i * 2) l.text ≡ hex_to l.bytes l.i
