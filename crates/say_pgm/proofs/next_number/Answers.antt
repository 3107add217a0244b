-- `say_pgm::next_number` meets its contract. Assumes nothing.
use Prim.Native.Nat.{ℕ}
use mathlib.Core.Path.{subst}
use Rattle.say_pgm.specs.Pgm.{Held}
use Rattle.say_pgm.proofs.next_number.Goals as goal

pub returns : goal.returns
returns c = subst (λ (i : ℕ). Held c.args.bytes.now i c.number.result) c.skip.ensures c.number.ensures
