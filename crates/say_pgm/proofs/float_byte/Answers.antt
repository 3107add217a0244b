-- `say_pgm::float_byte` meets its contract. Assumes nothing.
use Prim.Native.Nat.{ℕ, ◌%◌}
use mathlib.Core.Path.{ap, ◌∙◌}
use mathlib.Core.List.{List}
use native.Mathlib.Omega.{arith}
use lib.ListN.{get_or}
use Rattle.say_pgm.proofs.Laws.{nth-of, float_in, float-past}
use Rattle.say_pgm.proofs.float_byte.Goals as goal

pub returns-then-i-samples : goal.returns-then-i-samples
returns-then-i-samples c =
    let k = c.args.j % 4 in
    float_in _ _ _ c.if-i-samples.true c.bits_of.ensures
    (ap (λ (s : List ℕ). get_or s k 0) c.to_le_bytes.ensures ∙ nth-of c.bits_of.result k (omega arith))

pub returns-else-i-samples : goal.returns-else-i-samples
returns-else-i-samples c = float-past _ _ _ c.if-i-samples.false
