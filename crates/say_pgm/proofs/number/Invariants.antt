-- `say_pgm::number` meets its contract. The loop's invariant: the digits from i on, after those that say `value`, give the number, held at the end. Assumes
-- nothing.
use Prim.Native.Nat.{◌+◌, ◌≤◌, min, max}
use mathlib.Core.Path.{◌≡◌}
use lib.ListN.{length, drop}
use Rattle.say_pgm.specs.Pgm.{number_at, digits_in, decimal_from}
use Rattle.say_pgm.proofs.number.Given as goal

abbrev pub invariant-loop-i : goal.invariant-loop-i
invariant-loop-i l =
    (l.value ≤ 65537) × (l.i + digits_in (drop l.i l.bytes) ≡ (number_at l.bytes l.at).end)
    × (min 65537 (decimal_from l.value (drop l.i l.bytes)) ≡ min 65537 (number_at l.bytes l.at).value)
    × (l.i ≤ max l.at (length l.bytes))
