-- `say_pgm::skip` meets its contract. The loop's invariant: what is left to pass over from i on ends where all of it does. Assumes nothing.
use Prim.Native.Nat.{◌+◌, ◌≤◌, max}
use mathlib.Core.Path.{◌≡◌}
use lib.ListN.{length, drop}
use Rattle.say_pgm.specs.Pgm.{past, blanks}
use Rattle.say_pgm.proofs.skip.Given as goal

abbrev pub invariant-loop-i : goal.invariant-loop-i
invariant-loop-i l =
    (l.i + blanks l.comment (drop l.i l.bytes) ≡ past l.bytes l.at) × (l.i ≤ max l.at (length l.bytes))
