-- `list_read::read_entries` meets its contract. The loop's invariant: k entries are read, and with those that are left to read from the cursor on
-- they are all that can be read; and the first malformed one, if there is one, is yet to come. Assumes nothing.
use Prim.Native.Nat.{◌+◌, ◌-◌}
use mathlib.Core.Path.{◌≡◌}
use lib.ListN.{length}
use Rattle.dng.specs.List.{read_from, why_from}
use Rattle.list_read.proofs.Fold.{start}
use Rattle.list_read.proofs.read_entries.Given as goal

abbrev pub invariant-loop-k : goal.invariant-loop-k
invariant-loop-k l =
    (l.k + length (read_from l.list (l.n - l.k) l.c) ≡ length (read_from l.list l.n start)) × (why_from l.list (l.n - l.k) l.c ≡ why_from l.list l.n start)
