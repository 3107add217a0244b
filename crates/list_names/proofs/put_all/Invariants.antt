-- `list_names::put_all` meets its contract. The loop's invariant: the buffer with the names that are left stored from j on is the one with all names
-- stored. Assumes nothing.
use Prim.Native.Nat.{◌-◌, ◌≤◌}
use mathlib.Core.Path.{◌≡◌}
use lib.Seq.{sets}
use Rattle.dng.specs.List.{read_from}
use Rattle.dng.specs.Run.{kept_of, kept_in, names_of}
use Rattle.list_names.specs.Names.{skipped_in}
use Rattle.list_names.proofs.put_all.Given as goal

abbrev pub invariant-loop-k : goal.invariant-loop-k
invariant-loop-k l =
    (l.j ≤ l.k) ×
    (sets l.names l.j (names_of (skipped_in l.whole) (kept_of l.preview (read_from l.list (l.n - l.k) l.c)))
    ≡ sets l.initial.names 0 (names_of (skipped_in l.whole) (kept_in l.preview l.list)))
