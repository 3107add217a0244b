-- `list_survey::read_entries` meets its contract. The loop's invariant: k entries are read, and what is counted of them and of those that are left
-- from the cursor on is what is counted of all; and the first malformed one, if there is one, is yet to come. Assumes nothing.
use Prim.Native.Nat.{◌+◌, ◌-◌}
use mathlib.Core.Path.{◌≡◌}
use lib.ListN.{length}
use Rattle.dng.specs.List.{read_from, why_from}
use Rattle.dng.specs.Run.{kept_of}
use Rattle.list_read.proofs.Fold.{start}
use Rattle.list_survey.specs.Survey.{begun}
use Rattle.list_survey.proofs.Laws.{tally_from}
use Rattle.list_survey.proofs.read_entries.Given as goal

abbrev pub invariant-loop-k : goal.invariant-loop-k
invariant-loop-k l =
    (l.k + length (read_from l.list (l.n - l.k) l.c) ≡ length (read_from l.list l.n start)) ×
    (why_from l.list (l.n - l.k) l.c ≡ why_from l.list l.n start) ×
    (tally_from l.t (kept_of l.preview (read_from l.list (l.n - l.k) l.c)) ≡ tally_from begun (kept_of l.preview (read_from l.list l.n start)))
