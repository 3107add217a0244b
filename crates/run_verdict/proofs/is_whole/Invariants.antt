-- `run_verdict::is_whole` meets its contract. The loop's invariant: the entries that are left from the cursor on decide. Assumes nothing.
use Prim.Native.Nat.{◌-◌}
use mathlib.Core.Path.{◌≡◌}
use Rattle.dng.specs.List.{read_from}
use Rattle.dng.specs.Run.{kept_of}
use Rattle.run_verdict.specs.Verdict.{whole_items, whole_list}
use Rattle.run_verdict.proofs.is_whole.Given as goal

abbrev pub invariant-loop-k : goal.invariant-loop-k
invariant-loop-k l =
    whole_items l.full_width l.full_height (kept_of l.preview (read_from l.list (l.n - l.k) l.c)) ≡ whole_list l.full_width l.full_height l.preview l.list
