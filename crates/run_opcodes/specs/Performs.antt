-- Where a run stands after what the code answers: after one opcode, and after all. Over any sample kind.
use Rattle.std.specs.Prelude.{ℕ, ◌+◌, ◌≤◌, Bool, cond, List, Option, Some, None, Result, Ok, Err, ◌≡◌}
use Rattle.dng.specs.declared.Window.{Window}
use Rattle.dng.specs.declared.Class.TheVariants.{Unapplied}
use Rattle.dng.specs.declared.Opcode.{Opcode}
use Rattle.dng.specs.Repair.{positions}
use Rattle.dng.specs.Run.{Kind, Room, Progress, going, marks_full, class_of, perform_on}
use Rattle.fix_repair.specs.declared.Repaired.{Repaired}
use Rattle.fix_repair.specs.Fixes as Fixes
use Rattle.run_opcodes.specs.declared.Totals.{Totals}
use Rattle.run_opcodes.specs.declared.Full.{Full}

-- all opcodes, with the samples that they left
abbrev pub progress_of : {A : Type 0} → Result Totals Full → List A → Progress A
progress_of (Ok t) s = going s t.repaired t.left
progress_of (Err f) s = marks_full s f.opcode

-- how many positions an opcode repaired and left
abbrev pub done_of : Option Repaired → ℕ
done_of (Some d) = d.repaired + d.left
done_of None = 0

-- An opcode with the body b on the samples s answers r and leaves s': whatever its number and the totals before it. One
-- that is dropped is not applied. The positions it repaired and left are few, so that no total wraps.
pub record Performs {A : Type 0} (kind : Kind A) (w : Window) (period : ℕ) (room : Room) (dropped : Bool) (op : Opcode)
    (b : List ℕ) (s s' : List A) (r : Option Repaired) : Type 0 where
  pub state : (k x y : ℕ)
      → Fixes.progress_of r s' k x y ≡ perform_on kind w period room (cond dropped Unapplied (class_of op)) op b k s x y
  pub few : done_of r ≤ positions w
