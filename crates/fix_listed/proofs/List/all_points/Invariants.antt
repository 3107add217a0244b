-- `fix_listed::List::all_points` meets its contract: after each turn the first i points are held.
-- Assumes nothing.
use Rattle.dng.specs.Repair.{any_below, positions}
use Rattle.fix_scratch.proofs.Joining.{Steps}
use Rattle.fix_listed.specs.Listed.{at_point}
use Rattle.fix_listed.proofs.List.all_points.Given as goal

abbrev pub invariant-loop-i : goal.invariant-loop-i
invariant-loop-i l = Steps (positions l.self.w) (λ j q. any_below j (λ i. at_point l.self.across l.self.w l.self.body.now i q)) l.initial.s 0 l.s l.k l.i
