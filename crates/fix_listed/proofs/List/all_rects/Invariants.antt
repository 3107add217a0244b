-- `fix_listed::List::all_rects` meets its contract: after each turn the first i rectangles are held besides what was held at the start.
-- Assumes nothing.
use Rattle.dng.specs.Repair.{any_below, positions}
use Rattle.fix_scratch.proofs.Joining.{Steps}
use Rattle.fix_listed.specs.Listed.{in_rect}
use Rattle.fix_listed.proofs.List.all_rects.Given as goal

abbrev pub invariant-loop-i : goal.invariant-loop-i
invariant-loop-i l = Steps (positions l.self.w)
    (λ j q. any_below j (λ i. in_rect l.self.across l.self.w l.self.body.now l.self.points i q)) l.initial.s l.fn.held.t l.s l.k l.i
