-- `fix_listed::gather` meets its contract: points, then rectangles, then what is held is packed: the chosen positions; or there are too many.
-- Assumes nothing.
use Rattle.fix_listed.proofs.Listing.{points-over, rects-over, list_done}
use Rattle.fix_listed.proofs.gather.Goals as goal

pub returns : goal.returns
returns c =
    let small = c.compact in
    list_done c.args.across c.args.w c.args.body.now c.args.points c.args.rects _ _ _ c.in_ok-points_held.ensures
    c.all_points.auto.s _ _ c.in_ok-held.ensures c.all_rects.auto.s _ _ small.ensures small.auto.s

pub returns-in_err-held : goal.returns-in_err-held
returns-in_err-held c =
    rw c.from_residual-in_err-held.ensures
    (rects-over c.args.across c.args.w c.args.body.now c.args.points c.args.rects _ _ _ c.in_ok-points_held.ensures
    c.all_points.auto.s c.in_err-held.ensures)

pub returns-in_err-points_held : goal.returns-in_err-points_held
returns-in_err-points_held c =
    rw c.from_residual.ensures
    (points-over c.args.across c.args.w c.args.body.now c.args.points c.args.rects _ c.in_err-points_held.ensures)
