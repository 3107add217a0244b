-- `fix_listed::List::point` meets its contract: inside the window a point is one position, outside it none.
-- Assumes nothing.
use Rattle.fix_listed.specs.Listed.{Within}
use Rattle.fix_listed.proofs.Listing.{point-marks, point-outside}
use Rattle.fix_scratch.proofs.Joining.{joined_as}
use Rattle.fix_listed.proofs.List.point.Goals as goal

pub returns-else-inside : goal.returns-else-inside
returns-else-inside c =
    let a = c.args in
    let row = c.u32_at-row in
    let column = c.u32_at-column in
    point-outside a.self.now.across a.self.now.w a.self.now.body.now a.i row.result column.result c.args.self.now.fits row.ensures column.ensures
    (c.inside.ensures.1 c.if-inside.false) _ _ _ c.requires.front

pub returns-then-inside : goal.returns-then-inside
returns-then-inside c =
    let within : Within c.args.self.now.w c.u32_at-row.result c.u32_at-column.result =
    c.inside.ensures.0 c.if-inside.true in
    let a = c.args in
    let row = c.u32_at-row in
    let column = c.u32_at-column in
    let place = c.position-p in
    let one = c.one in
    joined_as _ _ _ _ _ _ one.result
    (λ q l. point-marks a.self.now.across a.self.now.w a.self.now.body.now a.i row.result column.result c.args.self.now.fits row.ensures column.ensures
    place.result within place.ensures q) one.ensures
