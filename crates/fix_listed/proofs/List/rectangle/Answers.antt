-- `fix_listed::List::rectangle` meets its contract: a rectangle by its four words.
-- Assumes nothing.
use Rattle.fix_listed.proofs.Listing.{rect-marks}
use Rattle.fix_scratch.proofs.Joining.{joined_as}
use Rattle.fix_listed.proofs.List.rectangle.Goals as goal

pub returns : goal.returns
returns c =
    let top = c.u32_at in
    let left = c.u32_at-2 in
    let bottom = c.u32_at-3 in
    let right = c.u32_at-4 in
    let item = c.item in
    joined_as _ _ _ _ _ _ item.result
    (λ q l. rect-marks c.args.self.now.across c.args.self.now.w c.args.self.now.body.now c.args.self.now.points c.args.i top.result left.result bottom.result
    right.result
    top.ensures left.ensures bottom.ensures right.ensures q)
    item.ensures
