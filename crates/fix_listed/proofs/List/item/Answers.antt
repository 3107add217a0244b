-- `fix_listed::List::item` meets its contract: inside the window the cut numbers mark what the image positions mark, by rows and by columns.
-- Assumes nothing.
use native.Mathlib.Omega.{arith}
use Rattle.fix_listed.proofs.Listing.{cut-none, row-marks, column-marks, lies_so}
use Rattle.fix_scratch.proofs.Joining.{joined_as}
use Rattle.fix_listed.proofs.List.item.Goals as goal

pub returns-then-rows : goal.returns-then-rows
returns-then-rows c =
    cut-none _ _ _ _ _ _ _ _ _ c.args.self.now.fits c.cut-rows.ensures c.args.self.now.across (λ y x. omega (arith, c.if-rows.true)) _ _ _ c.requires

pub returns-else-self : goal.returns-else-self
returns-else-self c =
    let a = c.args in
    let patch = c.patch-else-self in
    lies_so a.self.now.across _ a.self.now.w a.r.top a.r.left a.r.bottom a.r.right _ _ _ patch.result c.if-self.false
    (joined_as _ _ _ _ _ _ patch.result (row-marks _ _ _ _ _ _ _ _ _ c.args.self.now.fits c.cut-rows.ensures) patch.ensures)

pub returns-then-self : goal.returns-then-self
returns-then-self c =
    let a = c.args in
    let patch = c.patch in
    lies_so a.self.now.across _ a.self.now.w a.r.top a.r.left a.r.bottom a.r.right _ _ _ patch.result c.if-self.true
    (joined_as _ _ _ _ _ _ patch.result (column-marks _ _ _ _ _ _ _ _ _ c.args.self.now.fits c.cut-rows.ensures) patch.ensures)

pub returns-then-rows-2 : goal.returns-then-rows-2
returns-then-rows-2 c =
    cut-none _ _ _ _ _ _ _ _ _ c.args.self.now.fits c.cut-rows.ensures c.args.self.now.across (λ y x. omega (arith, c.if-rows-2.true)) _ _ _ c.requires
