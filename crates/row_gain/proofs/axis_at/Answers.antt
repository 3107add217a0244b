-- `axis_at` meets its contract: the place on the ruler is the position. Assumes nothing.
use native.Mathlib.Omega.{arith}
use Rattle.row_gain.proofs.Laws.{column-on}
use Rattle.row_gain.proofs.axis_at.Goals as goal

pub returns : goal.returns
returns c =
    let on = column-on c.new.ensures _ c.column-c.ensures in
    record { lower-is = on.lower-is; upper_is = omega (arith, on.lower-is, c.next.ensures, c.saturating_sub.ensures); share-is = on.share-is }
