-- `has_tables` meets its contract: the definition's tests, in its order. Assumes nothing.
use mathlib.Core.Bool.{◌&&◌}
use mathlib.Core.Path.{ap₂}
use borrow.Author.Tests.{le-leb, lt-leb}
use Rattle.row_black.specs.Black.{tabled}
use Rattle.row_black.proofs.has_tables.Goals as goal

pub returns-then-p-lt1 : goal.returns-then-p-lt1
unfolding tabled
returns-then-p-lt1 c = simp (lt-leb _ _ c.if-p-lt1.true)

pub returns-then-p-lt1-2 : goal.returns-then-p-lt1-2
unfolding tabled
returns-then-p-lt1-2 c = simp (le-leb _ _ c.if-p-lt1.false, lt-leb _ _ c.if-p-lt1-2.true)

pub returns : goal.returns
unfolding tabled
returns c =
    rw (le-leb _ _ c.if-p-lt1.false, le-leb _ _ c.if-p-lt1-2.false) (ap₂ ◌&&◌ c.fits.ensures c.fits-2.ensures)
