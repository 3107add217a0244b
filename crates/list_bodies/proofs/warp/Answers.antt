-- `list_bodies::warp` meets its contract, by its test. Assumes nothing.
use mathlib.Core.Path.{ap}
use lib.Ieee.{of_bits}
use Rattle.std.specs.Prelude.{Ok}
use Rattle.list_bodies.proofs.Laws.{warp-read, warp-not}
use Rattle.list_bodies.proofs.warp.Goals as goal

pub returns-then-warp_fits : goal.returns-then-warp_fits
returns-then-warp_fits c =
    ap Ok (warp-read _ _ _ c.warp_fits.ensures c.if-warp_fits.true c.word-planes.ensures
    c.real.ensures c.real-then-warp_fits.ensures)

pub returns-else-warp_fits : goal.returns-else-warp_fits
unfolding of_bits
returns-else-warp_fits c = ap Ok (warp-not _ _ _ c.warp_fits.ensures c.if-warp_fits.false)
