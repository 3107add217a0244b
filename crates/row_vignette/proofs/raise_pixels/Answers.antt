-- `raise_pixels` meets its contract: each turn is one pixel. Assumes nothing.
use native.Mathlib.Omega.{arith}
use Rattle.row_vignette.proofs.Pixels.{begin, inside, lent, next, end}
use Rattle.row_vignette.proofs.raise_pixels.Goals as goal

pub loop-j-init : goal.loop-j-init
loop-j-init c = begin (omega arith)

pub loop-j-preserved : goal.loop-j-preserved
loop-j-preserved c =
    let a = c.loop-j in
    let fits = inside a.invariant (omega arith) c.requires in
    next a.invariant (omega arith)
    (lent a.row c.raise_pixel.new.pixel _ _ c.to_f32.result (omega (arith, fits, a.invariant.same)) (omega arith) c.raise_pixel.ensures)
    c.to_f32.ensures (omega arith)

pub returns : goal.returns
returns c = end c.loop-j.invariant (omega arith)
