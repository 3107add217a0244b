-- `vignette_row` meets its contract: the rows below the full height are raised, the others stay. Assumes nothing.
use mathlib.Core.Path.{sym, ◌∙◌}
use native.Mathlib.Omega.{arith}
use Rattle.row_vignette.specs.Reach.{frame_at}
use Rattle.row_vignette.proofs.Vignetted.{row_below, row_is}
use Rattle.row_vignette.proofs.vignette_row.Goals as goal

pub returns-then-full_height-y : goal.returns-then-full_height-y
returns-then-full_height-y c =
    let v = c.args in
    λ scale. sym (row_below (frame_at scale v.full_width v.full_height) v.q v.x0 v.planes v.y v.row.now (omega arith))

pub returns : goal.returns
returns c =
    let v = c.args in
    λ scale.
    c.raise_row.ensures
    ∙ row_is v.q v.x0 v.planes v.y v.full_width v.full_height v.row.now
    c.requires.0.some (omega (arith, c.if-full_height-y.false)) c.requires.1
    c.f64_of_u32.ensures c.f64_of_u32-3.ensures c.f64_of_u32-2.ensures scale
