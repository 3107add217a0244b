-- `gain_plane` meets its contract: a walk with its own map plane. Assumes nothing.
use mathlib.Core.Path.{◌∙◌}
use native.Mathlib.Omega.{arith}
use Rattle.row_vignette.specs.Reach.{frame_at}
use Rattle.row_gain.proofs.Laws.{on-map}
use Rattle.row_gain.proofs.Rows.{gained-row}
use Rattle.row_opcode.proofs.Fits.{gain-fits}
use Rattle.row_opcode.proofs.gain_plane.Goals as goal

pub gain_row-requires : goal.gain_row-requires
gain_row-requires c =
    let a = c.args in (
      c.requires.0,
      gain-fits a.points_v a.points_h a.grid a.map_planes a.k.plane a.r.plane c.requires.1 c.map_plane-m.ensures,
      on-map _ _ _ _ _ c.requires.2 (omega (arith, c.ranges.points_v)),
    )

pub returns : goal.returns
returns c =
    let a = c.args in
    λ scale.
    c.gain_row.ensures _ c.requires.2
    ∙ gained-row (frame_at scale a.g.full_width a.g.full_height) a.body.now a.r a.points_v a.points_h a.grid
    a.map_planes a.g.y c.map_plane-m.result a.k a.row.now c.map_plane-m.ensures
