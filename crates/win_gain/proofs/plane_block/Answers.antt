-- `plane_block` meets its contract: a walk with its own map plane. Assumes nothing.
use mathlib.Core.Path.{◌∙◌}
use native.Mathlib.Omega.{arith}
use Rattle.row_gain.proofs.Laws.{on-map}
use Rattle.row_gain.proofs.Rows.{gained-block}
use Rattle.row_opcode.proofs.Fits.{gain-fits}
use Rattle.win_gain.specs.Columns.{sizes}
use Rattle.win_gain.proofs.Columns.{points-few}
use Rattle.win_gain.proofs.plane_block.Goals as goal

pub gain_block-requires : goal.gain_block-requires
gain_block-requires c =
    let a = c.args in
    let m = a.gain.map in
    let sized = gain-fits m.points_v m.points_h m.grid m.planes a.k.plane a.gain.region.plane c.requires.1 c.map_plane-m.ensures in (
      c.requires.0,
      sized,
      on-map _ _ _ _ _ c.requires.4 (omega (arith, points-few _ _ _ _ sized)),
      c.requires.2,
      c.requires.3,
    )

pub returns : goal.returns
returns c =
    let a = c.args in
    let m = a.gain.map in
    c.gain_block.ensures _ c.requires.4
    ∙ gained-block (sizes a.g.full_width a.g.full_height) a.body.now a.gain.region m.points_v m.points_h m.grid m.planes a.g.y
    c.map_plane-m.result a.k _ _ a.row.now c.map_plane-m.ensures
