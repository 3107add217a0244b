-- `list_bodies::gain` meets its contract, by what was read and its test. Assumes nothing.
use mathlib.Core.Path.{ap, ◌∙◌}
use mathlib.Core.List.{[], ◌++◌}
use Rattle.std.specs.Prelude.{Err}
use Rattle.dng.specs.List.{extent, fours, eights}
use Rattle.list_fields.proofs.Laws.{value-is, region-is, grid-is}
use Rattle.dng.proofs.Exits.{exit}
use Rattle.list_bodies.proofs.Laws.{area-cut, word_cut, lattice-cut, gain-cut, gain-read, gain-not}
use Rattle.list_bodies.proofs.gain.Goals as goal

pub returns-in_err-region : goal.returns-in_err-region
returns-in_err-region c =
    exit c.from_residual.ensures.1
    ∙ gain-cut _ _ _ (area-cut _ _ _ (fours 2 ++ (eights 4 ++ fours 1)) c.region_in.ensures c.in_err-region.was)

pub returns-in_err-points_v : goal.returns-in_err-points_v
unfolding extent
returns-in_err-points_v c =
    let is = region-is _ _ _ c.region_in.ensures c.in_ok-region.was in
    exit c.from_residual-in_err-points_v.ensures.1
    ∙ gain-cut _ _ _ (word_cut _ _ _ (fours 8) (fours 1 ++ (eights 4 ++ fours 1)) is.0 c.word_in.ensures c.in_err-points_v.was)

pub returns-in_err-points_h : goal.returns-in_err-points_h
unfolding extent
returns-in_err-points_h c =
    let is = value-is _ _ _ 32 c.word_in.ensures c.in_ok-points_v.was in
    exit c.from_residual-in_err-points_h.ensures.1
    ∙ gain-cut _ _ _ (word_cut _ _ _ (fours 9) (eights 4 ++ fours 1) is.0 c.word_in-2.ensures c.in_err-points_h.was)

pub returns-in_err-grid : goal.returns-in_err-grid
returns-in_err-grid c =
    let is = value-is _ _ _ 36 c.word_in-2.ensures c.in_ok-points_h.was in
    exit c.from_residual-in_err-grid.ensures.1
    ∙ gain-cut _ _ _ (lattice-cut _ _ _ (fours 1) is.0 c.grid_in.ensures c.in_err-grid.was)

pub returns-in_err-map_planes : goal.returns-in_err-map_planes
unfolding extent
returns-in_err-map_planes c =
    let is = grid-is _ _ _ c.grid_in.ensures c.in_ok-grid.was in
    exit c.from_residual-in_err-map_planes.ensures.1
    ∙ gain-cut _ _ _ (word_cut _ _ _ (fours 10 ++ eights 4) [] is.0 c.word_in-3.ensures c.in_err-map_planes.was)

pub returns-then-gains_fit : goal.returns-then-gains_fit
returns-then-gains_fit c =
    let is = region-is _ _ _ c.region_in.ensures c.in_ok-region.was in
    let is-v = value-is _ _ _ 32 c.word_in.ensures c.in_ok-points_v.was in
    let is-h = value-is _ _ _ 36 c.word_in-2.ensures c.in_ok-points_h.was in
    let is-grid = grid-is _ _ _ c.grid_in.ensures c.in_ok-grid.was in
    let is-planes = value-is _ _ _ 72 c.word_in-3.ensures c.in_ok-map_planes.was in
    gain-read _ _ _ c.gains_fit.ensures c.if-gains_fit.true is.1 is-v.1 is-h.1 is-grid.1 is-planes.1

pub returns-else-gains_fit : goal.returns-else-gains_fit
returns-else-gains_fit c =
    let is = value-is _ _ _ 72 c.word_in-3.ensures c.in_ok-map_planes.was in
    ap Err c.refuse.ensures ∙ gain-not _ _ _ c.gains_fit.ensures c.if-gains_fit.false is.0
