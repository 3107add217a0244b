-- `list_bodies::counted_in` meets its contract, by what was read. Assumes nothing.
use mathlib.Core.Path.{◌∙◌}
use mathlib.Core.List.{[]}
use Rattle.dng.specs.List.{extent, fours}
use Rattle.dng.proofs.Exits.{exit}
use Rattle.list_fields.proofs.Laws.{value-is, region-is}
use Rattle.list_bodies.proofs.Laws.{area-cut, word_cut, counted-cut, counted_is}
use Rattle.list_bodies.proofs.counted_in.Goals as goal

pub returns-in_err-region : goal.returns-in_err-region
returns-in_err-region c =
    exit c.from_residual.ensures.1
    ∙ counted-cut _ _ _ (area-cut _ _ _ (fours 1) c.region_in.ensures c.in_err-region.was)

pub returns-in_err-n : goal.returns-in_err-n
unfolding extent
returns-in_err-n c =
    let is = region-is _ _ _ c.region_in.ensures c.in_ok-region.was in
    exit c.from_residual-in_err-n.ensures.1
    ∙ counted-cut _ _ _ (word_cut _ _ _ (fours 8) [] is.0 c.word_in.ensures c.in_err-n.was)

pub returns : goal.returns
returns c =
    let is = region-is _ _ _ c.region_in.ensures c.in_ok-region.was in
    let is-n = value-is _ _ _ 32 c.word_in.ensures c.in_ok-n.was in
    counted_is _ _ _ is-n.0 is.1 is-n.1
