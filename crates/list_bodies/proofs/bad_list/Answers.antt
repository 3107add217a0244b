-- `list_bodies::bad_list` meets its contract, by what was read and its test. Assumes nothing.
use mathlib.Core.Path.{ap, ◌∙◌}
use Prim.Native.Nat.{zero-le}
use Rattle.std.specs.Prelude.{Err}
use Rattle.dng.specs.List.{extent, fours}
use Rattle.list_fields.proofs.Laws.{value-is}
use Rattle.dng.proofs.Exits.{exit}
use Rattle.list_bodies.proofs.Laws.{word_cut, bad-list-cut, bad-list-read, bad-list-not}
use Rattle.list_bodies.proofs.bad_list.Goals as goal

pub returns-in_err-bayer_phase : goal.returns-in_err-bayer_phase
unfolding extent
returns-in_err-bayer_phase c =
    exit c.from_residual.ensures.1 ∙ bad-list-cut _ _ _ (word_cut _ _ _ (fours 0) (fours 2) zero-le c.word_in.ensures c.in_err-bayer_phase.was)

pub returns-in_err-points : goal.returns-in_err-points
unfolding extent
returns-in_err-points c =
    let is = value-is _ _ _ 0 c.word_in.ensures c.in_ok-bayer_phase.was in
    exit c.from_residual-in_err-points.ensures.1 ∙ bad-list-cut _ _ _ (word_cut _ _ _ (fours 1) (fours 1) is.0 c.word_in-2.ensures c.in_err-points.was)

pub returns-in_err-rects : goal.returns-in_err-rects
unfolding extent
returns-in_err-rects c =
    let is = value-is _ _ _ 4 c.word_in-2.ensures c.in_ok-points.was in
    exit c.from_residual-in_err-rects.ensures.1 ∙ bad-list-cut _ _ _ (word_cut _ _ _ (fours 2) (fours 0) is.0 c.word_in-3.ensures c.in_err-rects.was)

pub returns-then-bad_list_fits : goal.returns-then-bad_list_fits
returns-then-bad_list_fits c =
    let is-bayer_phase = value-is _ _ _ 0 c.word_in.ensures c.in_ok-bayer_phase.was in
    let is-points = value-is _ _ _ 4 c.word_in-2.ensures c.in_ok-points.was in
    let is-rects = value-is _ _ _ 8 c.word_in-3.ensures c.in_ok-rects.was in
    bad-list-read _ _ _ c.bad_list_fits.ensures c.if-bad_list_fits.true is-bayer_phase.1 is-points.1 is-rects.1

pub returns-else-bad_list_fits : goal.returns-else-bad_list_fits
returns-else-bad_list_fits c =
    let is = value-is _ _ _ 8 c.word_in-3.ensures c.in_ok-rects.was in
    ap Err c.refuse.ensures ∙ bad-list-not _ _ _ c.bad_list_fits.ensures c.if-bad_list_fits.false is.0
