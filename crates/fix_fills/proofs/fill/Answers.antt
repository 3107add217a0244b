-- The marks before i are repaired, one after another.
use Rattle.std.proofs.Common.{rules, ◌∙◌, get_or}
use Rattle.num_sorted.specs.Sorts.{has}
use Rattle.fix_fills.proofs.Lying.{mark-finds, mark-pixel, spot-first}
use Rattle.fix_fills.proofs.Passing.{pass-start, pass-no, pass-asks, pass-yes, pass-end}
use Rattle.fix_fills.proofs.fill.Goals.{then-not-is_empty, else-not-is_empty}
use Rattle.fix_fills.proofs.fill.Goals as goal

pub loop-i-init : goal.loop-i-init
loop-i-init g c = let s = g.S.Sample in pass-start s.none s.to_float s.of_mean _ _ _ _

pub spot_of-spot-requires : goal.spot_of-spot-requires
spot_of-spot-requires g c =
    let a = c.args in
    mark-finds a.marks.now a.w a.step c.requires.0 c.loop-i.i c.loop-i-test.true a.m c.requires.1.1

pub place-from-requires : goal.place-from-requires
place-from-requires g c =
    let a = c.args in
    mark-pixel a.marks.now a.w a.step c.requires.0 c.loop-i.i c.loop-i-test.true
    c.spot_of-spot.result.x c.spot_of-spot.result.y c.spot_of-spot.ensures

pub pixel-requires : goal.pixel-requires
pixel-requires g c =
    let a = c.args in
    let l = c.loop-i in
    let s = g.S.Sample in
    pass-asks s.none s.to_float s.of_mean a.w a.step a.marks.now a.samples.now c.requires.0 l.samples l.done l.i l.invariant c.loop-i-test.true
    _ (c.as_slice-at.ensures ∙ c.near_mark-near.ensures) c.place-from.result
    (spot-first a.w a.step (has a.marks.now) (get_or a.marks.now l.i 0) c.spot_of-spot.result.x c.spot_of-spot.result.y c.spot_of-spot.ensures
    c.place-from.result c.place-from.ensures)
    c.requires.1.0

pub loop-i-preserved : goal.loop-i-preserved
loop-i-preserved g c =
    let a = c.args in
    let l = c.loop-i in
    let s = g.S.Sample in
    let near = c.as_slice-at.ensures ∙ c.near_mark-near.ensures in
    elim c.if-not-is_empty.branch [
      | then-not-is_empty w ↦
          rw (w.samples-is, w.done-is)
          (pass-yes s.none s.to_float s.of_mean a.w a.step a.marks.now a.samples.now c.requires.0 l.samples l.done l.i l.invariant c.loop-i-test.true
          _ near w.place-from.result
          (spot-first a.w a.step (has a.marks.now) (get_or a.marks.now l.i 0) c.spot_of-spot.result.x c.spot_of-spot.result.y
          c.spot_of-spot.ensures w.place-from.result w.place-from.ensures)
          (search rules) w.pixel.new.samples w.pixel.ensures)
      | else-not-is_empty w ↦
          rw (w.samples-is, w.done-is)
          (pass-no s.none s.to_float s.of_mean a.w a.step a.marks.now a.samples.now c.requires.0 l.samples l.done l.i l.invariant c.loop-i-test.true
          _ near (search rules))
    ]

pub returns : goal.returns
returns g c =
    let l = c.loop-i in
    let s = g.S.Sample in
    pass-end s.none s.to_float s.of_mean c.args.w c.args.step c.args.marks.now c.args.samples.now l.samples l.done l.i l.invariant
    c.loop-i-test.false c.requires.0.fits.some
