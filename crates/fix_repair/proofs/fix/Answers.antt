-- The marks, then the repair; and what is answered is what the run's definition has.
use Rattle.std.proofs.Common.{◌≡◌, sym, true, length}
use Rattle.dng.specs.Answer.{frame_of}
use Rattle.dng.specs.Repair.{complete}
use Rattle.sample.specs.Kinds.{kind_of}
use Rattle.fix_repair.proofs.Windows.{ranges-of, fits-of}
use Rattle.fix_repair.proofs.Gathering.{fix_none, fix-marks, fix-asks, fix-settled}
use Rattle.fix_repair.proofs.fix.Goals as goal

pub full-requires : goal.full-requires
full-requires g c = (ranges-of c.args.w c.args.period c.requires).0

pub returns-then-not-full : goal.returns-then-not-full
returns-then-not-full g c =
    let a = c.args in
    let s = g.S.Sample in
    rw (c.default.ensures.0, c.default.ensures.1)
    (fix_none (kind_of s.none s.to_float s.of_mean s.constant_at s.equals s.rule (frame_of a.w a.scale)) a.w a.period a.op a.body.now
    a.samples.now a.marks.now (sym c.if-not-full.ensures))

pub gather-requires : goal.gather-requires
gather-requires g c =
    let ranges = (ranges-of c.args.w c.args.period c.requires).0 in
    record { fits = fits-of c.args.w (length c.args.samples.now) ranges (sym c.if-not-full.ensures); full = sym c.if-not-full.ensures }

pub returns-in_err-n : goal.returns-in_err-n
returns-in_err-n g c =
    let a = c.args in
    let s = g.S.Sample in
    rw c.from_residual.ensures
    (fix-marks (kind_of s.none s.to_float s.of_mean s.constant_at s.equals s.rule (frame_of a.w a.scale)) a.w a.period a.op a.body.now
    a.samples.now a.marks.now (sym c.if-not-full.ensures) c.in_err-n.ensures)

pub settle-requires : goal.settle-requires
settle-requires g c =
    let a = c.args in
    let s = g.S.Sample in
    let ranges = ranges-of a.w a.period c.requires in
    let whole : complete a.w (length a.samples.now) ≡ true = sym c.if-not-full.ensures in (
      fix-asks (kind_of s.none s.to_float s.of_mean s.constant_at s.equals s.rule (frame_of a.w a.scale)) a.w a.period a.op a.body.now
          a.samples.now a.marks.now whole c.gather.new.marks c.in_ok-n.n c.in_ok-n.ensures c.step_of.result
          (fits-of a.w (length a.samples.now) ranges.0 whole) ranges.1 c.step_of.ensures,
      whole,
    )

pub returns : goal.returns
returns g c =
    let a = c.args in
    let s = g.S.Sample in
    fix-settled (kind_of s.none s.to_float s.of_mean s.constant_at s.equals s.rule (frame_of a.w a.scale)) a.w a.period a.op a.body.now
    a.samples.now a.marks.now (sym c.if-not-full.ensures) c.gather.new.marks c.in_ok-n.n c.in_ok-n.ensures c.step_of.result
    c.settle.new.samples c.settle.result c.step_of.ensures c.gather.auto.marks c.settle.ensures.0 c.settle.ensures.1
