-- The marks by the opcode.
use Rattle.std.proofs.Common.{ap}
use Rattle.dng.specs.Answer.{frame_of}
use Rattle.dng.specs.Repair.{positions}
use Rattle.sample.specs.Kinds.{kind_of}
use Rattle.fix_repair.proofs.Gathering.{marks-constant, marks-list, marks-none}
use Rattle.fix_repair.proofs.gather.Goals as goal

pub returns-in-FixBadPixelsConstant : goal.returns-in-FixBadPixelsConstant
returns-in-FixBadPixelsConstant g c =
    let a = c.args in
    let s = g.S.Sample in
    marks-constant s.none a.w (kind_of s.none s.to_float s.of_mean s.constant_at s.equals s.rule (frame_of a.w a.scale)).is_bad
    a.op a.body.now a.samples.now (positions a.w) a.marks.now _ _ _ (s.equals c.constant.result) c.constant_marks.result
    c.in-FixBadPixelsConstant.is (ap s.equals c.constant.ensures) c.constant_marks.ensures

pub returns-in-FixBadPixelsList : goal.returns-in-FixBadPixelsList
returns-in-FixBadPixelsList g c =
    let a = c.args in
    let s = g.S.Sample in
    marks-list s.none a.w (kind_of s.none s.to_float s.of_mean s.constant_at s.equals s.rule (frame_of a.w a.scale)).is_bad
    a.op a.body.now a.samples.now (positions a.w) a.marks.now _ _ _ _ c.list_marks.result c.in-FixBadPixelsList.is c.list_marks.ensures

pub returns-in_default : goal.returns-in_default
returns-in_default g c =
    let a = c.args in
    let s = g.S.Sample in
    marks-none s.none a.w (kind_of s.none s.to_float s.of_mean s.constant_at s.equals s.rule (frame_of a.w a.scale)).is_bad
    a.op a.body.now a.samples.now (positions a.w) a.marks.now a.marks.now c.in_default.not-FixBadPixelsConstant
    c.in_default.not-FixBadPixelsList
