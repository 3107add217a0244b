-- Each column is read and kept, passed over, or one too many.
use Rattle.std.proofs.Common.{rules, ◌≡◌, Bool, ◌+◌, ◌*◌, get_or}
use Rattle.fix_constant.specs.Parts.{same}
use Rattle.fix_constant.proofs.Places.{part_read, same-read}
use Rattle.fix_constant.proofs.Scanning.{scan-past, scan-more, scan-full}
use Rattle.fix_constant.proofs.Scan.part.Goals.{then-eq+in_ok-held, else-eq}
use Rattle.fix_constant.proofs.Scan.part.Goals as goal

pub bounds-self-tested : goal.bounds-self-tested
bounds-self-tested g c =
    let s = c.args.self.now in
    part_read s.w s.samples.now c.args.y c.args.from c.args.end c.loop-x.x c.tested.result s.whole c.requires.0 c.loop-x-test.true c.tested.ensures

pub offset_bounds-self-tested : goal.offset_bounds-self-tested
offset_bounds-self-tested g c = let h = bounds-self-tested g c in search rules

pub returns-in_err-held : goal.returns-in_err-held
returns-in_err-held g c =
    let s = c.args.self.now in
    rw c.from_residual.ensures
    (scan-full c.loop-x.invariant c.loop-x-test.true
    (same-read s.w s.samples.now c.args.y c.args.from c.args.end c.loop-x.x c.tested.result s.whole c.requires.0 c.loop-x-test.true
    c.tested.ensures g.S.Sample.none c.index-self-tested.result g.S.PartialEq.eq s.k _ c.if-eq.ensures)
    c.in_err-held.ensures)

pub loop-x-preserved : goal.loop-x-preserved
loop-x-preserved g c =
    let s = c.args.self.now in
    let seen : (b : Bool) → b ≡ g.S.PartialEq.eq (get_or s.samples.now c.tested.result c.index-self-tested.result) s.k
    → same g.S.Sample.none g.S.PartialEq.eq s.w s.k s.samples.now (c.args.y * s.w.width + c.loop-x.x) ≡ b =
    same-read s.w s.samples.now c.args.y c.args.from c.args.end c.loop-x.x c.tested.result s.whole c.requires.0 c.loop-x-test.true
    c.tested.ensures g.S.Sample.none c.index-self-tested.result g.S.PartialEq.eq s.k in
    elim c.if-eq.branch [
      | then-eq+in_ok-held w ↦
          rw (w.marks-is, w.held-is)
          (scan-more c.loop-x.invariant c.loop-x-test.true (seen _ w.if-eq.ensures) w.position.ensures w.in_ok-held.ensures)
      | else-eq w ↦ rw (w.marks-is, w.held-is) (scan-past c.loop-x.invariant c.loop-x-test.true (seen _ w.if-eq.ensures))
    ]
