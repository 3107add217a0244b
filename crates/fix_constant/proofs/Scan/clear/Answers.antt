-- Of one plane, the samples of the part are tested at once.
use Rattle.std.proofs.Common.{refl, arith}
use borrow.Author.Tests.{not-true}
use Rattle.fix_constant.proofs.Scanning.{part_in, part-clear}
use Rattle.fix_constant.proofs.Scan.clear.Goals as goal

pub slice_bounds-any-end : goal.slice_bounds-any-end
slice_bounds-any-end g c =
    let s = c.args.self.now in
    part_in g.S.Sample.none s.w (λ v. g.S.PartialEq.eq v s.k) s.samples.now c.args.y c.args.from c.args.end c.tested-at.result _
    s.whole c.requires.0 c.requires.1 c.if-self-eq1.true c.tested-at.ensures refl

pub offset_bounds-self-at : goal.offset_bounds-self-at
offset_bounds-self-at g c = omega (arith, slice_bounds-any-end g c)

pub returns-then-self-eq1 : goal.returns-then-self-eq1
returns-then-self-eq1 g c = λ e.
    let s = c.args.self.now in
    part-clear g.S.Sample.none s.w (λ v. g.S.PartialEq.eq v s.k) s.samples.now c.args.y c.args.from c.args.end c.tested-at.result _
    s.whole c.requires.0 c.requires.1 c.if-self-eq1.true c.tested-at.ensures refl (c.any.ensures (not-true c.any.result e))
