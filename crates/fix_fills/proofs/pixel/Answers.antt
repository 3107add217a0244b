-- The planes before k are written, and none of them is read.
use Rattle.fix_fills.proofs.Planes.{planes-start, planes-reads, planes-next}
use Rattle.fix_fills.proofs.pixel.Goals as goal

pub loop-k-init : goal.loop-k-init
loop-k-init g c = let s = g.S.Sample in planes-start s.none s.to_float s.of_mean _ _ _ _

pub mean-requires : goal.mean-requires
mean-requires g c =
    let s = g.S.Sample in
    planes-reads s.none s.to_float s.of_mean c.args.at.now c.args.planes c.args.from c.args.samples.now c.loop-k.samples c.loop-k.k
    c.loop-k.invariant c.loop-k-test.true c.requires.0

pub loop-k-preserved : goal.loop-k-preserved
loop-k-preserved g c =
    let s = g.S.Sample in
    planes-next s.none s.to_float s.of_mean c.args.at.now c.args.planes c.args.from c.args.samples.now c.loop-k.samples c.loop-k.k
    c.loop-k.invariant c.loop-k-test.true c.requires.0 c.requires.1.1 c.mean.result c.from_mean.result c.requires.1.0
    c.mean.ensures c.from_mean.ensures
