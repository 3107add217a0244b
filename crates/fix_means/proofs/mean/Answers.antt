-- The sum, value by value.
use Rattle.fix_means.proofs.Sums.{summed-read, summed-mean}
use Rattle.fix_means.proofs.mean.Goals as goal

pub loop-a-preserved : goal.loop-a-preserved
loop-a-preserved g c =
    summed-read g.S.Sample.none c.index-samples-a.result g.S.Sample.to_float c.args.samples.now c.args.at.now c.args.plane _ _ _
    c.loop-a.invariant c.loop-a-test.true c.requires c.index-samples-a.is c.to_f32-sum.ensures

pub returns : goal.returns
returns g c = summed-mean _ c.args.at.now _ _ c.loop-a.invariant c.divided.result c.loop-a-test.false c.divided.ensures
