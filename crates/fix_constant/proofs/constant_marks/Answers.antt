-- Where no sample equals the constant, no position is marked.
use Rattle.fix_constant.proofs.Places.{bad-never}
use Rattle.fix_constant.proofs.Scanning.{hold-none}
use Rattle.fix_constant.proofs.constant_marks.Goals as goal

pub returns-in-None : goal.returns-in-None
returns-in-None g c =
    hold-none _ _ c.args.marks.now
    (bad-never g.S.Sample.none c.args.w (g.S.Sample.equals c.args.c) c.args.samples.now c.requires.fits c.requires.full c.in-None.ensures)
