-- `fix_scratch::tidy` meets its contract: the front stays, and what stands behind it comes out packed.
-- Assumes nothing.
use Rattle.fix_scratch.proofs.Filling.{tidied}
use Rattle.fix_scratch.proofs.tidy.Goals as goal

pub returns : goal.returns
returns c =
    let pack = c.pack in
    tidied _ c.args.s.now c.args.held.n c.args.held.t pack.new.s pack.result c.requires pack.ensures pack.auto.s
