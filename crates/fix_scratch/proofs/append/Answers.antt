-- `fix_scratch::append` meets its contract: what is held, and the position behind it.
-- Assumes nothing.
use Rattle.fix_scratch.proofs.Filling.{place-grown}
use Rattle.fix_scratch.proofs.append.Goals as goal

pub returns : goal.returns
returns c =
    place-grown _ _ _ _ c.args.p c.requires.front c.requires.t_in_bounds.0 c.requires.t_in_bounds.1 _ c.grown-n.ensures
