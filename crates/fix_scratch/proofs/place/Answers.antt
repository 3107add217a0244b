-- `fix_scratch::place` meets its contract: the position is there, or there is room, or it is one too many.
-- Assumes nothing.
use mathlib.Core.Path.{refl, sym, ◌∙◌}
use native.Mathlib.Omega.{arith}
use Rattle.fix_scratch.proofs.Filling.{place-full}
use Rattle.fix_scratch.proofs.place.Goals as goal

pub returns : goal.returns
returns c =
    place-full _ _ _ _ c.args.p c.requires.front refl (omega arith) c.requires.p_lt_top
    (sym (c.find.ensures c.requires.front.fits c.requires.front.rises) ∙ c.if-find.false)
