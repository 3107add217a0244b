-- `fix_scratch::one` meets its contract: the position is in the front, or it is pushed.
-- Assumes nothing.
use mathlib.Core.Path.{sym, ◌∙◌}
use native.Mathlib.Omega.{arith}
use Rattle.fix_scratch.proofs.Filling.{place-there}
use Rattle.fix_scratch.proofs.one.Goals as goal

pub returns-then-find : goal.returns-then-find
returns-then-find c =
    place-there _ _ _ _ c.args.p c.requires.front (sym (c.find.ensures (omega (arith, c.requires.front.order, c.requires.front.fits)) c.requires.front.rises)
    ∙ c.if-find.true)
