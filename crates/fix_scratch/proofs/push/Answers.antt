-- `fix_scratch::push` meets its contract: after a compaction, or behind what is held.
-- Assumes nothing.
use mathlib.Core.Bool.{false}
use mathlib.Core.Path.{refl}
use Rattle.fix_scratch.proofs.Joining.{joined-next, gains-packed}
use Rattle.fix_scratch.proofs.push.Goals as goal

pub returns-then-due : goal.returns-then-due
returns-then-due c =
    let small = c.compact-k in
    joined-next _ (λ q. false) _ _ _ _ _ _ _ _ c.place.result (gains-packed _ _ _ _ _ small.ensures)
    small.auto.s (λ q l. refl)
    c.place.ensures
