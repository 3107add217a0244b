-- `fix_scratch::settle` meets its contract: the position comes behind what is left there, or where all that is held has been joined. The count that
-- stands in the last entry is behind all that is held.
-- Assumes nothing.
use mathlib.Core.Bool.{false}
use mathlib.Core.Path.{refl, ◌∙◌}
use native.Mathlib.Omega.{arith}
use Rattle.fix_scratch.proofs.Filling.{tidied-runs, tidied-packed}
use Rattle.fix_scratch.proofs.Joining.{joined-next, gains-from, gains-kept, gains-packed}
use Rattle.fix_scratch.proofs.settle.Goals as goal

pub join-k-requires : goal.join-k-requires
join-k-requires c =
    let tidy = c.tidy-m in
    let overdue = c.overdue-late in
    let pre = c.requires in
    tidied-runs _ _ _ _ _ _ tidy.ensures (omega (arith, tidy.ensures.within, tidy.auto.s, overdue.auto.s, pre.front.fits, pre.t_in_bounds.1))

pub returns : goal.returns
returns c =
    let place = c.place in
    let restart = c.restart in
    let join = c.join-k in
    let tidy = c.tidy-m in
    let overdue = c.overdue-late in
    joined-next _ (λ q. false) _ _ _ _ _ _ _ _ place.result
    (gains-from _ _ _ _ _ _ _ _ overdue.ensures
    (gains-kept _ _ _ _ _ _ _ _ (gains-packed _ _ _ _ _ (tidied-packed _ _ _ _ _ _ tidy.ensures _ _ join.ensures join.auto.s))
    restart.ensures restart.auto.s))
    (restart.auto.s ∙ (join.auto.s ∙ (tidy.auto.s ∙ overdue.auto.s)))
    (λ q l. refl)
    place.ensures
