-- `fix_listed::List::all_points` meets its contract: after each turn the first i points are held.
-- Assumes nothing.
use native.Mathlib.Omega.{arith}
use Rattle.fix_listed.proofs.Listing.{any_none, any-more, any-low, any_at, front-none}
use Rattle.fix_scratch.proofs.Joining.{steps-start, steps_next, steps-full}
use Rattle.fix_listed.specs.Listed.{at_point}
use Rattle.fix_listed.proofs.List.all_points.Goals as goal

pub loop-i-preserved : goal.loop-i-preserved
loop-i-preserved c =
    let one = c.point in
    let in-loop = c.loop-i in
    steps_next _ _ _ _ _ _ _ in-loop.invariant _ _ _ c.in_ok-k.ensures one.auto.s
    (λ q l. any-more in-loop.i (λ i. at_point c.args.self.now.across c.args.self.now.w c.args.self.now.body.now i q))

pub loop-i-init : goal.loop-i-init
loop-i-init c = steps-start _ _ _ _ _ (front-none _ _) (λ q. any_none _)

pub returns-in_err-k : goal.returns-in_err-k
returns-in_err-k c =
    let in-loop = c.loop-i in
    let less = c.loop-i-test.true in
    rw c.from_residual.ensures (steps-full _ _ _ _ _ _ _ in-loop.invariant _ _ c.in_err-k.ensures
    (λ q l. any-low in-loop.i c.args.self.now.points (λ i. at_point c.args.self.now.across c.args.self.now.w c.args.self.now.body.now i q) (omega (arith, less)))
    (λ q l. any_at in-loop.i c.args.self.now.points (λ i. at_point c.args.self.now.across c.args.self.now.w c.args.self.now.body.now i q) less))
