-- `fix_near::eight` meets its contract: the walk over the steps, where each leads to a sound neighbour. Assumes nothing.
use mathlib.Core.Path.{refl}
use native.Mathlib.Omega.{arith}
use Rattle.fix_near.proofs.Walking.{walk-free, walk_end, step-one, step-inside}
use Rattle.fix_near.proofs.eight.Goals as goal

pub place-requires : goal.place-requires
place-requires c =
    let a = c.args in
    let to = c.stepped-to in
    let inside = step-inside a.w a.period a.from.x a.from.y c.requires.1.1 c.steps-s-items.result c.loop-s.s-index c.steps-s-items.ensures (omega arith) to.ensures.0 to.ensures.1 in
    let fits = c.requires.0 in
    (record { fits = fits; column = inside.0; row = inside.1 }, fits.some)

pub loop-s-preserved : goal.loop-s-preserved
loop-s-preserved c =
    let a = c.args in
    let to = c.stepped-to in
    let inside = step-inside a.w a.period a.from.x a.from.y c.requires.1.1 c.steps-s-items.result c.loop-s.s-index c.steps-s-items.ensures (omega arith) to.ensures.0 to.ensures.1 in
    rw c.push.ensures
    (walk-free c.loop-s.invariant c.steps-s-items.result c.steps-s-items.ensures (omega arith) refl to.ensures.0 to.ensures.1 inside c.place.ensures)

pub stepped-to-requires : goal.stepped-to-requires
stepped-to-requires c =
    let p = c.requires in (
      step-one c.steps-s-items.result c.loop-s.s-index c.steps-s-items.ensures (omega arith),
      (p.1.0, (omega (arith, p.1.1.right, p.0.width), omega (arith, p.1.1.down, p.0.height))),
    )

pub returns : goal.returns
returns c = walk_end c.loop-s.invariant (omega arith)
