-- `fix_near::around` meets its contract: the walk over the steps. Assumes nothing.
use native.Mathlib.Omega.{arith}
use Rattle.num_sorted.specs.Sorts.{has}
use Rattle.fix_near.proofs.Walking.{walk_at, walk-missing, walk_end, step_on, step-one, step_in}
use Rattle.fix_near.proofs.around.Goals as goal
use Rattle.fix_near.proofs.around.Goals.{in-Some, in_default}

pub beside-requires : goal.beside-requires
beside-requires c =
    let p = c.requires in (
      p,
      (
        step-one c.steps-all.result c.loop-i.i c.steps-all.ensures (omega arith),
        (p.far, (omega (arith, p.column, p.fits.width), omega (arith, p.row, p.fits.height))),
      ),
    )

pub place-requires : goal.place-requires
place-requires c =
    let a = c.args in
    let h = step_in a.w a.period (has a.marks.now) a.from.x a.from.y (step_on c.steps-all.result c.loop-i.i) c.in-Some.ensures in
    let p = c.requires in
    (record { fits = p.fits; column = h.0; row = h.1 }, omega (arith, p.fits.some))

pub loop-i-preserved : goal.loop-i-preserved
loop-i-preserved c =
    elim c.match-beside.branch [
      | in-Some w ↦ rw (w.near-is, w.push.ensures)
          (walk_at c.loop-i.invariant c.steps-all.result c.steps-all.ensures (omega arith) w.in-Some.ensures w.place.ensures)
      | in_default w ↦ rw w.near-is (walk-missing c.loop-i.invariant c.steps-all.result c.steps-all.ensures (omega arith) w.in_default.ensures)
    ]

pub returns : goal.returns
returns c = walk_end c.loop-i.invariant (omega arith)
