-- `fix_near::sound_at` meets its contract: inside the window, and not found among the marks. Assumes nothing.
use mathlib.Core.Path.{sym, ap, ◌∙◌}
use Rattle.num_sorted.specs.Sorts.{has}
use Rattle.fix_near.proofs.Walking.{open-right, open-below, open-marked, open-sound}
use Rattle.fix_near.proofs.sound_at.Goals as goal
use Rattle.fix_near.proofs.sound_at.Goals.{then-w-to-via-then-w-to, then-w-to-via-else-w-to+then-w-to-2}

pub returns-then-w-to : goal.returns-then-w-to
returns-then-w-to c =
    let bad = has c.args.marks.now in
    elim c.then-w-to.branch [
      | then-w-to-via-then-w-to w ↦ open-right c.args.w.width c.args.w.height bad c.args.to.x c.args.to.y w.if-w-to.true
      | then-w-to-via-else-w-to+then-w-to-2 w ↦ open-below c.args.w.width c.args.w.height bad c.args.to.x c.args.to.y w.if-w-to.false w.if-w-to-2.true
    ]

pub returns-then-seek : goal.returns-then-seek
returns-then-seek c =
    let bad = has c.args.marks.now in
    open-marked c.args.w.width c.args.w.height bad c.args.to.x c.args.to.y c.if-w-to.false c.if-w-to-2.false
    (ap bad (sym c.position-q.ensures) ∙ sym c.seek.ensures ∙ c.if-seek.true)

pub returns-else-seek : goal.returns-else-seek
returns-else-seek c =
    let bad = has c.args.marks.now in
    open-sound c.args.w.width c.args.w.height bad c.args.to.x c.args.to.y c.if-w-to.false c.if-w-to-2.false
    (ap bad (sym c.position-q.ensures) ∙ sym c.seek.ensures ∙ c.if-seek.false)
