-- `fix_lone::Mark::alone` meets its contract: its own row on both sides, and the rows above and below. Assumes nothing.
use Rattle.fix_lone.proofs.Apart.{lone-mark}
use Rattle.fix_lone.proofs.Mark.alone.Goals as goal

pub returns : goal.returns
returns c = λ e.
    let m = c.args.self.now in
    lone-mark m.marks.now m.w m.period m.i c.position-q.result c.reach-far.result
    c.saturating_sub.result c.saturating_sub-first.result c.saturating_sub-last.result m.asks.0 m.asks.1
    c.position-q.ensures.0 c.reach-far.ensures.0 c.saturating_sub.ensures c.saturating_sub-first.ensures
    c.saturating_sub-last.ensures c.reach-far.ensures.1.0 (c.under.ensures c.if-not-under.false)
    (c.over.ensures c.if-not-over.false)
    (c.free.ensures c.if-not-free.false) (c.free-2.ensures e)
