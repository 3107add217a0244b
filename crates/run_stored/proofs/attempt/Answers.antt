-- `run_stored::attempt` meets its contract. Assumes nothing.
use lib.ListN.{length}
use Rattle.run_stored.proofs.Laws.{by_wide, by-neither, by_whole}
use Rattle.run_stored.proofs.attempt.Goals as goal

pub returns-then-n-wide : goal.returns-then-n-wide
returns-then-n-wide c =
    by_wide c.args.w c.args.period (length c.args.wide.now) c.args.preview (record { marks = length c.args.marks.now }) c.args.list.now c.args.samples.now
    c.args.names.now
    c.run-a.ensures c.is_not_taken.ensures c.if-is_not_taken.true c.if-n-wide.true c.run_wide-r.ensures

pub returns-else-n-wide : goal.returns-else-n-wide
returns-else-n-wide c =
    by-neither c.args.w c.args.period (length c.args.wide.now) c.args.preview (record { marks = length c.args.marks.now }) c.args.list.now c.args.samples.now
    c.args.names.now
    c.run-a.ensures c.is_not_taken.ensures c.if-is_not_taken.true c.if-n-wide.false

pub returns-else-is_not_taken : goal.returns-else-is_not_taken
returns-else-is_not_taken c =
    by_whole c.args.w c.args.period (length c.args.wide.now) c.args.preview (record { marks = length c.args.marks.now }) c.args.list.now c.args.samples.now
    c.args.names.now
    c.run-a.ensures c.is_not_taken.ensures c.if-is_not_taken.false
