-- `rolbhunga::told_in_bytes` meets its contract, by the test of the work room. Assumes nothing.
use borrow.Author.Rules.{rules}
use lib.ListN.{length}
use Rattle.dng.specs.Run.{Room}
use Rattle.dng.specs.Answer.{frame_of, run_out}
use Rattle.sample.specs.Kinds.{kind_of}
use Rattle.rolbhunga.proofs.Rows.{part_length, part-fits}
use Rattle.rolbhunga.proofs.Windows.{enough, too-little}
use Rattle.rolbhunga.proofs.told_in_bytes.Goals as goal

pub slice_bounds-run_in-end-else-work-n : goal.slice_bounds-run_in-end-else-work-n
slice_bounds-run_in-end-else-work-n g c = part_length _ _ c.if-work-n.false

pub run_in-r-requires : goal.run_in-r-requires
run_in-r-requires g c = rw c.SIZE.ensures (part-fits _ _ _ (rw c.SIZE.ensures at c.if-work-n.false))

pub returns-then-work-n : goal.returns-then-work-n
returns-then-work-n g c =
    let s = g.S.InBytes in
    too-little s.SIZE s.bits g.S.Sample.none s.ZERO _ _ _ _ _ _ _ _ (rw c.SIZE.ensures at c.if-work-n.true) c.refuse.ensures c.clear.ensures

pub returns-else-work-n : goal.returns-else-work-n
returns-else-work-n g c =
    let s = g.S.InBytes in
    let k = g.S.Sample in
    let a = c.args in
    let room : Room = record { marks = length a.marks.now } in
    let kind = kind_of k.none k.to_float k.of_mean k.constant_at k.equals k.rule (frame_of a.w a.set.scale) in
    enough s.SIZE s.bits k.none s.ZERO
    (λ l. run_out kind g.S.Form.takes g.S.Form.skip a.w a.set.period a.set.preview room a.list.now l a.names.now) room
    (s.at a.bytes.now) a.bytes.now _ _ _ _ a.work.now _
    c.clear-else-work-n.new.room c.run_in-r.result c.numbers.result (rw c.SIZE.ensures at c.if-work-n.false)
    (rw c.SIZE.ensures at c.run_in-r.ensures) c.numbers.ensures
    c.clear-else-work-n.ensures (search rules)
