-- `rolbhunga::run_in` meets its contract: decoded, run, and put back where the run came to the samples. Assumes nothing.
use lib.ListN.{length}
use Rattle.dng.specs.Run.{Room}
use Rattle.dng.specs.Answer.{frame_of, run_out}
use Rattle.sample.specs.Kinds.{kind_of}
use Rattle.rolbhunga.proofs.Windows.{left}
use Rattle.rolbhunga.proofs.run_in.Goals as goal

pub returns : goal.returns
returns g c =
    let s = g.S.Sample in
    let room : Room = record { marks = length c.args.marks.now } in
    left g.S.InBytes.SIZE g.S.InBytes.bits s.none
    (λ l. run_out (kind_of s.none s.to_float s.of_mean s.constant_at s.equals s.rule (frame_of c.args.w c.args.set.scale))
    g.S.Form.takes g.S.Form.skip c.args.w c.args.set.period c.args.set.preview room c.args.list.now l c.args.names.now)
    room (g.S.InBytes.at c.args.bytes.now) c.args.bytes.now _ _ _ c.args.room.now _ _
    c.run-r.result c.is_reached.result c.decode.ensures c.run-r.ensures c.is_reached.ensures c.put.ensures
