-- `run_window::attempt` meets its contract, by the plan: everything as it was, or all opcodes and then the names. Assumes nothing.
use Rattle.dng.specs.Answer.{frame_of}
use Rattle.dng.specs.Run.{Kind}
use Rattle.sample.specs.Kinds.{kind_of}
use Rattle.run_window.proofs.Laws.{told, refused, goes, stopped, ended}
use Rattle.run_window.proofs.attempt.Goals as goal

pub perform-requires : goal.perform-requires
perform-requires g c =
    let s = g.S.Sample in
    goes (kind_of s.none s.to_float s.of_mean s.constant_at s.equals s.rule (frame_of c.args.w c.args.set.scale)) _ _ _ _ _
    (record { marks = 0 }) _ c.args.samples.now c.args.names.now c.settle.ensures c.in_ok-n.was

pub returns-in_err-n : goal.returns-in_err-n
returns-in_err-n g c = refused _ _ _ _ _ _ _ _ _ _ c.settle.ensures c.in_err-n.was (told _ c.from_residual.ensures.1)

-- 5
pub returns-in_err-t : goal.returns-in_err-t
returns-in_err-t g c =
    stopped _ _ _ _ _ _ _ _ _ _ c.settle.ensures c.in_ok-n.was c.perform.new.samples c.perform.ensures c.in_err-t.was
    (told _ c.from_residual-in_err-t.ensures.1)

pub returns : goal.returns
returns g c =
    ended _ _ _ _ _ _ _ _ _ _ c.settle.ensures c.in_ok-n.was c.perform.new.samples c.perform.ensures c.in_ok-t.was c.write_names.ensures
