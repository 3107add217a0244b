-- `run_opcodes::perform` meets its contract. The loop's invariant: the opcodes that are left, performed on the samples as they stand, with the
-- totals so far, are all of them performed on the samples as they came. Assumes nothing.
use Rattle.std.proofs.Common.{length}
use Rattle.dng.specs.Answer.{frame_of}
use Rattle.sample.specs.Kinds.{kind_of}
use Rattle.run_opcodes.proofs.Laws.{Doing}
use Rattle.run_opcodes.proofs.perform.Given as goal

abbrev pub invariant-loop-k : goal.invariant-loop-k
invariant-loop-k g l =
    let s = g.S.Sample in
    Doing (kind_of s.none s.to_float s.of_mean s.constant_at s.equals s.rule (frame_of l.w l.set.scale)) l.w l.set.period
    (record { marks = length l.initial.marks }) l.set.preview l.list l.initial.samples l.n l.k l.c l.samples l.repaired l.left
