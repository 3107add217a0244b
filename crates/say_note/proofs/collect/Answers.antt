-- `say_note::collect` meets its contract, by the loop's invariant. Assumes nothing.
use mathlib.Core.Path.{ap}
use native.Mathlib.Omega.{arith}
use Rattle.num_text.proofs.Partly.{partly-start, partly_more, partly-end}
use Rattle.dng.specs.Run.{class_of, name_of, names_of}
use Rattle.list_read.proofs.Fold.{begin, item, stop, end, count-bound}
use Rattle.say_note.specs.Parts.{part_of}
use Rattle.say_note.proofs.Parts.{one_name, names_more, names-none}
use Rattle.say_note.proofs.collect.Goals as goal

pub loop-k-init : goal.loop-k-init
loop-k-init c = (omega arith, partly-start _ 0 (ap (names_of (part_of c.args.part)) (begin _ c.count-n.ensures)))

pub keep-j-requires : goal.keep-j-requires
keep-j-requires c = omega (arith, c.count-n.ensures, c.requires, count-bound c.args.list.now)

pub loop-k-preserved : goal.loop-k-preserved
loop-k-preserved c =
    let a = c.args in
    let k = c.keep-j in (
      omega (arith, k.ensures.ends, one_name (part_of a.part (class_of c.in-Ok.s.op)) (name_of c.in-Ok.s.op)),
      partly_more
          (names_more (part_of a.part)
          (item _ _ _ _ c.loop-k-test.true c.step.ensures c.in-Ok.is))
          c.loop-k.invariant.1 k.ensures,
    )

pub returns-in_default : goal.returns-in_default
returns-in_default c =
    partly-end (names-none (part_of c.args.part)
    (stop _ _ _ _ c.loop-k-test.true c.step.ensures c.in_default.is))
    c.loop-k.invariant.1

pub returns : goal.returns
returns c =
    partly-end (names-none (part_of c.args.part)
    (end c.args.list.now c.count-n.result c.loop-k.k c.loop-k.c c.loop-k-test.false))
    c.loop-k.invariant.1
