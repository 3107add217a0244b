-- `say_pgm::encode_f32` meets its contract. Assumes nothing.
use mathlib.Core.Path.{sym, ◌∙◌}
use native.Mathlib.Omega.{arith}
use Rattle.pointwise.proofs.Parts.{each-between-empty, store}
use Rattle.say_pgm.proofs.Laws.{all_done}
use Rattle.say_pgm.proofs.encode_f32.Goals as goal

pub loop-j-init : goal.loop-j-init
loop-j-init c = sym (each-between-empty 0 0 _ c.args.out.now (omega arith))

pub loop-j-preserved : goal.loop-j-preserved
loop-j-preserved c =
    let at = c.loop-j in
    store 0 _ 0 at.j _ _ _ at.invariant c.float_byte.ensures (omega arith) (omega arith)

pub returns : goal.returns
returns c = c.loop-j.invariant ∙ all_done _ _ _ c.loop-j-test.false
