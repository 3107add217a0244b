-- `say_pgm::put_after` meets its contract. Assumes nothing.
use native.Mathlib.Omega.{arith}
use Rattle.num_text.proofs.Laws.{appended_then}
use Rattle.say_pgm.proofs.Laws.{few}
use Rattle.say_pgm.proofs.put_after.Goals as goal

pub put_number-requires : goal.put_number-requires
put_number-requires c =
    omega (arith, c.put-end.ensures.ends, c.put-end.auto.out, few c.args.n (omega arith))

pub returns : goal.returns
returns c =
    record {
      appended = appended_then c.put-end.ensures c.put_number.ensures;
      short =
          omega (arith, c.put_number.ensures.ends, c.put-end.ensures.ends, few c.args.n (omega arith));
    }
