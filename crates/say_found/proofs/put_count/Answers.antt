-- `say_found::put_count` meets its contract. Assumes nothing.
use native.Mathlib.Omega.{arith}
use Rattle.say_found.proofs.Laws.{few, count-is}
use Rattle.say_found.proofs.put_count.Goals as goal

pub put_number-requires : goal.put_number-requires
put_number-requires c =
    omega (arith, c.put-a.ensures.ends, c.put-a.auto.out, few c.args.n (omega arith))

pub returns : goal.returns
returns c =
    count-is c.args.n (omega arith) c.put-a.ensures c.put_number.ensures
