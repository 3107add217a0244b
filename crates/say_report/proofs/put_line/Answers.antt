-- `say_report::put_line` meets its contract. Assumes nothing.
use native.Mathlib.Omega.{arith}
use Rattle.say_report.proofs.Laws.{few, line-is}
use Rattle.say_report.proofs.put_line.Goals as goal

pub put_number-b-requires : goal.put_number-b-requires
put_number-b-requires c =
    omega (arith, c.put-a.ensures.ends, c.put-a.auto.out, few c.args.n (omega arith))

pub put_byte-requires : goal.put_byte-requires
put_byte-requires c =
    omega (
      arith,
      c.put_number-b.ensures.ends,
      c.put_number-b.auto.out,
      c.put-a.ensures.ends,
      c.put-a.auto.out,
      few c.args.n (omega arith),
    )

pub returns : goal.returns
returns c =
    line-is c.args.n (omega arith) c.put-a.ensures c.put_number-b.ensures c.put_byte.ensures
