-- `num_text::put_number` meets its contract: the digits of a tenth, and the last one behind them. Assumes nothing.
use Rattle.std.proofs.Common.{arith}
use Rattle.num_text.proofs.Digits.{length-one, length_more, number-one, number_more}
use Rattle.num_text.proofs.+put_number.Goals as goal

pub put_byte-requires : goal.put_byte-requires
put_byte-requires t c = omega (arith, length-one c.args.n (omega arith))

pub put_number-end-requires : goal.put_number-end-requires
put_number-end-requires t c = (omega arith, omega (arith, length_more c.args.n (omega arith)))

pub put_byte-requires-else-n-lt10 : goal.put_byte-requires-else-n-lt10
put_byte-requires-else-n-lt10 t c =
    omega (arith, c.put_number-end.auto.out, c.put_number-end.ensures.ends, length_more c.args.n (omega arith))

pub returns-then-n-lt10 : goal.returns-then-n-lt10
returns-then-n-lt10 t c = number-one c.args.n (omega arith) c.digit.ensures c.put_byte.ensures

pub returns-else-n-lt10 : goal.returns-else-n-lt10
returns-else-n-lt10 t c = number_more c.args.n (omega arith) c.put_number-end.ensures c.digit-else-n-lt10.ensures c.put_byte-else-n-lt10.ensures
