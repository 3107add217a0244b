-- `Polynomial::wide` meets its contract: 65535.0 is the whole number 65535. Assumes nothing.
use mathlib.Core.Path.{◌≡◌, refl}
use lib.Ieee.{binary32, binary64, of_bits, of_int, round, units, odd, size, span, climb}
use lib.IntN.{pos}
use Rattle.row_polynomial.specs.Terms.{xOf, wide_of}
use Rattle.row_polynomial.proofs.polynomial.Polynomial.wide.Goals as goal

most : of_bits binary64 0x40ef_ffe0_0000_0000 ≡ of_int binary64 (pos 65535)
unfolding of_bits of_int round units odd size span climb
most = refl

most32 : of_bits binary32 0x477f_ff00 ≡ of_int binary32 (pos 65535)
unfolding of_bits of_int round units odd size span climb
most32 = refl

pub returns : goal.returns
unfolding xOf wide_of
returns c = cc (most, most32, c.args.self.widened)
