-- `bits_of` meets its contract: only NaN differs from itself, and its pattern is the fixed one. Assumes nothing.
use Rattle.std.proofs.Common.{sym}
use lib.Ieee.{binary32}
use Rattle.num_words.proofs.Laws.{nan-bits, own_bits}
use Rattle.num_words.proofs.bits_of.Goals as goal

pub float_to_bits-result : goal.float_to_bits-result
float_to_bits-result c = own_bits _ c.if-x.false

pub returns-then-x : goal.returns-then-x
returns-then-x c = sym (nan-bits binary32 _ c.if-x.true)
