-- `f64_at` meets its contract: the float of the word that was read. Assumes nothing.
use Rattle.std.proofs.Common.{ap, ◌∙◌}
use lib.Ieee.{binary64, of_bits}
use Rattle.num_words.proofs.f64_at.Goals as goal

pub returns : goal.returns
returns c = c.f64_of.ensures ∙ ap (of_bits binary64) c.u64_at.ensures
