-- `f32_from` meets its contract: the float of the word that was read. Assumes nothing.
use Rattle.std.proofs.Common.{ap, ◌∙◌}
use lib.Ieee.{binary32, of_bits}
use Rattle.num_words.proofs.f32_from.Goals as goal

pub returns : goal.returns
returns c = c.f32_of.ensures ∙ ap (of_bits binary32) c.u32_from.ensures
