-- `put_f32` meets its contract: the bits of the float are put. Assumes nothing.
use Rattle.std.proofs.Common.{ap, ◌∙◌}
use Rattle.num_words.specs.Words.{put}
use Rattle.num_words.proofs.put_f32.Goals as goal

pub returns : goal.returns
returns c = c.put_u32.ensures ∙ ap (put 4 _ _) c.bits_of.ensures
