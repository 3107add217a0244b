-- `put_byte` meets its contract: past the end nothing changes. Assumes nothing.
use Rattle.std.proofs.Common.{sym}
use lib.Seq.{set_out}
use Rattle.num_words.proofs.put_byte.Goals as goal

pub returns-else-at-s : goal.returns-else-at-s
returns-else-at-s c = sym (set_out _ _ _ c.if-at-s.false)
