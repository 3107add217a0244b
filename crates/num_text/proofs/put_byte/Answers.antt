-- `num_text::put_byte` meets its contract. Assumes nothing.
use borrow.Author.Rules.{rules}
use Rattle.num_text.proofs.Laws.{appended-byte}
use Rattle.num_text.proofs.put_byte.Goals as goal

pub returns : goal.returns
returns c = appended-byte _ _ _ (search rules)
