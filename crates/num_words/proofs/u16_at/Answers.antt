-- `u16_at` meets its contract: of eight bytes the first two are a quotient. Assumes nothing.
use Rattle.num_words.proofs.Laws.{first}
use Rattle.num_words.proofs.u16_at.Goals as goal

pub returns-else-at-less : goal.returns-else-at-less
returns-else-at-less c = first _ (λ i. (c.shared_slice_known-1.given i).fits) 2 6 _ c.edge.ensures
