-- `u16_from` meets its contract: of four bytes the first two are a remainder. Assumes nothing.
use Rattle.num_words.proofs.Laws.{little-first}
use Rattle.num_words.proofs.u16_from.Goals as goal

pub returns-else-at-less : goal.returns-else-at-less
returns-else-at-less c = little-first _ (λ i. (c.shared_slice_known-1.given i).fits) 2 2 _ c.edge_low.ensures
