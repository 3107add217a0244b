-- `num_zeros::is_zero` meets its contract. Assumes nothing.
use Rattle.std.proofs.Common.{sym, ◌∙◌}
use borrow.Author.Tests.{eqb-true}
use Rattle.num_zeros.proofs.Laws.{zeros-word}
use Rattle.num_zeros.proofs.is_zero.Goals as goal

pub returns : goal.returns
returns c = λ t. zeros-word 8 _ _ (sym c.u64_at.ensures ∙ eqb-true _ 0 t)
