-- `num_zeros::is_blank` meets its contract. Assumes nothing.
use Rattle.num_zeros.proofs.Laws.{zeros-blank}
use Rattle.num_zeros.proofs.is_blank.Goals as goal

pub returns : goal.returns
returns c =
    let a = c.args in
    zeros-blank a.s.now a.at c.u64_at.ensures c.u64_at-2.ensures c.u64_at-3.ensures c.u64_at-4.ensures
