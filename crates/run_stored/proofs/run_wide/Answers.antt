-- `run_stored::run_wide` meets its contract. Assumes nothing.
use lib.Ieee.{of_bits}
use lib.ListN.{length}
use Rattle.law_wholes.specs.WholeForm.{at_one}
use Rattle.run_stored.proofs.Laws.{rounded}
use Rattle.run_stored.proofs.run_wide.Goals as goal

pub returns : goal.returns
unfolding of_bits
returns c =
    let a = c.args in
    rounded a.w (at_one a.period a.preview) (record { marks = length a.marks.now }) a.list.now a.names.now a.samples.now
    c.widen.ensures c.run-answer.ensures c.held-over.ensures c.narrow.ensures
