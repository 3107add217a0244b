-- `run_verdict::is_settled` meets its contract. Assumes nothing.
use Rattle.run_verdict.proofs.is_settled.Goals as goal

pub returns : goal.returns
returns c = cc
