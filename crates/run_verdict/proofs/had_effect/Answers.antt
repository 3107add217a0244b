-- `run_verdict::had_effect` meets its contract. Assumes nothing.
use Rattle.run_verdict.proofs.had_effect.Goals as goal

pub returns : goal.returns
returns c = cc
