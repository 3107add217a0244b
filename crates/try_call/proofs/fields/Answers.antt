-- `try_call::fields` meets its contract: each field is the word that was read. Assumes nothing.
use Rattle.try_call.proofs.fields.Goals as goal

pub returns : goal.returns
returns c = cc
