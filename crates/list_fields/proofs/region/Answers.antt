-- `list_fields::region` meets its contract: each field is the one that was read. Assumes nothing.
use native.Mathlib.Nat.{add-zero}
use Rattle.list_fields.proofs.region.Goals as goal

pub returns : goal.returns
returns c = cc (add-zero c.args.at)
