-- `list_fields::grid` meets its contract: each field is the one that was read. Assumes nothing.
use native.Mathlib.Nat.{add-zero, add_assoc}
use Rattle.list_fields.proofs.grid.Goals as goal

pub returns : goal.returns
returns c = simp (add-zero, add_assoc) (cc)
