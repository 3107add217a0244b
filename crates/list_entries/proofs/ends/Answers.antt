-- `list_entries::ends` meets its contract. Assumes nothing.
use mathlib.Core.Path.{ap}
use Prim.Native.Nat.{ℕ, ◌+◌, ◌*◌, ◌/◌}
use Rattle.dng.specs.declared.Reason.TheVariants.{Ends}
use Rattle.dng.specs.List.{refusal}
use Rattle.list_entries.proofs.ends.Goals as goal

pub returns : goal.returns
returns c = ap (λ (left : ℕ). refusal Ends (c.args.at + left / 4 * 4)) c.less.ensures
