-- `rolbhunga::malformed_row` meets its contract, by the reason's number. Assumes nothing.
use mathlib.Core.Path.{ap}
use Prim.Native.Nat.{ℕ}
use Rattle.rolbhunga.specs.declared.RowNumbers.{RowNumbers}
use Rattle.rolbhunga.proofs.malformed_row.Goals as goal

pub returns : goal.returns
returns c =
    let args = c.args in
    let told : ℕ → RowNumbers = λ n. record { number = n; entry = args.entry; offset = args.why.at; skipped = 0 } in
    ap told c.reason_number.ensures
