-- `run_answers::malformed_numbers` meets its contract, by the reason's number. Assumes nothing.
use mathlib.Core.Path.{ap}
use Prim.Native.Nat.{ℕ}
use Rattle.dng.specs.declared.Numbers.{Numbers}
use Rattle.run_answers.proofs.malformed_numbers.Goals as goal

pub returns : goal.returns
returns c =
    let args = c.args in
    let told : ℕ → Numbers = λ n.
    record { number = n; entry = args.entry; offset = args.why.at; opcode = 0; names = 0; repaired = 0; left = 0 } in
    ap told c.reason_number.ensures
