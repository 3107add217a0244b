-- `run_verdict::reaches` meets its contract, by the opcode. Assumes nothing.
use mathlib.Core.Path.{sym, ap, ◌∙◌}
use Rattle.dng.specs.declared.Opcode.{Opcode}
use Rattle.run_verdict.specs.Verdict.{reaches}
use Rattle.run_verdict.proofs.reaches.Goals as goal

pub returns-in-FixVignetteRadial : goal.returns-in-FixVignetteRadial
returns-in-FixVignetteRadial c =
    let a = c.args in
    c.is_usable.ensures ∙ sym (ap (λ (o : Opcode). reaches a.full_width a.full_height o) c.in-FixVignetteRadial.is)
