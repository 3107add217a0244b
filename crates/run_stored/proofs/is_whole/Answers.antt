-- `run_stored::is_whole` meets its contract: the verdict by the number that mending answers. Assumes nothing.
use mathlib.Core.Path.{ap, ◌∙◌}
use Rattle.dng.specs.declared.Numbers.{Numbers}
use Rattle.run_verdict.specs.Verdict.{whole_frame}
use Rattle.run_stored.proofs.is_whole.Goals as goal

pub returns : goal.returns
returns c =
    let a = c.args in
    c.whole_frame.ensures
    ∙ ap (λ (n : Numbers). whole_frame a.full_width a.full_height a.preview a.list.now n.number) c.numbers-n.ensures
