-- `list_survey::turn` meets its contract, by what was asked of the opcode. Assumes nothing.
use mathlib.Core.Path.{sym, ap, ◌∙◌}
use mathlib.Core.Bool.{cond}
use Rattle.dng.specs.Run.{class_of}
use Rattle.list_classes.specs.Classes.{facts_of}
use Rattle.list_classes.proofs.Counted.{counted}
use Rattle.list_survey.specs.Survey.{turn_on}
use Rattle.list_survey.proofs.Laws.{turned}
use Rattle.list_survey.proofs.turn.Goals as goal

-- an entry that is dropped counts for nothing
pub returns-then-dropped : goal.returns-then-dropped
returns-then-dropped c = simp c.if-dropped.true

pub returns : goal.returns
returns c =
    let a = c.args in
    turned a.t (class_of a.op) c.facts_of-f.ensures (c.from-one.ensures ∙ counted _)
    (c.from-one16.ensures ∙ counted _)
    ∙ sym (ap (λ b. cond b a.t (turn_on (facts_of (class_of a.op)) a.t)) c.if-dropped.false)
