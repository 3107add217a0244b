-- `num_convert::held` meets its contract: each way out is a case of `held_to`, by the two tests.
use mathlib.Core.Path.{sym}
use Rattle.num_convert.proofs.Laws.{held_low, held_high, held-inside}
use Rattle.num_convert.proofs.held.Goals as goal

pub returns-then-x-a : goal.returns-then-x-a
returns-then-x-a c =
    let v = c.args in
    sym (held_low v.x v.a v.b c.if-x-a.true)

pub returns-then-b-x : goal.returns-then-b-x
returns-then-b-x c =
    let v = c.args in
    sym (held_high v.x v.a v.b c.if-x-a.false c.if-b-x.true)

pub returns : goal.returns
returns c =
    let v = c.args in
    sym (held-inside v.x v.a v.b c.if-x-a.false c.if-b-x.false)
