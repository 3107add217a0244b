-- `fix_near::all_near` meets its contract: a lone position's neighbours are those with no marks. Assumes nothing.
use mathlib.Core.Path.{◌∙◌}
use Rattle.num_sorted.specs.Sorts.{has}
use Rattle.fix_near.proofs.Unmarked.{lone-near, lone-empty, asks-none}
use Rattle.fix_near.proofs.all_near.Goals as goal

pub returns-else-inside : goal.returns-else-inside
returns-else-inside c =
    let a = c.args in
    c.around-else-inside.ensures ∙ lone-empty (has a.marks.now) a.w a.period a.from.x a.from.y (c.requires.1 c.if-not-lone.false)

pub returns-then-inside : goal.returns-then-inside
returns-then-inside c =
    let a = c.args in
    c.eight.ensures ∙ lone-near (has a.marks.now) a.w a.period a.from.x a.from.y (c.requires.1 c.if-not-lone.false)

pub around-requires-else-inside : goal.around-requires-else-inside
around-requires-else-inside c = asks-none c.requires.0
