-- `say_found::put_lines` meets its contract. Assumes nothing.
use mathlib.Core.Path.{ap}
use lib.Dec.{lit≤}
use Rattle.list_find.specs.declared.Which.TheVariants.{List1, List2, List3}
use Rattle.say_found.specs.Lines.{line_of, lines_of}
use Rattle.say_found.proofs.Laws.{within-then, within-as}
use Rattle.say_found.proofs.put_lines.Goals as goal

pub returns : goal.returns
unfolding lines_of
returns c =
    within-then 146 73
    (within-then 73 73 (within-as 73 73 (lit≤ tt) (ap (line_of List1) c.find.ensures) c.put_line-a.ensures)
    (within-as 73 73 (lit≤ tt) (ap (line_of List2) c.find-2.ensures) c.put_line-b.ensures))
    (within-as 73 73 (lit≤ tt) (ap (line_of List3) c.find-3.ensures) c.put_line.ensures)
