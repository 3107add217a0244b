-- `say_found::put_line` meets its contract. Assumes nothing.
use Rattle.say_found.specs.Lines.{line_of}
use Rattle.say_found.proofs.Laws.{within-then}
use Rattle.say_found.proofs.put_line.Goals as goal

pub returns : goal.returns
unfolding line_of
returns c =
    within-then 13 60 c.put_name-a.ensures c.put_found.ensures
