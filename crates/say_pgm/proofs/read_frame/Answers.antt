-- `say_pgm::read_frame` meets its contract. Assumes nothing.
use mathlib.Core.Path.{sym, ap, ◌∙◌}
use lib.ListN.{length}
use Rattle.say_pgm.specs.Pgm.{frame_on, frame_of}
use Rattle.say_pgm.proofs.Laws.{in-sizes}
use Rattle.say_pgm.proofs.read_frame.Goals as goal

pub sized-requires : goal.sized-requires
sized-requires c = in-sizes _ _ (sym c.read_header.ensures ∙ c.in-Some.is)

pub returns-in-Some : goal.returns-in-Some
unfolding frame_of
returns-in-Some c =
    let a = c.args in
    c.sized.ensures ∙ ap (frame_on a.most (length a.bytes.now)) (sym c.in-Some.is ∙ c.read_header.ensures)

pub returns-in-None : goal.returns-in-None
unfolding frame_of
returns-in-None c =
    let a = c.args in
    ap (frame_on a.most (length a.bytes.now)) (sym c.in-None.is ∙ c.read_header.ensures)
