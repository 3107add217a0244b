-- `say_found::put_place` meets its contract. Assumes nothing.
use mathlib.Core.Path.{refl}
use lib.Dec.{lit≤}
use Rattle.say_found.specs.Lines.{place_text}
use Rattle.say_found.proofs.Laws.{within, within-then, within-as}
use Rattle.say_found.proofs.put_place.Goals as goal

pub returns : goal.returns
unfolding place_text
returns c =
    within-as _ 60 (lit≤ tt) refl
    (within-then _ _ (within-then _ _ c.put_count-a.ensures c.put_count-b.ensures) (within 1 _ (lit≤ tt) refl c.put_byte.ensures))
