-- `say_pgm::is_sound` meets its contract. Assumes nothing.
use mathlib.Core.Path.{refl}
use Rattle.say_pgm.specs.Pgm.{sound}
use Rattle.say_pgm.proofs.is_sound.Goals as goal

pub returns : goal.returns
unfolding sound
returns c = refl
