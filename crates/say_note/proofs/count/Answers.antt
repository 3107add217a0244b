-- `say_note::count` meets its contract. Assumes nothing.
use Rattle.std.proofs.Common.{rules}
use Rattle.say_note.proofs.Parts.{occurs-count}
use Rattle.say_note.proofs.count.Goals as goal

pub returns : goal.returns
returns c = rw (occurs-count c.args.code c.args.codes.now) (search rules)
