-- `walk_at` meets its contract. Assumes nothing.
use mathlib.Core.Path.{ap}
use borrow.Author.Rules.{rules}
use Rattle.row_opcode.specs.Planes.{walk_by}
use Rattle.row_opcode.proofs.walk_at.Goals as goal

pub returns : goal.returns
returns c =
    let a = c.args in
    record {
      is = ap (walk_by a.g a.r a.start a.plane) c.max.ensures;
      left32 = search rules;
      right32 = search rules;
      pitch32 = search rules;
    }
