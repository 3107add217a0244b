-- `list_names::put` meets its contract, by whether there is a name and j is inside. Assumes nothing.
use Rattle.dng.specs.Run.{name_of}
use Rattle.list_names.proofs.Laws.{stored, no_room, not-stored}
use Rattle.list_names.proofs.put.Goals as goal

pub returns-then-j-names : goal.returns-then-j-names
returns-then-j-names c =
    let a = c.args in
    stored a.named a.names.now a.j (name_of a.op) c.if-named.true c.name_of.ensures

pub returns-else-j-names : goal.returns-else-j-names
returns-else-j-names c =
    let a = c.args in
    no_room a.named a.names.now a.j (name_of a.op) c.if-j-names.false

pub returns-else-named : goal.returns-else-named
returns-else-named c =
    let a = c.args in
    not-stored a.named a.names.now a.j (name_of a.op) c.if-named.false
