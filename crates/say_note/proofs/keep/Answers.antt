-- `say_note::keep` meets its contract, by whether the opcode is of the part. Assumes nothing.
use Rattle.say_note.proofs.Parts.{kept_in, kept_out}
use Rattle.say_note.proofs.keep.Goals as goal

pub returns-then-is_in : goal.returns-then-is_in
returns-then-is_in c =
    kept_in c.is_in.ensures c.if-is_in.true c.name_of.ensures
    c.put_byte.ensures

pub returns-else-is_in : goal.returns-else-is_in
returns-else-is_in c = kept_out _ _ _ c.is_in.ensures c.if-is_in.false
