-- `say_note::put_names` meets its contract. The loop's invariant: what is put and what stands for the names from the k-th on are all names,
-- and the flags are those of the names before it. Assumes nothing.
use lib.ListN.{take}
use Rattle.num_text.proofs.Partly.{Partly}
use Rattle.say_note.specs.Note.{names}
use Rattle.say_note.proofs.Names.{from}
use Rattle.say_note.proofs.Seen.{Seen}
use Rattle.say_note.proofs.put_names.Given as goal

abbrev pub invariant-loop-k : goal.invariant-loop-k
invariant-loop-k l = Partly l.initial.out l.at l.end l.out (from l.codes l.k) (names l.codes) × Seen l.seen (take l.k l.codes)
