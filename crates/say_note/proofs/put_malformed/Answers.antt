-- `say_note::put_malformed` meets its contract: three texts one behind the other. Assumes nothing.
use native.Mathlib.Omega.{arith}
use Rattle.num_text.proofs.Laws.{appended_then}
use Rattle.say_note.specs.Note.{malformed_after}
use Rattle.say_note.proofs.Names.{malformed-length}
use Rattle.say_note.proofs.put_malformed.Goals as goal

pub put-number_at-requires : goal.put-number_at-requires
put-number_at-requires c = let a = c.args in omega (arith, malformed-length a.after)

pub put_number-end-requires : goal.put_number-end-requires
put_number-end-requires c =
    let a = c.args in
    omega (arith, c.put-number_at.auto.out, c.put-number_at.ensures.ends, c.requires, malformed-length a.after)

pub put-requires : goal.put-requires
put-requires c =
    let a = c.args in
    omega (
      arith,
      c.put_number-end.auto.out,
      c.put_number-end.ensures.ends,
      c.put-number_at.auto.out,
      c.put-number_at.ensures.ends,
      c.requires,
      malformed-length a.after,
    )

pub returns : goal.returns
unfolding malformed_after
returns c =
    appended_then (appended_then c.put-number_at.ensures c.put_number-end.ensures) c.put.ensures
