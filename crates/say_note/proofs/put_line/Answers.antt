-- `say_note::put_line` meets its contract: no line over no names, else three texts one behind the other. Assumes nothing.
use native.Mathlib.Omega.{arith}
use Rattle.num_text.proofs.Laws.{appended-as, appended-none, appended_then}
use Rattle.say_note.proofs.Names.{about-none, about-some, about-length}
use Rattle.say_note.proofs.put_line.Goals as goal

pub returns-then-codes-eq0 : goal.returns-then-codes-eq0
returns-then-codes-eq0 c = let a = c.args in appended-as (about-none a.head.now a.codes.now a.end.now (omega arith))
    (appended-none _ _)

pub put-names_at-requires : goal.put-names_at-requires
put-names_at-requires c = let a = c.args in
    omega (arith, about-length a.head.now a.codes.now a.end.now c.if-codes-eq0.false)

pub put_names-end_at-requires : goal.put_names-end_at-requires
put_names-end_at-requires c =
    let a = c.args in
    omega (
      arith,
      c.put-names_at.auto.out,
      c.put-names_at.ensures.ends,
      c.requires,
      about-length a.head.now a.codes.now a.end.now c.if-codes-eq0.false,
    )

pub put-requires : goal.put-requires
put-requires c =
    let a = c.args in
    omega (
      arith,
      c.put_names-end_at.auto.out,
      c.put_names-end_at.ensures.ends,
      c.put-names_at.auto.out,
      c.put-names_at.ensures.ends,
      c.requires,
      about-length a.head.now a.codes.now a.end.now c.if-codes-eq0.false,
    )

pub returns : goal.returns
returns c =
    let a = c.args in
    appended-as (about-some a.head.now a.codes.now a.end.now c.if-codes-eq0.false)
    (appended_then (appended_then c.put-names_at.ensures c.put_names-end_at.ensures) c.put.ensures)
