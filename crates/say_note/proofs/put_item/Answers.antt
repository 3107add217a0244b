-- `say_note::put_item` meets its contract, by whether the name occurs more than once. Assumes nothing.
use native.Mathlib.Omega.{arith}
use Rattle.num_text.proofs.Laws.{appended-as, appended_then}
use Rattle.say_note.proofs.Names.{name-in-item, item-once, item-times, item-length}
use Rattle.say_note.proofs.put_item.Goals as goal

pub put_name-end-requires : goal.put_name-end-requires
put_name-end-requires c = let a = c.args in omega (arith, name-in-item a.codes.now a.code)

pub put-x-requires : goal.put-x-requires
put-x-requires c =
    let a = c.args in
    omega (
      arith,
      c.put_name-end.auto.out,
      c.put_name-end.ensures.ends,
      c.requires,
      item-length a.codes.now a.code c.count-times.ensures (omega arith),
    )

pub put_number-requires : goal.put_number-requires
put_number-requires c =
    let a = c.args in
    omega (
      arith,
      c.put-x.auto.out,
      c.put-x.ensures.ends,
      c.put_name-end.auto.out,
      c.put_name-end.ensures.ends,
      c.requires,
      item-length a.codes.now a.code c.count-times.ensures (omega arith),
    )

pub returns-then-times-gt1 : goal.returns-then-times-gt1
returns-then-times-gt1 c =
    let a = c.args in
    appended-as (item-times a.codes.now a.code c.count-times.ensures (omega arith))
    (appended_then (appended_then c.put_name-end.ensures c.put-x.ensures) c.put_number.ensures)

pub returns-else-times-gt1 : goal.returns-else-times-gt1
returns-else-times-gt1 c =
    let a = c.args in
    appended-as (item-once a.codes.now a.code c.count-times.ensures (omega arith)) c.put_name-end.ensures
