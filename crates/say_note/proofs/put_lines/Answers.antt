-- `say_note::put_lines` meets its contract, by whether there is a first line. Assumes nothing.
use Rattle.dng.specs.List.{items_of}
use Rattle.dng.specs.Run.{names_of, skipped}
use Rattle.say_note.specs.Note.{pixel, every}
use Rattle.say_note.proofs.Lines.{first_fits, one-fits, two_fits, put_one, put_two}
use Rattle.say_note.proofs.put_lines.Goals as goal

pub put_about-end-requires : goal.put_about-end-requires
put_about-end-requires c = let a = c.args in first_fits
    (names_of pixel (items_of a.list.now)) (names_of skipped (items_of a.list.now)) (names_of every (items_of a.list.now)) _
    c.requires

pub put_about-requires : goal.put_about-requires
put_about-requires c =
    let a = c.args in
    one-fits (names_of pixel (items_of a.list.now)) (names_of skipped (items_of a.list.now)) (names_of every (items_of a.list.now))
    c.put_about-end.ensures _ _ c.if-end-eq0.true c.put_about-end.auto.out
    c.requires

pub put_about-requires-else-end-eq0 : goal.put_about-requires-else-end-eq0
put_about-requires-else-end-eq0 c =
    let a = c.args in
    two_fits (names_of pixel (items_of a.list.now)) (names_of skipped (items_of a.list.now)) (names_of every (items_of a.list.now))
    c.put_about-end.ensures _ _ c.if-end-eq0.false c.put_about-end.auto.out c.requires

pub returns-then-end-eq0 : goal.returns-then-end-eq0
returns-then-end-eq0 c =
    let a = c.args in
    put_one (names_of pixel (items_of a.list.now)) (names_of skipped (items_of a.list.now)) (names_of every (items_of a.list.now))
    c.put_about-end.ensures c.if-end-eq0.true c.put_about.ensures

pub returns-else-end-eq0 : goal.returns-else-end-eq0
returns-else-end-eq0 c =
    let a = c.args in
    put_two (names_of pixel (items_of a.list.now)) (names_of skipped (items_of a.list.now)) (names_of every (items_of a.list.now))
    c.put_about-end.ensures c.if-end-eq0.false c.put_about-else-end-eq0.ensures
