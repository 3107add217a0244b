-- `rolbhunga::find::rolbhunga_find` meets its contract. Assumes nothing.
use Rattle.std.proofs.Common.{ap, ◌∙◌}
use Rattle.list_find.specs.Walk.{found_in}
use Rattle.rolbhunga.specs.Find.{told}
use Rattle.rolbhunga.proofs.Found.{find-1, find-2, find-3, find-no}
use Rattle.rolbhunga.proofs.find.rolbhunga_find.Goals as goal
use Rattle.rolbhunga.proofs.find.rolbhunga_find.Goals.{in-1, in-2, in-3}

pub returns : goal.returns
returns c =
    let s = c.args.file.now in
    elim c.match-which.branch [
      | in-1 w ↦ find-1 _ w.in-1.is (c.find_numbers.ensures ∙ ap told (c.find.ensures ∙ ap (found_in s) w.list-is))
      | in-2 w ↦ find-2 _ w.in-2.is (c.find_numbers.ensures ∙ ap told (c.find.ensures ∙ ap (found_in s) w.list-is))
      | in-3 w ↦ find-3 _ w.in-3.is (c.find_numbers.ensures ∙ ap told (c.find.ensures ∙ ap (found_in s) w.list-is))
    ]

pub returns-in_default : goal.returns-in_default
returns-in_default c =
    let m = c.in_default.in_default-own.rest in find-no _ m.0.0.1 m.0.1 m.1 c.refused.ensures
