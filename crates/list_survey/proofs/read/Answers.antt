-- `list_survey::read` meets its contract, by the count. Assumes nothing.
use mathlib.Core.Path.{◌∙◌}
use Rattle.list_survey.proofs.Laws.{none, few, all}
use Rattle.list_survey.proofs.read.Goals as goal

pub returns-in-Err : goal.returns-in-Err
returns-in-Err c =
    none _ _ c.entries_in.ensures c.in-Err.is c.begin.ensures
    c.made_of.ensures

pub read_entries-requires : goal.read_entries-requires
read_entries-requires c =
    few _ c.entries_in.ensures c.in-Ok.is

pub returns-in-Ok : goal.returns-in-Ok
returns-in-Ok c =
    c.read_entries.ensures ∙ all _ _ c.entries_in.ensures c.in-Ok.is
