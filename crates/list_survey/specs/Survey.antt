-- What one pass over a list finds: how it is read (dng/specs/List), and of the entries that are read whole which forms
-- take them and how many opcodes each form skips (dng/specs/Run). Document 01, 'What comes back' and the last paragraph
-- of 'What each does to a value'.
use Rattle.std.specs.Prelude.{ℕ, ◌+◌, Bool, true, not, ◌&&◌, ◌||◌, cond, List, length}
use Rattle.dng.specs.List.{Item, items_of, read_from, Reading, reading_of}
use Rattle.dng.specs.Run.{kept_of, kept_in, takes16, takes_rows, skipped, skipped16, names_of}
use Rattle.list_classes.specs.declared.Facts.{Facts}
use Rattle.list_read.specs.Count.{reading_from}
use Rattle.list_survey.specs.declared.Survey.{Survey}
use Rattle.list_survey.specs.declared.Surveyed.{Surveyed}
use Rattle.list_survey.specs.declared.Tally.{Tally}

-- of n entries, of which those are left
unfoldable pub survey_on : ℕ → List Item → Survey
survey_on n is =
    record {
      opcodes = n;
      takes16 = takes16 is;
      takes_rows = takes_rows is;
      skips = length (names_of skipped is);
      skips16 = length (names_of skipped16 is);
    }

unfoldable pub survey_of : (preview : Bool) → List ℕ → Surveyed
survey_of preview s = record { reading = reading_of s; survey = survey_on (length (items_of s)) (kept_in preview s) }

-- the same of n entries after the count
unfoldable pub survey_from : (preview : Bool) → List ℕ → ℕ → Surveyed
survey_from preview s n =
    let is = read_from s n (record { at = 4 }) in
    record { reading = reading_from s n; survey = survey_on (length is) (kept_of preview is) }

-- ---- how the pass comes to it: no entry yet, one entry more, and the end

abbrev pub begun : Tally
begun = record { free = true; takes16 = true; takes_rows = true; skips = 0; skips16 = 0 }

unfoldable pub turn_on : Facts → Tally → Tally
turn_on f t =
    record {
      free = t.free && not f.repair;
      takes16 = t.takes16 && (not f.local && (t.free || not f.repair));
      takes_rows = t.takes_rows && f.by_row;
      skips = t.skips + cond f.skipped 1 0;
      skips16 = t.skips16 + cond f.skipped16 1 0;
    }

abbrev pub surveyed_by : Reading → ℕ → Tally → Surveyed
surveyed_by r n t =
    record {
      reading = r;
      survey =
          record {
            opcodes = n;
            takes16 = t.takes16;
            takes_rows = t.takes_rows;
            skips = t.skips;
            skips16 = t.skips16;
          };
    }
