-- What a class is to the forms (dng/specs/Run).
use Rattle.std.specs.Prelude.{Bool, true, false}
use Rattle.dng.specs.declared.Class.{Class}
use Rattle.dng.specs.declared.Class.TheVariants.{Table, Empty, Local, Repair, Unapplied}
use Rattle.dng.specs.Run.{row_takes, skipped, skipped16}
use Rattle.list_classes.specs.declared.Facts.{Facts}

-- a pixel opcode that shuts a list out of the whole-number form
abbrev pub is_local : Class → Bool
is_local Table = false
is_local Empty = false
is_local Local = true
is_local Repair = false
is_local Unapplied = false

-- of which the whole-number form takes one
abbrev pub is_repair : Class → Bool
is_repair Table = false
is_repair Empty = false
is_repair Local = false
is_repair Repair = true
is_repair Unapplied = false

abbrev pub facts_of : Class → Facts
facts_of k =
    record {
      local = is_local k;
      repair = is_repair k;
      by_row = row_takes k;
      skipped = skipped k;
      skipped16 = skipped16 k;
    }
