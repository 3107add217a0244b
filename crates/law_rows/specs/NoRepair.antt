-- Lists whose opcodes look at no other sample: none of them is a repair. Lists of the row form are such, and lists of
-- tables.
use Rattle.std.specs.Prelude.{Bool, true, false, ◌&&◌, List, [], ◌∷◌, ◌≡◌, refl}
use Rattle.dng.specs.declared.Entry.{Entry}
use Rattle.dng.specs.declared.Region.{Region}
use Rattle.dng.specs.declared.Opcode.{Opcode}
use Rattle.dng.specs.declared.Opcode.TheVariants.{WarpFisheye, FixBadPixelsConstant, MapTable}
use Rattle.dng.specs.List.{Item}
use Rattle.dng.specs.declared.Class.{Class}
use Rattle.dng.specs.declared.Class.TheVariants.{Table, Empty, Local, Repair, Unapplied}
use Rattle.dng.specs.Run.{class_of, takes_rows}

abbrev pub no_repair_in : Class → Bool
no_repair_in Table = true
no_repair_in Empty = true
no_repair_in Local = true
no_repair_in Repair = false
no_repair_in Unapplied = true

unfoldable pub no_repair : List Item → Bool
no_repair [] = true
no_repair (i ∷ is) = no_repair_in (class_of i.op) && no_repair is

-- every list of the row form is one; proofs/Fused proves it
abbrev pub RowsNoRepair : Type 0
RowsNoRepair = (is : List Item) → takes_rows is ≡ true → no_repair is ≡ true

-- worked values: a table with no entry and a warp; a warp and a repair
abbrev of : Entry → Opcode → Item
of e op = record { entry = e; op = op }

record Worked : Type 0 where
  tables : (e : Entry) (r : Region) → no_repair (of e (MapTable r 0) ∷ of e WarpFisheye ∷ []) ≡ true
  repairs : (e : Entry) → no_repair (of e WarpFisheye ∷ of e (FixBadPixelsConstant 0 0) ∷ []) ≡ false

worked : Worked
unfolding no_repair
worked = record { tables = λ e r. refl; repairs = λ e. refl }
