-- Worked texts, each by computing.
use Rattle.std.specs.Prelude.{◌≡◌, refl, [], Err}
use Rattle.num_text.specs.Text.{text, decimal, digits_in}
use Rattle.list_find.specs.declared.Which.TheVariants.{List1, List2, List3}
use Rattle.list_find.specs.declared.FindError.TheVariants.{Outside, TooMany, Missing}
use Rattle.list_find.specs.Walk.{At, headed, found_in}
use Rattle.say_found.specs.Lines.{count, place_text, line_of, lines_of}

pub record Worked : Type 0 where
  pub found : line_of List1 (At 1034 28) ≡ text "OpcodeList1: 0: 28 bytes at 1034\n"
  pub outside : line_of List2 (Err Outside) ≡ text "OpcodeList2: 31: an offset or a size lies outside the file\n"
  pub many : line_of List3 (Err TooMany) ≡ text "OpcodeList3: 32: more than 64 directories\n"
  pub missing : line_of List3 (Err Missing) ≡ text "OpcodeList3: 33: not in the file\n"
  pub empty :
      lines_of []
      ≡ text "OpcodeList1: 30: not a TIFF file\nOpcodeList2: 30: not a TIFF file\nOpcodeList3: 30: not a TIFF file\n"

pub worked : Worked
unfolding count place_text line_of lines_of decimal digits_in headed found_in
worked = record { found = refl; outside = refl; many = refl; missing = refl; empty = refl }
