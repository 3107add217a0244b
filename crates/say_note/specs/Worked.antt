-- Worked notes, which the checker computes: document 01's example, and one of each line.
use Rattle.std.specs.Prelude.{ℕ, ◌≡◌, refl, List, [], ◌∷◌, ◌++◌}
use Rattle.num_words.specs.Words.{big}
use Rattle.num_text.specs.Text.{text, decimal, digits_in}
use Rattle.dng.specs.List.{reading_of, items_of, counted, read_from, step_at, next_at, parsed_at, constant_at, warp_at, polynomial_at, counted_at, gain_at, bad_list_at}
use Rattle.dng.specs.Run.{names_of}
use Rattle.dng.specs.Frames.{word, words, entry}
use Rattle.say_name.specs.Name.{name_text}
use Rattle.say_note.specs.Note.{occurs, item, firsts, behind, joined, names, about, lines, malformed_after, note_on, note_of}

abbrev pub fisheye : List ℕ
fisheye = entry 2 []

-- region 0,0,1,1,0,1,1,1 and no entries
abbrev pub no_entries : List ℕ
no_entries = entry 7 (words (0 ∷ 0 ∷ 1 ∷ 1 ∷ 0 ∷ 1 ∷ 1 ∷ 1 ∷ 0 ∷ []))

abbrev pub constant : List ℕ
constant = entry 4 (words (0 ∷ 0 ∷ []))

pub record Notes : Type 0 where
  -- the names by their ids, 0 for `Other`
  pub all-names : names (0 ∷ 1 ∷ 2 ∷ 3 ∷ 4 ∷ 5 ∷ 6 ∷ 7 ∷ 8 ∷ 9 ∷ 10 ∷ 11 ∷ 12 ∷ 13 ∷ [])
      ≡ text "Other, WarpRectilinear, WarpFisheye, FixVignetteRadial, FixBadPixelsConstant, FixBadPixelsList, TrimBounds, MapTable, MapPolynomial, GainMap, DeltaPerRow, DeltaPerColumn, ScalePerRow, ScalePerColumn"
  pub example : note_of (word 2 ++ (fisheye ++ no_entries))
      ≡ text "OpcodeList1: applied MapTable\nOpcodeList1: not applied WarpFisheye, MapTable\n"
  pub no-input : note_of [] ≡ text "malformed after 0\n"
  pub cut : note_of (word 2 ++ (constant ++ (0 ∷ 0 ∷ []))) ≡ text "malformed after 1\n"
  pub no-opcodes : note_of (word 0) ≡ []
  pub no-pixels : note_of (word 1 ++ fisheye) ≡ text "OpcodeList1: not applied WarpFisheye (no pixel opcodes)\n"
  pub all-applied : note_of (word 1 ++ constant) ≡ text "OpcodeList1: applied FixBadPixelsConstant\n"
  -- ids 14 and 15 have the one name
  pub repeats : note_of (word 4 ++ (entry 15 [] ++ (fisheye ++ (entry 14 [] ++ entry 15 []))))
      ≡ text "OpcodeList1: not applied Other x3, WarpFisheye (no pixel opcodes)\n"
  pub mixed : note_of (word 4 ++ (constant ++ (fisheye ++ (no_entries ++ constant))))
      ≡ text "OpcodeList1: applied FixBadPixelsConstant x2, MapTable\nOpcodeList1: not applied WarpFisheye, MapTable\n"

pub worked : Notes
unfolding big reading_of items_of counted read_from step_at next_at parsed_at constant_at warp_at polynomial_at counted_at gain_at
    bad_list_at names_of digits_in decimal name_text occurs item firsts behind joined names about lines malformed_after note_on
    note_of
worked = record {
  all-names = refl;
  example = refl;
  no-input = refl;
  cut = refl;
  no-opcodes = refl;
  no-pixels = refl;
  all-applied = refl;
  repeats = refl;
  mixed = refl;
}
