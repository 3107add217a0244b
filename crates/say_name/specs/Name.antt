-- The names of the opcodes, by the byte that names them (dng/specs/Run, name_of): the id, and 0 for an id of no opcode.
-- So opcodes have one name where they have one kind, and all ids of no opcode count as one, as in the Rust (000,
-- `Opcode::name`).
use Rattle.std.specs.Prelude.{ℕ, List, [], ◌∷◌, get_or}
use Rattle.num_text.specs.Text.{text}

abbrev pub name_texts : List (List ℕ)
name_texts =
    text "Other" ∷ text "WarpRectilinear" ∷ text "WarpFisheye" ∷ text "FixVignetteRadial" ∷ text "FixBadPixelsConstant"
    ∷ text "FixBadPixelsList" ∷ text "TrimBounds" ∷ text "MapTable" ∷ text "MapPolynomial" ∷ text "GainMap"
    ∷ text "DeltaPerRow" ∷ text "DeltaPerColumn" ∷ text "ScalePerRow" ∷ text "ScalePerColumn" ∷ []

unfoldable pub name_text : ℕ → List ℕ
name_text id = get_or name_texts id (text "Other")
