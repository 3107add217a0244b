-- What the contracts inside this crate cite beside the layout in dng/specs/List. Document 01, 'The list'; document 02,
-- M-100.
use Rattle.std.specs.Prelude.{ℕ, ◌+◌, cond, List, leb, eqb, Result, Ok, Err}
use Rattle.dng.specs.declared.Region.{Region}
use Rattle.dng.specs.declared.Opcode.{Opcode}
use Rattle.dng.specs.declared.Opcode.TheVariants.{DeltaPerRow, DeltaPerColumn, ScalePerRow, ScalePerColumn}
use Rattle.dng.specs.List.{u32_at, region_at, offset_in, first_cut, counted_fields}
use Rattle.list_bodies.specs.declared.Counted.{Counted}
use Rattle.num_words.specs.declared.Cut.{Cut}
use Rattle.num_words.specs.Words.{cut}

-- a region and n, or the degree; or the first of these fields that is not whole
unfoldable pub counted_in : List ℕ → (at len : ℕ) → Result Counted Cut
counted_in s at len =
    cond (leb 36 len) (Ok (record { region = region_at s at; n = u32_at s (at + 32) }))
    (Err (cut (offset_in s at (first_cut counted_fields len))))

-- 10 to 12, and 13 for what is left
abbrev pub line_of : ℕ → Region → ℕ → Opcode
line_of id = cond (eqb id 10) DeltaPerRow (cond (eqb id 11) DeltaPerColumn (cond (eqb id 12) ScalePerRow ScalePerColumn))
