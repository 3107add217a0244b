-- What a body of `len` bytes starts with, as it is read: the fields, or the offset of the first of them that is not
-- whole.
-- Document 02, M-100.
use Rattle.std.specs.Prelude.{ℕ, ◌+◌, ◌-◌, cond, List, leb, Result, Ok, Err}
use Rattle.num_words.specs.declared.Cut.{Cut}
use Rattle.num_words.specs.Words.{cut}
use Rattle.dng.specs.declared.Region.{Region}
use Rattle.dng.specs.declared.Grid.{Grid}
use Rattle.dng.specs.declared.Radial.{Radial}
use Rattle.dng.specs.List.{u32_at, offset_in, first_cut, fours, eights, vignette_fields, region_at, grid_at, radial_at}

-- the word k bytes into a body
unfoldable pub word_at : List ℕ → (at k len : ℕ) → Result ℕ Cut
word_at s at k len = cond (leb (k + 4) len) (Ok (u32_at s (at + k))) (Err (cut (offset_in s at k)))

unfoldable pub area_at : List ℕ → (at len : ℕ) → Result Region Cut
area_at s at len = cond (leb 32 len) (Ok (region_at s at)) (Err (cut (offset_in s at (first_cut (fours 8) len))))

-- a gain map's, 40 bytes into its body
unfoldable pub lattice_at : List ℕ → (at len : ℕ) → Result Grid Cut
lattice_at s at len =
    cond (leb 72 len) (Ok (grid_at s (at + 40))) (Err (cut (offset_in s at (40 + first_cut (eights 4) (len - 40)))))

unfoldable pub lens_at : List ℕ → (at len : ℕ) → Result Radial Cut
lens_at s at len = cond (leb 56 len) (Ok (radial_at s at)) (Err (cut (offset_in s at (first_cut vignette_fields len))))
