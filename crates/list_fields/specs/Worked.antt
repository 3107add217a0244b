-- Worked values of the definitions: each reader at the first length that is too short and at the first that is not.
-- Document 02, M-100.
use Rattle.std.specs.Prelude.{ℕ, ◌≡◌, refl, List, replicate, Ok, Err}
use Rattle.num_words.specs.Words.{big, cut}
use Rattle.dng.specs.List.{first_cut, region_at, grid_at, radial_at}
use Rattle.list_fields.specs.Fields.{word_at, area_at, lattice_at, lens_at}

-- a list of n zeros, of which 2 stand before the body
abbrev zeros : ℕ → List ℕ
zeros n = replicate n 0

pub record Worked : Type 0 where
  -- the word 4 bytes into a body of 8 bytes, and of 7
  pub word : word_at (zeros 10) 2 4 8 ≡ Ok 0
  pub word_cut : word_at (zeros 10) 2 4 7 ≡ Err (cut 6)
  -- a place past the list's end is held to it
  pub word-past : word_at (zeros 3) 2 4 0 ≡ Err (cut 3)
  -- eight fields, not one
  pub area : area_at (zeros 34) 2 32 ≡ Ok (region_at (zeros 34) 2)
  pub area-cut : area_at (zeros 34) 2 31 ≡ Err (cut 30)
  -- fields of eight bytes are cut by eights
  pub lattice : lattice_at (zeros 74) 2 72 ≡ Ok (grid_at (zeros 74) 42)
  pub lattice-cut : lattice_at (zeros 74) 2 44 ≡ Err (cut 42)
  pub lattice-last : lattice_at (zeros 74) 2 71 ≡ Err (cut 66)
  pub lens : lens_at (zeros 58) 2 56 ≡ Ok (radial_at (zeros 58) 2)
  pub lens-cut : lens_at (zeros 58) 2 12 ≡ Err (cut 10)
  pub lens-last : lens_at (zeros 58) 2 55 ≡ Err (cut 50)

pub worked : Worked
unfolding big first_cut word_at area_at lattice_at lens_at
worked =
    record {
      word = refl;
      word_cut = refl;
      word-past = refl;
      area = refl;
      area-cut = refl;
      lattice = refl;
      lattice-cut = refl;
      lattice-last = refl;
      lens = refl;
      lens-cut = refl;
      lens-last = refl;
    }
