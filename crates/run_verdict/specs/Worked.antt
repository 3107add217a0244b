-- Worked verdicts, each by computing.
use Rattle.std.specs.Prelude.{ℕ, ◌≡◌, refl, Bool, true, false, List, [], ◌∷◌, ◌++◌}
use Rattle.std.specs.Int.Count.{count_trailing_zeros}
use Rattle.std.specs.Float.Ieee.{of_bits, of_fields, of_int, round, units, odd, size, span, climb, mul, add, sub, lt}
use Rattle.num_words.specs.Words.{big}
use Rattle.dng.specs.List.{items_of, counted, read_from, step_at, next_at, parsed_at, vignette_at, constant_at, trim_at, counted_at}
use Rattle.dng.specs.Value.{usable, m2_of, farthest}
use Rattle.dng.specs.Run.{kept_of}
use Rattle.dng.specs.Frames.{words, list_of}
use Rattle.run_verdict.specs.Verdict.{whole_items, whole_frame}

-- id, flags and body
abbrev with : (id flags n : ℕ) → List ℕ → List ℕ
with id flags n body = words (id ∷ 16973824 ∷ flags ∷ n ∷ []) ++ body

-- a warp of a fish-eye, which is never applied
abbrev fisheye : ℕ → List ℕ
fisheye flags = with 2 flags 0 []

abbrev constant : List ℕ
constant = with 4 0 8 (words (0 ∷ 0 ∷ []))

-- a table of no entries, and one of one entry whose region selects nothing
abbrev empty : ℕ → List ℕ
empty flags = with 7 flags 36 (words (0 ∷ 0 ∷ 1 ∷ 1 ∷ 0 ∷ 1 ∷ 1 ∷ 1 ∷ 0 ∷ []))

abbrev nowhere : List ℕ
nowhere = with 7 0 38 (words (9 ∷ 9 ∷ 9 ∷ 9 ∷ 0 ∷ 1 ∷ 1 ∷ 1 ∷ 1 ∷ []) ++ (0 ∷ 5 ∷ []))

-- a vignette about the frame's middle: k0 to k4 are 0, cx and cy 0.5
abbrev vignette : ℕ → List ℕ
vignette flags =
    with 3 flags 56
    (words (0 ∷ 0 ∷ 0 ∷ 0 ∷ 0 ∷ 0 ∷ 0 ∷ 0 ∷ 0 ∷ 0 ∷ 0x3fe0_0000 ∷ 0 ∷ 0x3fe0_0000 ∷ 0 ∷ []))

-- about the corner
abbrev corner : List ℕ
corner = with 3 0 56 (words (0 ∷ 0 ∷ 0 ∷ 0 ∷ 0 ∷ 0 ∷ 0 ∷ 0 ∷ 0 ∷ 0 ∷ 0 ∷ 0 ∷ 0 ∷ 0 ∷ []))

-- about no centre, cx a NaN; and about one that is too far away unless the width is 0, cx 2^1000
abbrev centreless : List ℕ
centreless = with 3 0 56 (words (0 ∷ 0 ∷ 0 ∷ 0 ∷ 0 ∷ 0 ∷ 0 ∷ 0 ∷ 0 ∷ 0 ∷ 0x7ff8_0000 ∷ 0 ∷ 0 ∷ 0 ∷ []))

abbrev far : List ℕ
far = with 3 0 56 (words (0 ∷ 0 ∷ 0 ∷ 0 ∷ 0 ∷ 0 ∷ 0 ∷ 0 ∷ 0 ∷ 0 ∷ 0x7e70_0000 ∷ 0 ∷ 0 ∷ 0 ∷ []))

-- of a frame of 2 by 2 whose run answered 0
abbrev whole : (preview : Bool) → List (List ℕ) → Bool
whole preview es = whole_frame 2 2 preview (list_of es) 0

pub record Worked : Type 0 where
  pub nothing : whole false [] ≡ true
  -- a refusal is never whole
  pub refused : whole_frame 2 2 false (list_of []) 5 ≡ false
  -- skipped: bit 0 permits it, bit 1 does not, but a preview leaves it out
  pub mandatory : whole false (fisheye 0 ∷ []) ≡ false
  pub optional : whole false (fisheye 1 ∷ []) ≡ true
  pub for-previews : whole false (fisheye 2 ∷ []) ≡ false
  pub left_out : whole true (fisheye 2 ∷ []) ≡ true
  pub both : whole false (fisheye 3 ∷ []) ≡ true
  -- a preview counts what is left
  pub left : whole true (fisheye 2 ∷ fisheye 0 ∷ []) ≡ false
  pub last : whole false (constant ∷ fisheye 0 ∷ []) ≡ false
  -- applied, also where nothing is selected
  pub repaired : whole false (constant ∷ []) ≡ true
  pub selects-none : whole false (nowhere ∷ []) ≡ true
  pub empty-table : whole false (empty 0 ∷ []) ≡ false
  pub empty-optional : whole false (empty 1 ∷ []) ≡ true
  -- m2 goes by the full size: 7 by 0 has a corner away from the corner at 0, 0, and 0 by 0 has none
  pub reached : whole false (vignette 0 ∷ []) ≡ true
  pub no_size : whole_frame 0 0 false (list_of (vignette 0 ∷ [])) 0 ≡ false
  pub no-size-optional : whole_frame 0 0 false (list_of (vignette 1 ∷ [])) 0 ≡ true
  pub flat : whole_frame 7 0 false (list_of (corner ∷ [])) 0 ≡ true
  -- an unusable centre; width and height are not exchanged
  pub no-centre : whole false (centreless ∷ []) ≡ false
  pub far-away : whole_frame 1 0 false (list_of (far ∷ [])) 0 ≡ false
  pub no-width : whole_frame 0 1 false (list_of (far ∷ [])) 0 ≡ true

pub worked : Worked
unfolding whole_items big items_of counted read_from step_at next_at parsed_at vignette_at constant_at trim_at counted_at usable
    m2_of farthest kept_of of_bits of_fields of_int round units odd size span climb mul add sub lt count_trailing_zeros
worked =
    record {
      nothing = refl;
      refused = refl;
      mandatory = refl;
      optional = refl;
      for-previews = refl;
      left_out = refl;
      both = refl;
      left = refl;
      last = refl;
      repaired = refl;
      selects-none = refl;
      empty-table = refl;
      empty-optional = refl;
      reached = refl;
      no_size = refl;
      no-size-optional = refl;
      flat = refl;
      no-centre = refl;
      far-away = refl;
      no-width = refl;
    }
