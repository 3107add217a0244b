-- Worked headers and rasters, each by computing.
use Rattle.std.specs.Prelude.{◌≡◌, refl, [], ◌∷◌, ◌++◌, replicate, None}
use Rattle.std.specs.Float.{binary32, nan}
use Rattle.std.specs.Float.Ieee.{of_bits, to_bits}
use Rattle.num_words.specs.Words.{big, little}
use Rattle.pointwise.specs.Points.{each}
use Rattle.num_text.specs.Text.{text, decimal, digits_in as places}
use Rattle.say_pgm.specs.Pgm.{goes_on, inside, blanks, past, digits_in, decimal_from, number_at, sound, p5, field_at, headed, header_of, sample_at, byte_at, over, float_at, nth_byte, float_byte_at, header_text}

pub record Worked : Type 0 where
  -- as netpbm's tools write it: the raster starts after the one newline, also where its first byte is white space
  pub plain : header_of (text "P5 4 3 255 " ++ (10 ∷ 7 ∷ [])) ≡ headed 4 3 255 11
  -- a comment between the numbers, as GIMP and ImageMagick write one
  pub comment : header_of (text "P5" ++ (10 ∷ text "# a 9" ++ (10 ∷ text "640 480" ++ (13 ∷ text "65535" ++ (9 ∷ [])))))
      ≡ headed 640 480 65535 23
  -- a comment ends a number, and starts right after the magic number
  pub close : header_of (text "P5#" ++ (10 ∷ text "2#" ++ (10 ∷ text "1 1 "))) ≡ headed 2 1 1 11
  -- zeros in front change nothing, however many
  pub zeros : header_of (text "P5 000000000000000000000000000000004 03 0255 ") ≡ headed 4 3 255 45
  -- a P2, no white space after the magic number, no height, no byte after the largest value, a comment there
  pub ascii : header_of (text "P2 4 3 255 ") ≡ None
  pub joined : header_of (text "P54 3 255 ") ≡ None
  pub short : header_of (text "P5 4 3 ") ≡ None
  pub ended : header_of (text "P5 4 3 255") ≡ None
  pub late : header_of (text "P5 4 3 255#") ≡ None
  pub nothing : header_of [] ≡ None
  -- the largest sizes and values, and one more
  pub wide : header_of (text "P5 65536 65536 65535 ") ≡ headed 65536 65536 65535 21
  pub wider : header_of (text "P5 65537 1 255 ") ≡ None
  pub much : header_of (text "P5 1 1 65536 ") ≡ None
  pub none : header_of (text "P5 1 1 0 ") ≡ None
  -- 2^64 + 1 is not 1
  pub wrapped : header_of (text "P5 18446744073709551617 1 255 ") ≡ None
  -- a byte each up to 255, two from 256 on, the high one first; 0 past the end
  pub bytes : each (λ i v. sample_at (1 ∷ 2 ∷ 3 ∷ []) 255 i) (9 ∷ 9 ∷ 9 ∷ 9 ∷ []) ≡ 1 ∷ 2 ∷ 3 ∷ 0 ∷ []
  pub words : each (λ i v. sample_at (1 ∷ 2 ∷ 3 ∷ []) 256 i) (9 ∷ 9 ∷ 9 ∷ []) ≡ 258 ∷ 768 ∷ 0 ∷ []
  -- and back: held to the largest value, what lies past the samples stays
  pub narrow : each (byte_at (7 ∷ 300 ∷ []) 200) (9 ∷ 9 ∷ 9 ∷ []) ≡ 7 ∷ 200 ∷ 9 ∷ []
  pub broad : each (byte_at (258 ∷ 65535 ∷ []) 1023) (9 ∷ 9 ∷ 9 ∷ 9 ∷ 9 ∷ []) ≡ 1 ∷ 2 ∷ 3 ∷ 255 ∷ 9 ∷ []
  pub held : over 200 (7 ∷ 300 ∷ 200 ∷ 201 ∷ []) ≡ 2
  -- 1 and -2 as f32, the lowest byte first, and back
  pub floats : each (λ i v. float_at (0 ∷ 0 ∷ 0x80 ∷ 0x3f ∷ 0 ∷ 0 ∷ 0 ∷ 0xc0 ∷ []) i) (nan ∷ nan ∷ [])
      ≡ of_bits binary32 0x3f80_0000 ∷ of_bits binary32 0xc000_0000 ∷ []
  pub and-back :
      each (float_byte_at (of_bits binary32 0x3f80_0000 ∷ of_bits binary32 0xc000_0000 ∷ [])) (replicate 9 7)
      ≡ 0 ∷ 0 ∷ 0x80 ∷ 0x3f ∷ 0 ∷ 0 ∷ 0 ∷ 0xc0 ∷ 7 ∷ []
  pub written : header_text 192 64 255 ≡ text "P5" ++ (10 ∷ text "192 64" ++ (10 ∷ text "255" ++ (10 ∷ [])))

pub worked : Worked
unfolding header_of field_at number_at past blanks goes_on inside digits_in decimal_from sound p5 sample_at byte_at over
    float_at nth_byte float_byte_at of_bits to_bits header_text each big little decimal places
worked = record {
  plain = refl;
  comment = refl;
  close = refl;
  zeros = refl;
  ascii = refl;
  joined = refl;
  short = refl;
  ended = refl;
  late = refl;
  nothing = refl;
  wide = refl;
  wider = refl;
  much = refl;
  none = refl;
  wrapped = refl;
  bytes = refl;
  words = refl;
  narrow = refl;
  broad = refl;
  held = refl;
  floats = refl;
  and-back = refl;
  written = refl;
}
