-- A binary greymap, netpbm's P5: the magic number, white space, width, white space, height, white space, the largest
-- value, one byte of white space, and the raster, row by row. A comment, from `#` to the end of its line, counts as
-- white space before the largest value.
-- Sizes are held to the window's, 65,536, and the largest value to 65,535.
use Rattle.std.specs.Prelude.{ℕ, suc, ◌+◌, ◌-◌, ◌*◌, ◌/◌, ◌%◌, ◌≤◌, min, Bool, true, false, not, ◌&&◌, ◌||◌, cond, List, [], ◌∷◌, ◌++◌, ◌≡◌, leb, ltb, eqb, Float, length, get_or, drop, Option, Some, None, Result, Ok, Err}
use Rattle.std.specs.Float.{binary32, nan}
use Rattle.std.specs.Float.Ieee.{of_bits, to_bits}
use Rattle.num_words.specs.Words.{big, little}
use Rattle.pointwise.specs.Points.{each}
use Rattle.num_text.specs.Text.{decimal}
use Rattle.num_text.specs.Appended.{Appended}
use Rattle.say_pgm.specs.declared.Header.{Header}
use Rattle.say_pgm.specs.declared.Field.{Field}
use Rattle.say_pgm.specs.declared.Frame.{Frame}
use Rattle.say_pgm.specs.declared.FrameError.{FrameError}
use Rattle.say_pgm.specs.declared.FrameError.TheVariants.{Broken, Short, TooLarge}

-- ---- white space and comments

-- space, TAB, LF, CR
abbrev pub white : ℕ → Bool
white b = eqb b 32 || (eqb b 9 || (eqb b 10 || eqb b 13))

abbrev pub line_end : ℕ → Bool
line_end b = eqb b 10 || eqb b 13

-- a byte that is passed over: in a comment every one, outside white space and the `#` that starts a comment
unfoldable pub goes_on : (comment : Bool) → ℕ → Bool
goes_on true b = true
goes_on false b = white b || eqb b 35

-- whether the byte after b stands in a comment
unfoldable pub inside : (comment : Bool) → ℕ → Bool
inside true b = not (line_end b)
inside false b = eqb b 35

-- how many bytes are passed over
unfoldable pub blanks : (comment : Bool) → List ℕ → ℕ
blanks c [] = 0
blanks c (b ∷ s) = cond (goes_on c b) (suc (blanks (inside c b) s)) 0

-- past the white space and the comments from the position `at` on
unfoldable pub past : List ℕ → ℕ → ℕ
past s at = at + blanks false (drop at s)

-- ---- numbers

abbrev pub is_digit : ℕ → Bool
is_digit b = leb 48 b && leb b 57

-- how many digits stand at the front
unfoldable pub digits_in : List ℕ → ℕ
digits_in [] = 0
digits_in (b ∷ s) = cond (is_digit b) (suc (digits_in s)) 0

-- what they say in decimal, after digits that say v
unfoldable pub decimal_from : ℕ → List ℕ → ℕ
decimal_from v [] = v
decimal_from v (b ∷ s) = cond (is_digit b) (decimal_from (v * 10 + (b - 48)) s) v

-- the number at the position `at`
unfoldable pub number_at : List ℕ → ℕ → Field
number_at s at = record { from = at; end = at + digits_in (drop at s); value = decimal_from 0 (drop at s) }

-- f is the number at `at`, but that it says 65,537 where the number is larger still
pub record Held (s : List ℕ) (at : ℕ) (f : Field) : Type 0 where
  pub starts : f.from ≡ at
  pub ends : f.end ≡ (number_at s at).end
  pub held : f.value ≡ min 65537 (number_at s at).value

-- ---- the header

-- a field after `at`: white space, then a digit, then a value from low to high
unfoldable pub sound : (at : ℕ) → Field → (low high : ℕ) → Bool
sound at f low high = ltb at f.from && (ltb f.from f.end && (leb low f.value && leb f.value high))

-- `P`, `5`
unfoldable pub p5 : List ℕ → Bool
p5 s = eqb (get_or s 0 0) 80 && eqb (get_or s 1 0) 53

-- the three numbers, each after the white space that follows the one before
unfoldable pub field_at : List ℕ → ℕ → Field
field_at s at = number_at s (past s at)

-- they are a header's, and one byte of white space follows
abbrev pub is_header : List ℕ → (w h m : Field) → Bool
is_header s w h m = p5 s && (sound 2 w 0 65536 &&
    (sound w.end h 0 65536 && (sound h.end m 1 65535 && white (get_or s m.end 0))))

abbrev pub headed : (width height maxval at : ℕ) → Option Header
headed w h m at = Some (record { width = w; height = h; maxval = m; at = at })

abbrev pub header_on : List ℕ → (w h m : Field) → Option Header
header_on s w h m = cond (is_header s w h m) (headed w.value h.value m.value (m.end + 1)) None

unfoldable pub header_of : List ℕ → Option Header
header_of s = header_on s (field_at s 2) (field_at s (field_at s 2).end) (field_at s (field_at s (field_at s 2).end).end)

-- ---- a frame in a file

-- how many bytes n samples are
unfoldable pub raster_len : (n maxval : ℕ) → ℕ
raster_len n maxval = cond (ltb maxval 256) n (2 * n)

abbrev pub whole : (width height maxval samples at end : ℕ) → Result Frame FrameError
whole w h m n at end = Ok (record { width = w; height = h; maxval = m; samples = n; at = at; end = end })

-- most: how many samples there is room for; len: how many bytes the file has
unfoldable pub sized_on : (most len w h m at n : ℕ) → Result Frame FrameError
sized_on most len w h m at n =
    cond (leb n most) (cond (leb (raster_len n m) (len - at)) (whole w h m n at (at + raster_len n m)) (Err Short)) (Err TooLarge)

abbrev pub frame_on : (most len : ℕ) → Option Header → Result Frame FrameError
frame_on most len (Some h) = sized_on most len h.width h.height h.maxval h.at (h.width * h.height)
frame_on most len None = Err Broken

unfoldable pub frame_of : List ℕ → (most : ℕ) → Result Frame FrameError
frame_of s most = frame_on most (length s) (header_of s)

-- what every header keeps to
pub record InSizes (w h at len : ℕ) : Type 0 where
  pub narrow : w ≤ 65536
  pub low : h ≤ 65536
  pub inside-it : at ≤ len

-- ---- a number by itself

abbrev pub is_number : List ℕ → Field → Bool
is_number s f = ltb 0 f.end && (eqb f.end (length s) && leb f.value 65536)

unfoldable pub word_of : List ℕ → Option ℕ
word_of s = cond (is_number s (number_at s 0)) (Some (number_at s 0).value) None

-- ---- the raster

-- sample i: a byte, or two with the high one first where the largest value does not fit a byte; 0 past the end
unfoldable pub sample_at : List ℕ → (maxval : ℕ) → ℕ → ℕ
sample_at raster maxval i = cond (ltb maxval 256) (get_or raster i 0) (big 2 raster (2 * i))

-- a sample as it is written: held to the largest value
abbrev pub held_to : (maxval : ℕ) → List ℕ → ℕ → ℕ
held_to maxval s i = min (get_or s i 0) maxval

-- byte j of the raster of the samples s; v past them
unfoldable pub byte_at : List ℕ → (maxval : ℕ) → ℕ → ℕ → ℕ
byte_at s maxval j v =
    cond (ltb maxval 256) (cond (ltb j (length s)) (held_to maxval s j) v)
    (cond (ltb (j / 2) (length s)) (cond (eqb (j % 2) 0) (held_to maxval s (j / 2) / 256)
    (held_to maxval s (j / 2) % 256)) v)

-- how many samples lie above the largest value
unfoldable pub over : (maxval : ℕ) → List ℕ → ℕ
over m [] = 0
over m (v ∷ s) = cond (ltb m v) 1 0 + over m s

pub record Encoded (s : List ℕ) (maxval : ℕ) (out₀ : List ℕ) (r : ℕ) (out : List ℕ) : Type 0 where
  pub counted : r ≡ over maxval s
  pub raster : out ≡ each (byte_at s maxval) out₀

-- ---- raw frames of f32, little-endian

-- how many samples a frame has; one more than any where a side is too long
unfoldable pub area_of : (width height : ℕ) → ℕ
area_of w h = cond (leb w 65536) (cond (leb h 65536) (w * h) 4294967297) 4294967297

-- sample i: four bytes, the lowest first; 0 past the end
unfoldable pub float_at : List ℕ → ℕ → Float
float_at raster i = of_bits binary32 (little 4 raster (4 * i))

-- byte k of a word of 32 bits, the lowest first
unfoldable pub nth_byte : ℕ → ℕ → ℕ
nth_byte bits k =
    cond (eqb k 0) (bits % 256) (cond (eqb k 1) (bits / 256 % 256)
    (cond (eqb k 2) (bits / 65536 % 256) (bits / 16777216 % 256)))

-- byte j of the raster of the samples s; v past them
unfoldable pub float_byte_at : List Float → ℕ → ℕ → ℕ
float_byte_at s j v = cond (ltb (j / 4) (length s)) (nth_byte (to_bits binary32 (get_or s (j / 4) nan)) (j % 4)) v

-- ---- a header, written; 80, 53, 10 are `P`, `5` and a newline, 32 a space

unfoldable pub header_text : (width height maxval : ℕ) → List ℕ
header_text w h m = (((80 ∷ 53 ∷ 10 ∷ decimal w) ++ (32 ∷ decimal h)) ++ (10 ∷ decimal m)) ++ (10 ∷ [])

-- the bytes p and the number n behind the text of the buffer b, up to r, in no more than 20 bytes for the number
pub record Put (b : List ℕ) (at : ℕ) (p : List ℕ) (n r : ℕ) (o : List ℕ) : Type 0 where
  pub appended : Appended b at (p ++ decimal n) r o
  pub short : r ≤ at + length p + 20
