-- Worked values of the definitions, each by computing both sides. A slip in `Words` fails here.
use Rattle.std.specs.Prelude.{◌≡◌, true, false, [], ◌∷◌, pos, negsuc, refl, Ok, Err}
use Rattle.std.specs.Float.{nan, inf, fin, binary32, binary64}
use Rattle.std.specs.Float.Ieee.{of_bits, to_bits}
use Rattle.num_words.specs.Words.{big, little, put, cut, word_in}

-- ---- words

-- 01 02 with the first byte weighing most is 1 · 256 + 2
pub big-two : big 2 (1 ∷ 2 ∷ []) 0 ≡ 258
unfolding big
big-two = refl

-- and with the first byte weighing least 1 + 2 · 256
pub little-two : little 2 (1 ∷ 2 ∷ []) 0 ≡ 513
unfolding little
little-two = refl

-- four bytes from the second on, in either order
pub big-four : big 4 (9 ∷ 1 ∷ 2 ∷ 3 ∷ 4 ∷ 9 ∷ []) 1 ≡ 0x01020304
unfolding big
big-four = refl

pub little-four : little 4 (9 ∷ 1 ∷ 2 ∷ 3 ∷ 4 ∷ 9 ∷ []) 1 ≡ 0x04030201
unfolding little
little-four = refl

-- all eight, none of them twice
pub big-eight : big 8 (1 ∷ 2 ∷ 3 ∷ 4 ∷ 5 ∷ 6 ∷ 7 ∷ 8 ∷ []) 0 ≡ 0x0102030405060708
unfolding big
big-eight = refl

-- a word that runs past the end: the bytes that are not there count as 0
pub big-across : big 4 (1 ∷ 2 ∷ []) 1 ≡ 0x02000000
unfolding big
big-across = refl

pub little-across : little 4 (1 ∷ 2 ∷ []) 1 ≡ 2
unfolding little
little-across = refl

-- a word that starts past the end is 0
pub big-past : big 4 (1 ∷ 2 ∷ []) 9 ≡ 0
unfolding big
big-past = refl

-- of a part that ends with the word it is read, of one that is a byte shorter it is cut at its first byte
pub word-whole : word_in (9 ∷ 1 ∷ 2 ∷ 3 ∷ 4 ∷ []) 1 4 ≡ Ok 0x01020304
unfolding big word_in
word-whole = refl

pub word_cut : word_in (9 ∷ 1 ∷ 2 ∷ 3 ∷ 4 ∷ []) 1 3 ≡ Err (cut 1)
unfolding word_in
word_cut = refl

-- ---- what is put

-- the lowest byte first, the places beside it as they were, and of a longer number only the low bytes
pub put_two : put 2 (1 ∷ 2 ∷ 3 ∷ 4 ∷ []) 1 0x0c0b0a ≡ 1 ∷ 10 ∷ 11 ∷ 4 ∷ []
unfolding put
put_two = refl

-- at the last place only the low byte is kept, past the end nothing
pub put-across : put 2 (1 ∷ 2 ∷ 3 ∷ []) 2 0x0b0a ≡ 1 ∷ 2 ∷ 10 ∷ []
unfolding put
put-across = refl

pub put-past : put 2 (1 ∷ 2 ∷ 3 ∷ []) 3 0x0b0a ≡ 1 ∷ 2 ∷ 3 ∷ []
unfolding put
put-past = refl

-- ---- f32 by its bits

-- 3f 80 00 00 in a list is 1.0
pub single-one : of_bits binary32 (big 4 (0x3f ∷ 0x80 ∷ 0 ∷ 0 ∷ []) 0) ≡ fin false 1 (pos 0)
unfolding big of_bits
single-one = refl

-- −0 keeps its sign
pub single-minus-zero : of_bits binary32 0x8000_0000 ≡ fin true 0 (pos 0)
unfolding of_bits
single-minus-zero = refl

-- the smallest subnormal, 2 ^ −149
pub single-least : of_bits binary32 1 ≡ fin false 1 (negsuc 148)
unfolding of_bits
single-least = refl

-- the largest finite value, (2 ^ 24 − 1) · 2 ^ 104
pub single-most : of_bits binary32 0x7f7f_ffff ≡ fin false 0xff_ffff (pos 104)
unfolding of_bits
single-most = refl

-- the infinities
pub single-inf : of_bits binary32 0x7f80_0000 ≡ inf false
unfolding of_bits
single-inf = refl

pub single-minus-inf : of_bits binary32 0xff80_0000 ≡ inf true
unfolding of_bits
single-minus-inf = refl

-- a quiet and a signalling NaN pattern, with payload and sign: both are the one NaN
pub single-quiet : of_bits binary32 0xffc0_0123 ≡ nan
unfolding of_bits
single-quiet = refl

pub single-signalling : of_bits binary32 0xff80_0001 ≡ nan
unfolding of_bits
single-signalling = refl

-- the pattern that is written for NaN
pub single-nan : to_bits binary32 nan ≡ 0x7fc0_0000
unfolding to_bits
single-nan = refl

-- and for 1.5 and the infinities
pub single-bits : to_bits binary32 (fin false 3 (negsuc 0)) ≡ 0x3fc0_0000
unfolding to_bits
single-bits = refl

pub single-inf-bits : to_bits binary32 (inf true) ≡ 0xff80_0000
unfolding to_bits
single-inf-bits = refl

-- ---- f64 by its bits

pub double-one : of_bits binary64 (big 8 (0x3f ∷ 0xf0 ∷ 0 ∷ 0 ∷ 0 ∷ 0 ∷ 0 ∷ 0 ∷ []) 0) ≡ fin false 1 (pos 0)
unfolding big of_bits
double-one = refl

pub double-minus-zero : of_bits binary64 0x8000_0000_0000_0000 ≡ fin true 0 (pos 0)
unfolding of_bits
double-minus-zero = refl

-- the smallest subnormal, 2 ^ −1074
pub double-least : of_bits binary64 1 ≡ fin false 1 (negsuc 1073)
unfolding of_bits
double-least = refl

-- the largest finite value, (2 ^ 53 − 1) · 2 ^ 971
pub double-most : of_bits binary64 0x7fef_ffff_ffff_ffff ≡ fin false 0x1f_ffff_ffff_ffff (pos 971)
unfolding of_bits
double-most = refl

pub double-inf : of_bits binary64 0x7ff0_0000_0000_0000 ≡ inf false
unfolding of_bits
double-inf = refl

pub double-minus-inf : of_bits binary64 0xfff0_0000_0000_0000 ≡ inf true
unfolding of_bits
double-minus-inf = refl

pub double-quiet : of_bits binary64 0xfff8_0000_0000_0123 ≡ nan
unfolding of_bits
double-quiet = refl

pub double-signalling : of_bits binary64 0xfff0_0000_0000_0001 ≡ nan
unfolding of_bits
double-signalling = refl
