-- Numbers that stand in bytes. A byte past the end of the list counts as 0, so that a word is defined at every
-- position; whether a word lies inside is asked where the list's layout is defined.
-- Document 01, 'The list': big-endian throughout; its last line: samples little-endian.
use Rattle.std.specs.Prelude.{ℕ, zero, suc, ◌+◌, ◌*◌, ◌/◌, ◌%◌, ◌^◌, cond, List, nat_le, slice_index, slice_set, Result, Ok, Err}
use Rattle.num_words.specs.declared.Cut.{Cut}

-- the k bytes of s from the position at on, the first weighing most
unfoldable pub big : ℕ → List ℕ → ℕ → ℕ
big zero s at = 0
big (suc k) s at = big k s at * 256 + slice_index s (at + k)

-- the k bytes of s from the position at on, the first weighing least
unfoldable pub little : ℕ → List ℕ → ℕ → ℕ
little zero s at = 0
little (suc k) s at = little k s at + slice_index s (at + k) * 256 ^ k

-- s with the k low bytes of n written from the position at on, the lowest first; what would fall past the end is
-- dropped
unfoldable pub put : ℕ → List ℕ → ℕ → ℕ → List ℕ
put zero s at n = s
put (suc k) s at n = slice_set (put k s at n) (at + k) (n / 256 ^ k % 256)

abbrev pub cut : ℕ → Cut
cut at = record { at = at }

-- the word at a position, of a part that has `left` bytes from there on; where these are fewer than four, the position.
-- Document 02, M-100
unfoldable pub word_in : List ℕ → (at left : ℕ) → Result ℕ Cut
word_in s at left = cond (nat_le 4 left) (Ok (big 4 s at)) (Err (cut at))
