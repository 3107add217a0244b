-- Bytes as text: two digits for each, 0 to 9 and a to f, the high one first.
use Rattle.std.specs.Prelude.{ℕ, zero, suc, ◌+◌, ◌/◌, ◌%◌, cond, List, [], ◌∷◌, ◌++◌, ◌≡◌, refl, ltb, get_or}

abbrev pub digit_of : ℕ → ℕ
digit_of d = cond (ltb d 10) (48 + d) (87 + d)

abbrev pub pair_of : ℕ → List ℕ
pair_of b = digit_of (b / 16) ∷ digit_of (b % 16) ∷ []

-- the digits of the first n bytes of s
unfoldable pub hex_to : List ℕ → ℕ → List ℕ
hex_to s zero = []
hex_to s (suc n) = hex_to s n ++ pair_of (get_or s n 0)

-- 3eff
two : hex_to (62 ∷ 255 ∷ []) 2 ≡ 51 ∷ 101 ∷ 102 ∷ 102 ∷ []
unfolding hex_to
two = refl
