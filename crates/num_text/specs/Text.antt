-- Text as bytes: quoted text, and a number in decimal.
use Rattle.std.specs.Prelude.{ℕ, zero, suc, ◌+◌, ◌/◌, ◌%◌, ◌≡◌, refl, cond, List, [], ◌∷◌, ◌++◌, ltb}
use Prim.Native.Char.{code}
use Prim.Native.String.{String, [] as none, ◌∷◌ as ◌then◌}

-- the codes of a quoted text, which for ASCII are its bytes
abbrev pub text : String → List ℕ
text none = []
text (c then s) = code c ∷ text s

-- ---- a number in decimal: no sign and no zeros in front

-- the k lowest digits of n, and no zeros in front of the highest one; the `let` is there so that a computation ends
-- with the digits
unfoldable pub digits_in : ℕ → ℕ → List ℕ
digits_in zero n = []
digits_in (suc k) n = let more = digits_in k (n / 10) ++ ((48 + n % 10) ∷ []) in cond (ltb n 10) ((48 + n) ∷ []) more

-- no number has more digits than it has units, but 0, which has one
unfoldable pub decimal : ℕ → List ℕ
decimal n = digits_in (suc n) n

zero_is : decimal 0 ≡ text "0"
unfolding decimal digits_in
zero_is = refl

one-digit : decimal 7 ≡ text "7"
unfolding decimal digits_in
one-digit = refl

two_digits : decimal 10 ≡ text "10"
unfolding decimal digits_in
two_digits = refl

a-count : decimal 4096 ≡ text "4096"
unfolding decimal digits_in
a-count = refl

the-largest : decimal 18446744073709551615 ≡ text "18446744073709551615"
unfolding decimal digits_in
the-largest = refl
