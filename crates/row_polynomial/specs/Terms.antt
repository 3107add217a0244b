-- The coefficients of a polynomial as the code carries them, nine by value: the missing high ones are 0. Document 01,
-- 'What each does to a value', MapPolynomial: Horner from 0 with the highest coefficient first.
use Rattle.std.specs.Prelude.{ℕ, zero, suc, ◌+◌, ◌*◌, ◌≡◌, cond, List, leb, get_or, Float}
use Rattle.std.specs.Float.{binary32, binary64}
use Rattle.std.specs.Float.Ieee.{add, mul, div}
use Rattle.num_convert.specs.Convert.{whole_in}
use Rattle.dng.specs.List.{f64_at}
use Rattle.dng.specs.Value.{nought}
use Rattle.row_polynomial.specs.declared.polynomial.Polynomial.{Polynomial}

-- the coefficient of x^k in a polynomial of the given degree
unfoldable pub term_at : (degree : ℕ) → List ℕ → ℕ → Float
term_at degree b k = cond (leb k degree) (f64_at b (36 + 8 * k)) nought

pub record Holds (p : Polynomial) (degree : ℕ) (scale : Float) (b : List ℕ) : Type 0 where
  pub degree_is : p.degree ≡ degree
  pub scale_is : p.scale ≡ scale
  pub terms_are : (k : ℕ) → get_or p.terms k nought ≡ term_at degree b k

-- one step of Horner, and all of them over any coefficients
abbrev pub step : Float → Float → Float → Float
step x acc c = add binary64 (mul binary64 acc x) c

unfoldable pub over : (ℕ → Float) → Float → ℕ → Float → Float
over c x zero acc = acc
over c x (suc k) acc = over c x k (step x acc (c k))

-- the polynomial at x
unfoldable pub value_of : Polynomial → Float → Float
value_of p x = over (λ k. get_or p.terms k nought) x (suc p.degree) nought

-- the x of a value, and what is narrowed to the new value
unfoldable pub xOf : (scale : Float) → Float → Float
xOf scale v = div binary32 (mul binary32 v scale) (whole_in binary32 65535)

unfoldable pub wide_of : Polynomial → Float → Float
wide_of p v = div binary64 (mul binary64 (value_of p (xOf p.scale v)) (whole_in binary64 65535)) p.scale
