-- Samples that stand in bytes. Document 01, its last line: samples little-endian. Over the kind A where the two kinds
-- do not differ.
use Rattle.std.specs.Prelude.{ℕ, ◌*◌, ◌/◌, ◌%◌, ◌^◌, List, Float, ◌≡◌, length, get_or, replicate}
use Rattle.std.specs.Float.{binary32}
use Rattle.std.specs.Float.Ieee.{of_bits}
use Rattle.num_words.specs.Words.{little}
use Rattle.pointwise.specs.Points.{each, between}
use Rattle.dng.specs.Value.{nought}

-- the sample i of the bytes b
abbrev pub float_at : List ℕ → ℕ → Float
float_at b i = of_bits binary32 (little 4 b (i * 4))

abbrev pub whole_at : List ℕ → ℕ → ℕ
whole_at b i = little 2 b (i * 2)

module _ {A : Type 0} where
  -- as many samples as there is room for, whatever stood there
  unfoldable pub decoded : (ℕ → A) → List A → List A
  decoded at room = each (λ i v. at i) room

  -- the byte j of the samples s, each of which takes `size` bytes of its pattern, the lowest first
  unfoldable pub byte_of : (size : ℕ) → (A → ℕ) → A → List A → ℕ → ℕ
  byte_of size bits none s j = bits (get_or s (j / size) none) / 256 ^ (j % size) % 256

  -- the bytes b with the samples s in front; what stands after them stays
  unfoldable pub encoded : (size : ℕ) → (A → ℕ) → A → List A → List ℕ → List ℕ
  encoded size bits none s b = each (between 0 (length s * size) (λ j v. byte_of size bits none s j)) b

  -- room that holds nothing but z
  unfoldable pub cleared : A → List A → List A
  cleared z room = replicate (length room) z

-- the samples that stand whole in b; bytes left over do not count
abbrev pub floats_in : List ℕ → List Float
floats_in b = decoded (float_at b) (replicate (length b / 4) nought)

abbrev pub wholes_in : List ℕ → List ℕ
wholes_in b = decoded (whole_at b) (replicate (length b / 2) 0)

-- what a kind of sample is in bytes: its size, what clears room for it, where it stands, its pattern, and its value for
-- a place that is never looked at
pub record IsInBytes {A : Type 0} (size : ℕ) (zero : A) (at : List ℕ → ℕ → A) (bits : A → ℕ) (none : A)
    (its_size : ℕ) (its_zero : A) (its_at : List ℕ → ℕ → A) (its_bits : A → ℕ) (its_none : A) : Type 0 where
  pub same_size : size ≡ its_size
  pub same_zero : zero ≡ its_zero
  pub same_at : at ≡ its_at
  pub same_bits : bits ≡ its_bits
  pub same_none : none ≡ its_none
