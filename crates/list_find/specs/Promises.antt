-- What a caller may conclude from the contract of `find` alone. proofs/Theorems proves it.
use Rattle.std.specs.Prelude.{ℕ, ◌+◌, ◌≤◌, false, List, Err, ◌↔◌, ◌≡◌, length}
use Rattle.list_find.specs.declared.Which.{Which}
use Rattle.list_find.specs.declared.FindError.TheVariants.{NotTiff}
use Rattle.list_find.specs.Walk.{Found, At, headed, found_in, part_of}

pub record Promises : Type 0 where
  -- two answers to one question are one
  pub determined : (s : List ℕ) (which : Which) (a b : Found) → a ≡ found_in s which → b ≡ found_in s which → a ≡ b
  -- a list that is found lies inside the file, and `part` hands out all of it
  pub inside : (s : List ℕ) (which : Which) (start len : ℕ) → found_in s which ≡ At start len → start + len ≤ length s
  pub handed :
      (s : List ℕ) (which : Which) (start len : ℕ) → found_in s which ≡ At start len → length (part_of s start len) ≡ len
  -- 30 exactly where the header is not TIFF's
  pub tiff : (s : List ℕ) (which : Which) → (found_in s which ≡ Err NotTiff) ↔ (headed s ≡ false)
