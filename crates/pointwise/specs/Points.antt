-- A list changed place by place: what stands at a place afterwards depends only on the place and on what stood there.
-- Every run over samples is stated in these words, over any sample kind A. Definitions only; the laws are in proofs/.
use Rattle.std.specs.Prelude.{ℕ, suc, cond, List, [], ◌∷◌, leb, ltb}

module _ {A : Type 0} where
  -- `f k x` at each place, the first place being k
  abbrev pub each_from : (ℕ → A → A) → ℕ → List A → List A
  each_from f k [] = []
  each_from f k (x ∷ xs) = f k x ∷ each_from f (suc k) xs

  -- `f i x` at each place i, counted from 0
  unfoldable pub each : (ℕ → A → A) → List A → List A
  each f l = each_from f 0 l

  -- `f` at the places below n, nothing elsewhere
  unfoldable pub before : ℕ → (ℕ → A → A) → ℕ → A → A
  before n f i v = cond (ltb i n) (f i v) v

  -- `f` at the places from a up to e, e left out, nothing elsewhere
  unfoldable pub between : ℕ → ℕ → (ℕ → A → A) → ℕ → A → A
  between a e f i v = cond (leb a i) (cond (ltb i e) (f i v) v) v
