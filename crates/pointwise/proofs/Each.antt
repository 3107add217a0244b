-- What stands at a place of `each f l`, and when two lists made so are equal. Over any kind A; `d` is what `get_or` gives past the end.
-- Assumes nothing.
use Prim.Native.Nat.{ℕ, zero, suc, ◌+◌, ◌≤◌, ◌<◌}
use mathlib.Core.Path.{◌≡◌, refl, sym, ap, ap₂, subst, ◌∙◌}
use mathlib.Core.List.{List, [], ◌∷◌, ◌++◌}
use native.Mathlib.Nat.{zero-add, add-zero, add-suc, suc-add, le_of_suc-le-suc, not-suc-le-zero}
use native.Mathlib.Decide.{dec_lt}
use native.Mathlib.Omega.{arith}
use lib.ListN.{length, get_or, take, drop}
use lib.Seq.{ext_get_or}
use Rattle.pointwise.specs.Points.{each_from, each}

-- a case split by order
pub below_or : {C : Type 0} (a b : ℕ) → (a < b → C) → (b ≤ a → C) → C
below_or {C} a b lo hi = go (dec_lt a b)
  where
    go : Dec (a < b) → C
    go (yes p) = lo p
    go (no p) = hi (omega arith)

module _ {A : Type 0} where
  length_from : (f : ℕ → A → A) (k : ℕ) (l : List A) → length (each_from f k l) ≡ length l
  length_from f k [] = refl
  length_from f k (x ∷ xs) = ap suc (length_from f (suc k) xs)

  get_or-from : (f : ℕ → A → A) (k : ℕ) (l : List A) (i : ℕ) (d : A) → i < length l → get_or (each_from f k l) i d ≡ f (k + i) (get_or l i d)
  get_or-from f k [] i d h = absurd (not-suc-le-zero h)
  get_or-from f k (x ∷ xs) zero d h = rw add-zero
  get_or-from f k (x ∷ xs) (suc i) d h =
      get_or-from f (suc k) xs i d (le_of_suc-le-suc h) ∙ ap (λ (j : ℕ). f j (get_or xs i d)) (suc-add k i ∙ sym (add-suc k i))

  -- the same places: `f` from k is `λ i. f (k + i)` from 0
  from-shift : (f : ℕ → A → A) (k m : ℕ) (l : List A) → each_from f (k + m) l ≡ each_from (λ i. f (k + i)) m l
  from-shift f k m [] = refl
  from-shift f k m (x ∷ xs) = ap (◌∷◌ (f (k + m) x)) (ap (λ (j : ℕ). each_from f j xs) (sym (add-suc k m)) ∙ from-shift f k (suc m) xs)

  pub length-each : (f : ℕ → A → A) (l : List A) → length (each f l) ≡ length l
  unfolding each
  length-each f l = length_from f 0 l

  pub get_or-each : (f : ℕ → A → A) (l : List A) (i : ℕ) (d : A) → i < length l → get_or (each f l) i d ≡ f i (get_or l i d)
  unfolding each
  get_or-each f l i d h = get_or-from f 0 l i d h ∙ ap (λ (j : ℕ). f j (get_or l i d)) (zero-add i)

  -- a list of the same length that has `f i` of the old element at each place is `each f`
  pub is-each : (d : A) (f : ℕ → A → A) (l r : List A) → length r ≡ length l
      → ((i : ℕ) → i < length l → get_or r i d ≡ f i (get_or l i d)) → r ≡ each f l
  is-each d f l r same at =
      ext_get_or d r (each f l) (same ∙ sym (length-each f l))
      (λ i h. let q : i < length l = subst (λ (n : ℕ). i < n) same h in at i q ∙ sym (get_or-each f l i d q))

  -- functions that agree, at each place, on the element that stands there
  pub each-ext : (d : A) (f g : ℕ → A → A) (l : List A)
      → ((i : ℕ) → i < length l → f i (get_or l i d) ≡ g i (get_or l i d)) → each f l ≡ each g l
  each-ext d f g l h = is-each d g l (each f l) (length-each f l) (λ i q. get_or-each f l i d q ∙ h i q)

  -- a function that leaves each element as it stands
  pub each-id : (d : A) (f : ℕ → A → A) (l : List A) → ((i : ℕ) → i < length l → f i (get_or l i d) ≡ get_or l i d) → each f l ≡ l
  each-id d f l h = sym (is-each d f l l refl (λ i q. sym (h i q)))

  from-agree : (f g : ℕ → A → A) (k : ℕ) (l : List A) → ((i : ℕ) (v : A) → i < length l → f (k + i) v ≡ g (k + i) v)
      → each_from f k l ≡ each_from g k l
  from-agree f g k [] h = refl
  from-agree f g k (x ∷ xs) h =
      ap₂ ◌∷◌ (rw add-zero at (h 0 x (omega arith)))
      (from-agree f g (suc k) xs (λ i v q. rw (suc-add, ← add-suc) (h (suc i) v (omega arith))))

  -- functions that agree on every value at each place below the length: no element to name
  pub each-agree : (f g : ℕ → A → A) (l : List A) → ((i : ℕ) (v : A) → i < length l → f i v ≡ g i v) → each f l ≡ each g l
  unfolding each
  each-agree f g l h = from-agree f g 0 l (λ i v q. rw zero-add (h i v q))

  from-id : (k : ℕ) (l : List A) → each_from (λ i v. v) k l ≡ l
  from-id k [] = refl
  from-id k (x ∷ xs) = ap (◌∷◌ x) (from-id (suc k) xs)

  -- a function that leaves every value at each place below the length
  pub each_none : (f : ℕ → A → A) (l : List A) → ((i : ℕ) (v : A) → i < length l → f i v ≡ v) → each f l ≡ l
  unfolding each
  each_none f l h = each-agree f (λ i v. v) l h ∙ from-id 0 l

  from-from : (f g : ℕ → A → A) (k : ℕ) (l : List A) → each_from g k (each_from f k l) ≡ each_from (λ i v. g i (f i v)) k l
  from-from f g k [] = refl
  from-from f g k (x ∷ xs) = ap (◌∷◌ (g k (f k x))) (from-from f g (suc k) xs)

  -- two runs are one: first f, then g
  pub each-each : (f g : ℕ → A → A) (l : List A) → each g (each f l) ≡ each (λ i v. g i (f i v)) l
  unfolding each
  each-each f g l = from-from f g 0 l

  from-append : (f : ℕ → A → A) (k : ℕ) (s t : List A) → each_from f k (s ++ t) ≡ each_from f k s ++ each_from f (k + length s) t
  from-append f k [] t = rw add-zero
  from-append f k (x ∷ xs) t = ap (◌∷◌ (f k x)) (from-append f (suc k) xs t ∙ rw (suc-add, ← add-suc))

  pub each_append : (f : ℕ → A → A) (s t : List A) → each f (s ++ t) ≡ each f s ++ each (λ i. f (length s + i)) t
  unfolding each
  each_append f s t =
      from-append f 0 s t
      ∙ ap (λ (j : ℕ). each_from f 0 s ++ each_from f j t) (omega arith)
      ∙ ap (◌++◌ (each_from f 0 s)) (from-shift f (length s) 0 t)

  from-take : (f : ℕ → A → A) (k n : ℕ) (l : List A) → take n (each_from f k l) ≡ each_from f k (take n l)
  from-take f k zero l = refl
  from-take f k (suc n) [] = refl
  from-take f k (suc n) (x ∷ xs) = ap (◌∷◌ (f k x)) (from-take f (suc k) n xs)

  pub take-each : (f : ℕ → A → A) (n : ℕ) (l : List A) → take n (each f l) ≡ each f (take n l)
  unfolding each
  take-each f n l = from-take f 0 n l

  from-drop : (f : ℕ → A → A) (k n : ℕ) (l : List A) → drop n (each_from f k l) ≡ each_from f (k + n) (drop n l)
  from-drop f k zero l = rw add-zero
  from-drop f k (suc n) [] = refl
  from-drop f k (suc n) (x ∷ xs) = from-drop f (suc k) n xs ∙ rw (suc-add, ← add-suc)

  pub drop-each : (f : ℕ → A → A) (n : ℕ) (l : List A) → drop n (each f l) ≡ each (λ i. f (n + i)) (drop n l)
  unfolding each
  drop-each f n l = from-drop f 0 n l ∙ ap (λ (j : ℕ). each_from f j (drop n l)) (omega arith) ∙ from-shift f n 0 (drop n l)
