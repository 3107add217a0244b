-- Runs that stop short: the cases of `before` and `between`, a run taken further, a part run by itself, one store.
-- Over any kind A; `d` is what `get_or` gives past the end. Assumes nothing.
use Prim.Native.Nat.{ℕ, ◌+◌, ◌-◌, ◌≤◌, ◌<◌}
use mathlib.Core.Path.{◌≡◌, refl, sym, ap, ap₂, subst, ◌∙◌}
use mathlib.Core.Bool.{Bool, true, false, cond}
use mathlib.Core.List.{List, ◌++◌}
use native.Mathlib.Omega.{arith}
use borrow.Author.Tests.{lt-ltb, le-ltb, le-leb, lt-leb}
use lib.Dec.{leb, ltb}
use lib.ListN.{length, get_or, take, drop, set, length-drop, length-set, take-append-drop}
use lib.Seq.{get_or-set_same, get_or-set_other, length-take-le}
use Rattle.pointwise.specs.Points.{each, before, between}
use Rattle.pointwise.proofs.Each.{below_or, length-each, get_or-each, is-each, each-ext, each-agree, each_none, each-each, each_append}

module _ {A : Type 0} where
  pub before-in : (n : ℕ) (f : ℕ → A → A) (i : ℕ) (v : A) → i < n → before n f i v ≡ f i v
  unfolding before
  before-in n f i v h = ap (λ (b : Bool). cond b (f i v) v) (lt-ltb i n h)

  pub before-out : (n : ℕ) (f : ℕ → A → A) (i : ℕ) (v : A) → n ≤ i → before n f i v ≡ v
  unfolding before
  before-out n f i v h = ap (λ (b : Bool). cond b (f i v) v) (le-ltb i n h)

  pub between_in : (a e : ℕ) (f : ℕ → A → A) (i : ℕ) (v : A) → a ≤ i → i < e → between a e f i v ≡ f i v
  unfolding between
  between_in a e f i v h q = ap₂ (λ (b c : Bool). cond b (cond c (f i v) v) v) (le-leb a i h) (lt-ltb i e q)

  pub between-low : (a e : ℕ) (f : ℕ → A → A) (i : ℕ) (v : A) → i < a → between a e f i v ≡ v
  unfolding between
  between-low a e f i v h = ap (λ (b : Bool). cond b (cond (ltb i e) (f i v) v) v) (lt-leb a i h)

  pub between-high : (a e : ℕ) (f : ℕ → A → A) (i : ℕ) (v : A) → e ≤ i → between a e f i v ≡ v
  unfolding between
  between-high a e f i v h = ap (λ (b : Bool). cond (leb a i) (cond b (f i v) v) v) (le-ltb i e h) ∙ either (leb a i)
    where
      either : (b : Bool) → cond b v v ≡ v
      either true = refl
      either false = refl

  pub each-before-zero : (f : ℕ → A → A) (l : List A) → each (before 0 f) l ≡ l
  each-before-zero f l = each_none (before 0 f) l (λ i v h. before-out 0 f i v (omega arith))

  pub each-before-all : (n : ℕ) (f : ℕ → A → A) (l : List A) → length l ≤ n → each (before n f) l ≡ each f l
  each-before-all n f l q = each-agree (before n f) f l (λ i v h. before-in n f i v (omega arith))

  pub each-between-empty : (a e : ℕ) (f : ℕ → A → A) (l : List A) → e ≤ a → each (between a e f) l ≡ l
  each-between-empty a e f l q =
      each_none (between a e f) l (λ i v h. below_or i a (between-low a e f i v) (λ p. between-high a e f i v (omega arith)))

  -- a run that starts past the end does nothing
  pub each-between-past : (a e : ℕ) (f : ℕ → A → A) (l : List A) → length l ≤ a → each (between a e f) l ≡ l
  each-between-past a e f l q = each_none (between a e f) l (λ i v h. between-low a e f i v (omega arith))

  -- a run from 0 is one before its end
  pub between-zero : (e : ℕ) (f : ℕ → A → A) (i : ℕ) (v : A) → between 0 e f i v ≡ before e f i v
  between-zero e f i v =
      below_or i e (λ h. between_in 0 e f i v (omega arith) h ∙ sym (before-in e f i v h))
      (λ h. between-high 0 e f i v h ∙ sym (before-out e f i v h))

  -- `f` is done below n; `g` from a up to e is what `f` does from n up to m, so `f` is done below m
  pub advance-at : (d : A) (f g : ℕ → A → A) (n m a e : ℕ) (l : List A) → n ≤ a → e ≤ m → n ≤ m
      → ((i : ℕ) → n ≤ i → i < m → i < length l → f i (get_or l i d) ≡ between a e g i (get_or l i d))
      → each (between a e g) (each (before n f) l) ≡ each (before m f) l
  advance-at d f g n m a e l na em nm h =
      each-each (before n f) (between a e g) l
      ∙ each-ext d (λ i v. between a e g i (before n f i v)) (before m f) l at
    where
      at : (i : ℕ) → i < length l → between a e g i (before n f i (get_or l i d)) ≡ before m f i (get_or l i d)
      at i q =
          let v : A = get_or l i d in
          below_or i n
          (λ p. between-low a e g i _ (omega arith) ∙ before-in n f i v p ∙ sym (before-in m f i v (omega arith)))
          (λ p.
          ap (between a e g i) (before-out n f i v p)
          ∙ below_or i m (λ r. sym (h i p r q) ∙ sym (before-in m f i v r))
          (λ r. between-high a e g i v (omega arith) ∙ sym (before-out m f i v r)))

  pub advance : (d : A) (f g : ℕ → A → A) (n m a e : ℕ) (l : List A) → n ≤ a → e ≤ m → n ≤ m
      → ((i : ℕ) (v : A) → n ≤ i → i < m → i < length l → f i v ≡ between a e g i v)
      → each (between a e g) (each (before n f) l) ≡ each (before m f) l
  advance d f g n m a e l na em nm h = advance-at d f g n m a e l na em nm (λ i p r q. h i (get_or l i d) p r q)

  -- a part of a list run by itself, its places counted from 0 (`d` is there so that the laws are called alike)
  pub part : (d : A) (g : ℕ → A → A) (a k : ℕ) (l : List A) → a + k ≤ length l
      → take a l ++ (each g (take k (drop a l)) ++ drop k (drop a l)) ≡ each (between a (a + k) (λ i. g (i - a))) l
  part d g a k l h = sym (ap (each F) (sym whole) ∙ each_append F T (M ++ R) ∙ ap₂ ◌++◌ first (each_append F₂ M R ∙ ap₂ ◌++◌ second third))
    where
      T : List A
      T = take a l

      M : List A
      M = take k (drop a l)

      R : List A
      R = drop k (drop a l)

      F : ℕ → A → A
      F = between a (a + k) (λ i. g (i - a))

      F₂ : ℕ → A → A
      F₂ i = F (length T + i)

      fits : k ≤ length (drop a l)
      fits = omega (arith, length-drop a l)

      len-T : length T ≡ a
      len-T = length-take-le a l (omega arith)

      len-M : length M ≡ k
      len-M = length-take-le k (drop a l) fits

      whole : T ++ (M ++ R) ≡ l
      whole = ap (◌++◌ T) (take-append-drop k (drop a l)) ∙ take-append-drop a l

      first : each F T ≡ T
      first = each_none F T (λ i v q. between-low a (a + k) (λ j. g (j - a)) i v (omega (arith, len-T)))

      second : each F₂ M ≡ each g M
      second =
          each-agree F₂ g M
          (λ i v q.
          between_in a (a + k) (λ j. g (j - a)) (length T + i) v (omega (arith, len-T)) (omega (arith, len-T, len-M))
          ∙ ap (λ (j : ℕ). g j v) (omega (arith, len-T)))

      third : each (λ i. F₂ (length M + i)) R ≡ R
      third =
          each_none (λ i. F₂ (length M + i)) R
          (λ i v q. between-high a (a + k) (λ j. g (j - a)) (length T + (length M + i)) v (omega (arith, len-T, len-M)))

  -- one more place of a run, by a store
  pub store : (d : A) (g : ℕ → A → A) (a i : ℕ) (l row : List A) (w : A) → row ≡ each (between a i g) l → w ≡ g i (get_or row i d)
      → a ≤ i → i < length l → set row i w ≡ each (between a (i + 1) g) l
  store d g a i l row w done value ai il = is-each d (between a (i + 1) g) l (set row i w) same at
    where
      same_row : length row ≡ length l
      same_row = ap length done ∙ length-each (between a i g) l

      same : length (set row i w) ≡ length l
      same = length-set row i w ∙ same_row

      old : (j : ℕ) → j < length l → get_or row j d ≡ between a i g j (get_or l j d)
      old j h = ap (λ (r : List A). get_or r j d) done ∙ get_or-each (between a i g) l j d h

      here : get_or (set row i w) i d ≡ between a (i + 1) g i (get_or l i d)
      here =
          get_or-set_same row i w d (omega (arith, same_row)) ∙ value
          ∙ ap (g i) (old i il ∙ between-high a i g i _ (omega arith))
          ∙ sym (between_in a (i + 1) g i _ ai (omega arith))

      below : (j : ℕ) → j < i → between a i g j (get_or l j d) ≡ between a (i + 1) g j (get_or l j d)
      below j p =
          below_or j a (λ q. between-low a i g j _ q ∙ sym (between-low a (i + 1) g j _ q))
          (λ q. between_in a i g j _ q p ∙ sym (between_in a (i + 1) g j _ q (omega arith)))

      at : (j : ℕ) → j < length l → get_or (set row i w) j d ≡ between a (i + 1) g j (get_or l j d)
      at j h =
          below_or j i (λ p. get_or-set_other row i j w d (omega arith) ∙ old j h ∙ below j p)
          (λ p.
          below_or i j
          (λ q.
          get_or-set_other row i j w d (omega arith) ∙ old j h ∙ between-high a i g j _ p
          ∙ sym (between-high a (i + 1) g j _ (omega arith)))
          (λ q. let e : i ≡ j = omega arith in subst (λ (k : ℕ). get_or (set row i w) k d ≡ between a (i + 1) g k (get_or l k d)) e here))
