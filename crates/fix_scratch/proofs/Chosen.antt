-- The chosen numbers: they ascend, the marked ones are there and no others, and there are as many as are counted; an ascending list of
-- the marked numbers is the list of the chosen ones; and counts of more and of fewer marks. Assumes nothing.
use Prim.Native.Nat.{ℕ, zero, suc, ◌+◌, ◌≤◌, ◌<◌}
use mathlib.Core.Path.{◌≡◌, refl, sym, ap, subst, ◌∙◌}
use mathlib.Core.Bool.{Bool, true, false, ◌||◌, cond}
use mathlib.Core.List.{List, [], ◌∷◌, ◌++◌}
use native.Mathlib.Nat.{not-suc-le-zero, zero-add, add-zero, suc-add, add-suc}
use native.Mathlib.Omega.{arith}
use borrow.Author.Tests.{eq-eqb}
use lib.Dec.{eqb}
use lib.ListN.{length, get_or, take, length-append}
use Rattle.dng.specs.Repair.{count_below}
use Rattle.fix_scratch.specs.Marks.{chosen, Holds}
use Rattle.num_sorted.specs.Sorts.{alike, occ, has, Rises, Finds}
use Rattle.num_sorted.proofs.Occ.{occ-at, by_cases, below_or, equal-or, alike_self, alike-other, has-true, some-has, none_has, rises-low, rises-less}

-- the two values of a test are apart
pub both : {C : Type 0} {b : Bool} → b ≡ true → b ≡ false → C
both {C} {b} t f = absurd (apart (sym t ∙ f))
  where
    apart : true ≡ false → ⊥
    apart e = let z : ◌≡◌ {A = ℕ} 0 1 = cc in omega arith

-- ---- counts

pub count-le : (n : ℕ) (f g : ℕ → Bool) → ((q : ℕ) → q < n → f q ≡ true → g q ≡ true) → count_below n f ≤ count_below n g
unfolding count_below
count-le zero f g h = omega arith
count-le (suc n) f g h =
    by_cases (f n)
    (λ e. rw (e, h n (omega arith) e) (omega (arith, count-le n f g (λ q k. h q (omega arith)))))
    (λ e. rw e (omega (arith, count-le n f g (λ q k. h q (omega arith)))))

pub count-lt : (n : ℕ) (f g : ℕ → Bool) (p : ℕ) → p < n → f p ≡ false → g p ≡ true → ((q : ℕ) → q < n → f q ≡ true → g q ≡ true)
    → count_below n f < count_below n g
unfolding count_below
count-lt zero f g p k a b h = absurd (not-suc-le-zero k)
count-lt (suc n) f g p k a b h =
    equal-or p n
    (λ e. rw (subst (λ (q : ℕ). f q ≡ false) e a, subst (λ (q : ℕ). g q ≡ true) e b)
    (omega (arith, count-le n f g (λ q k. h q (omega arith)))))
    (λ d.
    let r : count_below n f < count_below n g = count-lt n f g p (omega arith) a b (λ q k. h q (omega arith)) in
    by_cases (f n) (λ e. rw (e, h n (omega arith) e) (omega arith)) (λ e. rw e (omega arith)))

-- the same marks, the same count
pub count_same : (n : ℕ) (f g : ℕ → Bool) → ((q : ℕ) → q < n → f q ≡ g q) → count_below n f ≡ count_below n g
count_same n f g h =
    omega (arith, count-le n f g (λ q k e. sym (h q k) ∙ e), count-le n g f (λ q k e. h q k ∙ e))

-- ---- the chosen numbers

pub chosen-rises : (m : ℕ → Bool) (a n : ℕ) → Rises a (chosen m a n)
unfolding chosen Rises
chosen-rises m a zero = tt
chosen-rises m a (suc n) =
    by_cases (m a) (λ e. rw e (omega arith, chosen-rises m (suc a) n))
    (λ e. rw e (rises-less (suc a) a (chosen m (suc a) n) (omega arith) (chosen-rises m (suc a) n)))

-- what stands there is marked, and below the end
pub chosen-in : (m : ℕ → Bool) (a n q : ℕ) → 1 ≤ occ (chosen m a n) q → (q < a + n) × (m q ≡ true)
unfolding chosen occ
chosen-in m a zero q h = absurd (not-suc-le-zero h)
chosen-in m a (suc n) q h =
    by_cases (m a)
    (λ e. equal-or a q (λ d. (omega arith, subst (λ (x : ℕ). m x ≡ true) d e))
    (λ d. let r = chosen-in m (suc a) n q (omega (arith, alike-other a q d, rw e at h)) in (omega (arith, r.0), r.1)))
    (λ e. let r = chosen-in m (suc a) n q (rw e at h) in (omega (arith, r.0), r.1))

-- what is marked stands there
pub chosen-all : (m : ℕ → Bool) (a n q : ℕ) → a ≤ q → q < a + n → m q ≡ true → 1 ≤ occ (chosen m a n) q
unfolding chosen occ
chosen-all m a zero q h k t = absurd (omega arith)
chosen-all m a (suc n) q h k t =
    equal-or a q (λ d. rw (subst (λ (x : ℕ). m x ≡ true) (sym d) t) (omega (arith, subst (λ (x : ℕ). alike a x ≡ 1) d (alike_self a))))
    (λ d.
    let r : 1 ≤ occ (chosen m (suc a) n) q = chosen-all m (suc a) n q (omega arith) (omega arith) t in
    by_cases (m a) (λ e. rw e (omega arith)) (λ e. rw e r))

-- so a number below the end stands there exactly when it is marked
pub chosen-has : (m : ℕ → Bool) (top q : ℕ) → q < top → has (chosen m 0 top) q ≡ m q
chosen-has m top q h =
    by_cases (m q) (λ e. some-has (chosen m 0 top) q (chosen-all m 0 top q (omega arith) (omega arith) e) ∙ sym e)
    (λ e. none_has (chosen m 0 top) q (below_or 0 (occ (chosen m 0 top) q) (λ k. both (chosen-in m 0 top q k).1 e)
    (λ k. omega arith)) ∙ sym e)

-- the last number looked at stands last
chosen-end : (m : ℕ → Bool) (a n : ℕ) → chosen m a (suc n) ≡ chosen m a n ++ cond (m (a + n)) ((a + n) ∷ []) []
unfolding chosen
chosen-end m a zero = rw add-zero refl
chosen-end m a (suc n) =
    let r = chosen-end m (suc a) n in
    by_cases (m a)
    (λ e. rw e (ap (λ (l : List ℕ). a ∷ l) (r ∙ rw (suc-add, ← add-suc) refl)))
    (λ e. rw e (r ∙ rw (suc-add, ← add-suc) refl))

-- as many as are counted
pub chosen-count : (m : ℕ → Bool) (n : ℕ) → length (chosen m 0 n) ≡ count_below n m
unfolding count_below
chosen-count m zero = unfold chosen in refl
chosen-count m (suc n) =
    rw (chosen-end m 0 n, length-append, zero-add)
    (by_cases (m n) (λ e. rw e (omega (arith, chosen-count m n))) (λ e. rw e (omega (arith, chosen-count m n))))

pub chosen-short : (m : ℕ → Bool) (a n : ℕ) → length (chosen m a n) ≤ n
unfolding chosen
chosen-short m a zero = omega arith
chosen-short m a (suc n) =
    let r = chosen-short m (suc a) n in
    by_cases (m a) (λ e. rw e (omega arith)) (λ e. rw e (omega arith))

-- as many as were looked at: each is marked
pub chosen-full : (m : ℕ → Bool) (a n q : ℕ) → length (chosen m a n) ≡ n → a ≤ q → q < a + n → m q ≡ true
unfolding chosen
chosen-full m a zero q e h k = absurd (omega arith)
chosen-full m a (suc n) q e h k =
    by_cases (m a)
    (λ t. equal-or a q (λ d. subst (λ (x : ℕ). m x ≡ true) d t)
    (λ d. chosen-full m (suc a) n q (omega (arith, rw t at e)) (omega arith) (omega arith)))
    (λ f. absurd (omega (arith, rw f at e, chosen-short m (suc a) n)))

-- an ascending list of the marked numbers, and of no others, is the list of the chosen ones
pub is-chosen : (m : ℕ → Bool) (a n : ℕ) (l : List ℕ) → Rises a l → ((q : ℕ) → 1 ≤ occ l q → (q < a + n) × (m q ≡ true))
    → ((q : ℕ) → a ≤ q → q < a + n → m q ≡ true → 1 ≤ occ l q) → l ≡ chosen m a n
unfolding chosen Rises occ
is-chosen m a zero [] r f g = refl
is-chosen m a zero (x ∷ l) r f g = absurd (omega (arith, r.0, (f x (omega (arith, alike_self x))).0))
is-chosen m a (suc n) [] r f g =
    by_cases (m a) (λ e. absurd (not-suc-le-zero (g a (omega arith) (omega arith) e)))
    (λ e. rw e (is-chosen m (suc a) n [] r (λ q h. absurd (not-suc-le-zero h)) (λ q h k t. g q (omega arith) (omega arith) t)))
is-chosen m a (suc n) (x ∷ l) r f g =
    equal-or x a
    (λ d.
    let t : m a ≡ true = subst (λ (y : ℕ). m y ≡ true) d (f x (omega (arith, alike_self x))).1 in
    let rest : l ≡ chosen m (suc a) n =
    is-chosen m (suc a) n l (subst (λ (y : ℕ). Rises (suc y) l) d r.1)
    (λ q h. let k = f q (omega arith) in (omega (arith, k.0), k.1))
    (λ q h k e. omega (arith, g q (omega arith) (omega arith) e, alike-other x q (λ z. omega arith))) in
    rw (t, d, rest) refl)
    (λ d.
    by_cases (m a)
    (λ t. absurd (omega (arith, r.0, rises-low (suc x) l a r.1 (omega (arith, g a (omega arith) (omega arith) t, alike-other x a d)))))
    (λ t. rw t
    (is-chosen m (suc a) n (x ∷ l) (omega (arith, r.0), r.1) (λ q h. let k = f q h in (omega (arith, k.0), k.1))
    (λ q h k e. g q (omega arith) (omega arith) e))))

-- the same where the numbers are known by whether they stand in the list
pub is-chosen-has : (m : ℕ → Bool) (top : ℕ) (l : List ℕ) → Rises 0 l → ((q : ℕ) → has l q ≡ true → q < top)
    → ((q : ℕ) → q < top → has l q ≡ m q) → l ≡ chosen m 0 top
is-chosen-has m top l r f g =
    is-chosen m 0 top l r
    (λ q h. let k : q < top = f q (some-has l q h) in (omega arith, sym (g q k) ∙ some-has l q h))
    (λ q h k e. has-true l q (g q (omega arith) ∙ e))

-- an ascending list below top has as many entries as it has numbers
pub rises-count : (top : ℕ) (l : List ℕ) → Rises 0 l → ((q : ℕ) → has l q ≡ true → q < top) → length l ≡ count_below top (has l)
rises-count top l r f = ap length (is-chosen-has (has l) top l r f (λ q h. refl)) ∙ chosen-count (has l) top

-- and one more number that is not there is one too many for its length
pub too_many : (top : ℕ) (l : List ℕ) (p : ℕ) → Rises 0 l → ((q : ℕ) → has l q ≡ true → q < top) → p < top → has l p ≡ false
    → length l < count_below top (λ q. has l q || eqb q p)
too_many top l p r f h e =
    rw (rises-count top l r f)
    (count-lt top (has l) (λ q. has l q || eqb q p) p h e (rw (e, eq-eqb p p refl) refl) (λ q k t. rw t refl))

-- what stands at a place is marked
pub chosen_at : (m : ℕ → Bool) (a n i : ℕ) → i < length (chosen m a n)
    → (get_or (chosen m a n) i 0 < a + n) × (m (get_or (chosen m a n) i 0) ≡ true)
chosen_at m a n i h = chosen-in m a n (get_or (chosen m a n) i 0) (occ-at (chosen m a n) i h)

-- what `find` answers of a front that holds the marks
pub found : (m : ℕ → Bool) (top : ℕ) (s : List ℕ) (n q : ℕ) (r : Bool) → n ≤ length s → take n s ≡ chosen m 0 top → q < top → Finds s n q r
    → r ≡ m q
found m top s n q r h e l f =
    f h (rw e (chosen-rises m 0 top)) ∙ ap (λ (x : List ℕ). has x q) e ∙ chosen-has m top q l

pub found-held : (m : ℕ → Bool) (top : ℕ) (s s' : List ℕ) (n q : ℕ) (r : Bool) → Holds top m s s' n → length s' ≡ length s → q < top
    → Finds s' n q r → r ≡ m q
found-held m top s s' n q r h e l f = found m top s' n q r (omega (arith, h.fits)) h.front l f
