-- Counts over the chosen numbers; what two tests count together. Assumes nothing.
use Prim.Native.Nat.{ℕ, zero, suc, ◌+◌, ◌≤◌}
use mathlib.Core.Path.{◌≡◌, refl, ◌∙◌}
use mathlib.Core.Bool.{Bool, true, false, not, ◌&&◌, cond}
use native.Mathlib.Nat.{add-zero, add-suc, suc-add, zero-add}
use native.Mathlib.Omega.{arith}
use Rattle.dng.specs.Repair.{count_below}
use Rattle.fix_scratch.specs.Marks.{chosen}
use Rattle.num_sorted.proofs.Occ.{by_cases}
use Rattle.fix_fills.specs.Fills.{count_in}

-- the first number taken by itself
count-front : (n : ℕ) (g : ℕ → Bool) → count_below (suc n) g ≡ cond (g 0) 1 0 + count_below n (λ i. g (suc i))
unfolding count_below
count-front zero g = refl
count-front (suc n) g = omega (arith, count-front n g)

count-from : (f m : ℕ → Bool) (a n : ℕ) → count_in f (chosen m a n) ≡ count_below n (λ i. m (a + i) && f (a + i))
unfolding chosen count_in
count-from f m a zero = unfold count_below in refl
count-from f m a (suc n) =
    let rest : count_below n (λ i. m (suc a + i) && f (suc a + i)) ≡ count_below n (λ i. m (a + suc i) && f (a + suc i)) = simp (suc-add, add-suc) in
    let s : count_below (suc n) (λ i. m (a + i) && f (a + i)) ≡ cond (m a && f a) 1 0 + count_below n (λ i. m (a + suc i) && f (a + suc i)) =
    count-front n (λ i. m (a + i) && f (a + i)) ∙ simp add-zero in
    by_cases (m a)
    (λ e. rw e (omega (arith, count-from f m (suc a) n, rest, rw e at s)))
    (λ e. rw e (omega (arith, count-from f m (suc a) n, rest, rw e at s)))

-- those of the chosen numbers that pass a test
pub count-chosen : (f m : ℕ → Bool) (n : ℕ) → count_in f (chosen m 0 n) ≡ count_below n (λ q. m q && f q)
count-chosen f m n = simp zero-add at (count-from f m 0 n)

-- what passes a test and what does not
pub count-parts : (n : ℕ) (m f g : ℕ → Bool) → ((q : ℕ) → g q ≡ not (f q)) → count_below n (λ q. m q && f q) + count_below n (λ q. m q && g q) ≡ count_below n m
unfolding count_below
count-parts zero m f g h = refl
count-parts (suc n) m f g h = omega (arith, count-parts n m f g h, one (m n) (f n) (g n) (h n))
  where
    one : (a b c : Bool) → c ≡ not b → cond (a && b) 1 0 + cond (a && c) 1 0 ≡ cond a 1 0
    one false b c e = refl
    one true true c e = rw e refl
    one true false c e = rw e refl

pub count_none : (n : ℕ) (m : ℕ → Bool) → ((q : ℕ) → m q ≡ false) → count_below n m ≡ 0
unfolding count_below
count_none zero m h = refl
count_none (suc n) m h = rw (h n) (omega (arith, count_none n m h))

pub count-below : (n : ℕ) (m : ℕ → Bool) → count_below n m ≤ n
unfolding count_below
count-below zero m = omega arith
count-below (suc n) m = by_cases (m n) (λ e. rw e (omega (arith, count-below n m))) (λ e. rw e (omega (arith, count-below n m)))
