-- Steps of gathering, one after another: what is held at the end is what was held or is marked by one of them; and the marks of a span,
-- of a block of rows and of image positions, step by step. Assumes nothing.
use Prim.Native.Nat.{ℕ, ◌+◌, ◌-◌, ◌≤◌, ◌<◌, max}
use mathlib.Core.Path.{◌≡◌, refl, sym, ap, subst, ◌∙◌}
use mathlib.Core.Bool.{Bool, true, false, ◌&&◌, ◌||◌, or-false, or_assoc}
use mathlib.Core.List.{List}
use native.Mathlib.Omega.{arith}
use borrow.Author.Tests.{eq-eqb, eqb-true, le-leb, lt-ltb, leb-true, ltb-true}
use lib.Dec.{leb, ltb, eqb}
use lib.ListN.{length, get_or, take, drop, length-drop}
use lib.Seq.{get_or-take, get_or-drop, length-take-le}
use Rattle.dng.specs.Repair.{count_below}
use Rattle.std.specs.Prelude.{Option, Some, None}
use Rattle.fix_scratch.specs.declared.Held.{Held}
use Rattle.fix_scratch.specs.Marks.{chosen}
use Rattle.num_sorted.specs.Sorts.{occ, has, Rises, Cut}
use Rattle.fix_scratch.specs.Scratch.{Front, Packed, Tidied, Gains, Joined, span}
use Rattle.num_sorted.proofs.Occ.{below_or, equal-or, occ-parts, occ-some, has-true, some-has, rises-take, rises-drop, rises-from, rises-places}
use Rattle.fix_scratch.proofs.Filling.{has_more, front_kept}
use Rattle.fix_scratch.proofs.Chosen.{both, count-le, count_same, chosen-full, is-chosen}

-- ---- tests

pub iff-eq : (x y : Bool) → (x ≡ true → y ≡ true) → (y ≡ true → x ≡ true) → x ≡ y
iff-eq true y f g = sym (f refl)
iff-eq false true f g = g refl
iff-eq false false f g = refl

pub or_cases : {C : Type 0} (x y : Bool) → (x || y) ≡ true → (x ≡ true → C) → (y ≡ true → C) → C
or_cases true y e f g = f refl
or_cases false y e f g = g e

pub or_left : (x y : Bool) → x ≡ true → (x || y) ≡ true
or_left x y e = rw e refl

pub or_right : (x y : Bool) → y ≡ true → (x || y) ≡ true
or_right true y e = refl
or_right false y e = e

pub and_both : (x y : Bool) → (x && y) ≡ true → (x ≡ true) × (y ≡ true)
and_both true y e = (refl, e)
and_both false y e = both {b = false} e refl

pub and-of : (x y : Bool) → x ≡ true → y ≡ true → (x && y) ≡ true
and-of x y e d = rw (e, d) refl

-- ---- steps

-- nothing new
pub gains-held : (top : ℕ) (m : ℕ → Bool) (s : List ℕ) (n t : ℕ) → Front top s n t
    → ((q : ℕ) → q < top → m q ≡ true → has (take t s) q ≡ true)
    → Gains top m s t s n t
gains-held top m s n t f h =
    record { front = f; same = λ q l. iff-eq _ _ (or_left _ _) (λ e. or_cases (has (take t s) q) (m q) e (λ d. d) (h q l)) }

pub gains-packed : (top : ℕ) (s : List ℕ) (t : ℕ) (s₁ : List ℕ) (k : ℕ) → Packed top s t s₁ k → Gains top (λ q. false) s t s₁ k k
gains-packed top s t s₁ k v = record { front = v.front; same = λ q l. v.same q ∙ sym (or-false (has (take t s) q)) }

pub gains-tidied : (top : ℕ) (s : List ℕ) (n t : ℕ) (s₁ : List ℕ) (m : ℕ) → Tidied top s n t s₁ m → Gains top (λ q. false) s t s₁ n (n + m)
gains-tidied top s n t s₁ m v = record { front = v.front; same = λ q l. v.same q ∙ sym (or-false (has (take t s) q)) }

-- an entry that was not held, or is not, may have changed
pub gains-from : (top : ℕ) (m : ℕ → Bool) (s s₀ : List ℕ) (t : ℕ) (s₁ : List ℕ) (n₁ t₁ : ℕ) → take t s₀ ≡ take t s → Gains top m s₀ t s₁ n₁ t₁
    → Gains top m s t s₁ n₁ t₁
gains-from top m s s₀ t s₁ n₁ t₁ e g =
    record { front = g.front; same = λ q l. g.same q l ∙ ap (λ (x : List ℕ). has x q || m q) e }

pub gains-kept : (top : ℕ) (m : ℕ → Bool) (s : List ℕ) (t : ℕ) (s₁ : List ℕ) (n₁ t₁ : ℕ) (s₂ : List ℕ) → Gains top m s t s₁ n₁ t₁
    → take t₁ s₂ ≡ take t₁ s₁ → length s₂ ≡ length s₁ → Gains top m s t s₂ n₁ t₁
gains-kept top m s t s₁ n₁ t₁ s₂ g e l =
    record { front = front_kept top s₁ n₁ t₁ s₂ g.front e l; same = λ q h. ap (λ (x : List ℕ). has x q) e ∙ g.same q h }

-- one step after another
pub joined-next : (top : ℕ) (m₁ m₂ m : ℕ → Bool) (s : List ℕ) (t : ℕ) (s₁ : List ℕ) (n₁ t₁ : ℕ) (s₂ : List ℕ) (r : Option Held)
    → Gains top m₁ s t s₁ n₁ t₁ → length s₁ ≡ length s → ((q : ℕ) → q < top → m q ≡ (m₁ q || m₂ q)) → Joined top m₂ s₁ t₁ s₂ r
    → Joined top m s t s₂ r
joined-next top m₁ m₂ m s t s₁ n₁ t₁ s₂ (Some k) g e h j =
    record {
      front = j.front;
      same = λ q l. j.same q l ∙ ap (λ (b : Bool). b || m₂ q) (g.same q l) ∙ or_assoc (has (take t s) q) (m₁ q) (m₂ q)
          ∙ ap (λ (b : Bool). has (take t s) q || b) (sym (h q l));
    }
joined-next top m₁ m₂ m s t s₁ n₁ t₁ s₂ None g e h j =
    let same : count_below top (λ q. has (take t₁ s₁) q || m₂ q) ≡ count_below top (λ q. has (take t s) q || m q) =
    count_same top (λ q. has (take t₁ s₁) q || m₂ q) (λ q. has (take t s) q || m q)
    (λ q l. ap (λ (b : Bool). b || m₂ q) (g.same q l) ∙ or_assoc (has (take t s) q) (m₁ q) (m₂ q) ∙ ap
    (λ (b : Bool). has (take t s) q || b) (sym (h q l))) in
    omega arith

-- the same marks by another name
pub joined_as : (top : ℕ) (m m' : ℕ → Bool) (s : List ℕ) (t : ℕ) (s' : List ℕ) (r : Option Held) → ((q : ℕ) → q < top → m q ≡ m' q)
    → Joined top m s t s' r → Joined top m' s t s' r
joined_as top m m' s t s' (Some k) h j =
    record { front = j.front; same = λ q l. j.same q l ∙ ap (λ (b : Bool). has (take t s) q || b) (h q l) }
joined_as top m m' s t s' None h j =
    let same : count_below top (λ q. has (take t s) q || m q) ≡ count_below top (λ q. has (take t s) q || m' q) =
    count_same top (λ q. has (take t s) q || m q) (λ q. has (take t s) q || m' q)
    (λ q l. ap (λ (b : Bool). has (take t s) q || b) (h q l)) in
    omega arith

-- more marks than a step that found no room
pub joined-over : (top : ℕ) (m₁ m₂ m : ℕ → Bool) (s : List ℕ) (t : ℕ) (s₁ : List ℕ) (n₁ t₁ : ℕ) → Gains top m₁ s t s₁ n₁ t₁
    → length s₁ ≡ length s
    → ((q : ℕ) → q < top → (m₁ q || m₂ q) ≡ true → m q ≡ true) → length s₁ < count_below top (λ q. has (take t₁ s₁) q || m₂ q)
    → length s < count_below top (λ q. has (take t s) q || m q)
joined-over top m₁ m₂ m s t s₁ n₁ t₁ g e h j =
    let less : count_below top (λ q. has (take t₁ s₁) q || m₂ q) ≤ count_below top (λ q. has (take t s) q || m q) =
    count-le top (λ q. has (take t₁ s₁) q || m₂ q) (λ q. has (take t s) q || m q)
    (λ q l d. or_cases (has (take t₁ s₁) q) (m₂ q) d
    (λ a. or_cases (has (take t s) q) (m₁ q) (sym (g.same q l) ∙ a) (or_left _ _)
    (λ b. or_right (has (take t s) q) (m q) (h q l (or_left (m₁ q) (m₂ q) b))))
    (λ b. or_right (has (take t s) q) (m q) (h q l (or_right (m₁ q) (m₂ q) b)))) in
    omega arith

-- ---- spans

pub span_of : (a b q : ℕ) → a ≤ q → q < b → span a b q ≡ true
unfolding span
span_of a b q h k = and-of (leb a q) (ltb q b) (le-leb a q h) (lt-ltb q b k)

pub span-is : (a b q : ℕ) → span a b q ≡ true → (a ≤ q) × (q < b)
unfolding span
span-is a b q e = let w = and_both (leb a q) (ltb q b) e in (leb-true a q w.0, ltb-true q b w.1)

pub span_more : (a p q : ℕ) → a ≤ p → span a (p + 1) q ≡ (span a p q || eqb q p)
span_more a p q h =
    iff-eq _ _
    (λ e. let w = span-is a (p + 1) q e in
    equal-or q p (λ d. or_right (span a p q) (eqb q p) (eq-eqb q p d))
    (λ d. or_left (span a p q) (eqb q p) (span_of a p q w.0 (omega (arith, w.1)))))
    (λ e. or_cases (span a p q) (eqb q p) e (λ d. let w = span-is a p q d in span_of a (p + 1) q w.0 (omega (arith, w.1)))
    (λ d. let z = eqb-true q p d in span_of a (p + 1) q (omega arith) (omega arith)))

pub span-on : (a p m q : ℕ) → a ≤ p → span a (p + m) q ≡ (span a p q || span p (p + m) q)
span-on a p m q h =
    iff-eq _ _
    (λ e. let w = span-is a (p + m) q e in
    below_or q p (λ d. or_left (span a p q) (span p (p + m) q) (span_of a p q w.0 d))
    (λ d. or_right (span a p q) (span p (p + m) q) (span_of p (p + m) q d w.1)))
    (λ e. or_cases (span a p q) (span p (p + m) q) e (λ d. let w = span-is a p q d in span_of a (p + m) q w.0 (omega (arith, w.1)))
    (λ d. let w = span-is p (p + m) q d in span_of a (p + m) q (omega (arith, w.0)) w.1))

pub span_none : (a q : ℕ) → span a a q ≡ true → ⊥
span_none a q e = let w = span-is a a q e in omega (arith, w.0, w.1)

-- the front has as many numbers between a and b as there are
pub covered : (l : List ℕ) (a b i j : ℕ) → Cut l a i → Cut l b j → Rises 0 l → a < b → i + (b - a) ≡ j → (q : ℕ) → a ≤ q → q < b
    → has l q ≡ true
covered l a b i j u v r h e q lo hi =
    some-has l q
    (let o : 1 ≤ occ part q = has-true part q (chosen-full (has part) a (b - a) q (sym (ap length is) ∙ long) lo (omega arith)) in
    omega (arith, occ-parts (b - a) (drop i l) q, occ-parts i l q))
  where
    part : List ℕ
    part = take (b - a) (drop i l)

    long : length part ≡ b - a
    long = length-take-le (b - a) (drop i l) (omega (arith, length-drop i l, v.within))

    at : (x : ℕ) → 1 ≤ occ part x → (a ≤ x) × (x < b)
    at x o =
        let w = occ-some part x o in
        let less : w.0 < b - a = omega (arith, w.1, long) in
        let is : get_or l (i + w.0) 0 ≡ x = sym (get_or-take (b - a) (drop i l) w.0 0 less ∙ get_or-drop i l w.0 0) ∙ w.2 in
        (omega (arith, u.high r (i + w.0) (omega arith) (omega (arith, v.within))), omega (arith, v.low r (i + w.0) (omega arith)))

    is : part ≡ chosen (has part) a (b - a)
    is =
        is-chosen (has part) a (b - a) part
        (rises-from 0 a part (rises-take 0 (b - a) (drop i l) (rises-drop 0 i l r)) (λ x o. (at x o).0))
        (λ x o. (omega (arith, (at x o).1), some-has part x o))
        (λ x p k t. has-true part x t)

-- the same, by the number that stands where b - 1 must
pub covered-by : (s : List ℕ) (n h a b : ℕ) → n ≤ length s → a < b → h + (b - a) - 1 < n → get_or s (h + (b - a) - 1) 0 ≡ b - 1
    → Rises 0 (take n s) → Cut (take n s) a h → (q : ℕ) → a ≤ q → q < b → has (take n s) q ≡ true
covered-by s n h a b m l k e r u = covered (take n s) a b h (h + (b - a)) u cut r l refl
  where
    j : ℕ
    j = h + (b - a) - 1

    long : length (take n s) ≡ n
    long = length-take-le n s m

    there : get_or (take n s) j 0 ≡ b - 1
    there = get_or-take n s j 0 k ∙ e

    cut : Cut (take n s) b (h + (b - a))
    cut =
        record {
          within = omega (arith, long, k);
          low = λ _ i g. equal-or i j (λ d. subst (λ (y : ℕ). get_or (take n s) y 0 < b) (sym d) (omega (arith, there)))
              (λ d. omega (arith, there, rises-places 0 (take n s) i j (omega arith) (omega (arith, long, k)) r));
          high = λ _ i g o. omega (arith, there, rises-places 0 (take n s) j i (omega arith) o r);
        }

-- ---- a loop of steps: after i of them what f i marks is held besides what was held at the start

pub record Steps (top : ℕ) (f : ℕ → ℕ → Bool) (s₀ : List ℕ) (t₀ : ℕ) (s : List ℕ) (k : Held) (i : ℕ) : Type 0 where
  pub gains : Gains top (f i) s₀ t₀ s k.n k.t
  pub long : length s ≡ length s₀

pub steps-start : (top : ℕ) (f : ℕ → ℕ → Bool) (s : List ℕ) (k : Held) (i : ℕ) → Front top s k.n k.t → ((q : ℕ) → f i q ≡ true → ⊥)
    → Steps top f s k.t s k i
steps-start top f s k i h none = record { gains = gains-held top (f i) s k.n k.t h (λ q l e. absurd (none q e)); long = refl }

module _ (top : ℕ) (f : ℕ → ℕ → Bool) (s₀ : List ℕ) (t₀ : ℕ) (s : List ℕ) (k : Held) (i : ℕ) (v : Steps top f s₀ t₀ s k i) (g : ℕ → Bool) where
  pub steps-to : (s' : List ℕ) (i' : ℕ) (h' : Held) → Gains top g s k.t s' h'.n h'.t → length s' ≡ length s
      → ((q : ℕ) → q < top → f i' q ≡ (f i q || g q)) → Steps top f s₀ t₀ s' h' i'
  steps-to s' i' h' j l h =
      record {
        gains = joined-next top (f i) g (f i') s₀ t₀ s k.n k.t s' (Some h') v.gains v.long h j;
        long = l ∙ v.long;
      }

  pub steps_next : (s' : List ℕ) (h' : Held) → Gains top g s k.t s' h'.n h'.t → length s' ≡ length s
      → ((q : ℕ) → q < top → f (i + 1) q ≡ (f i q || g q)) → Steps top f s₀ t₀ s' h' (i + 1)
  steps_next s' = steps-to s' (i + 1)

  pub steps-full : (m : ℕ → Bool) → length s < count_below top (λ q. has (take k.t s) q || g q)
      → ((q : ℕ) → q < top → f i q ≡ true → m q ≡ true)
      → ((q : ℕ) → q < top → g q ≡ true → m q ≡ true) → length s₀ < count_below top (λ q. has (take t₀ s₀) q || m q)
  steps-full m j a b =
      joined-over top (f i) g m s₀ t₀ s k.n k.t v.gains v.long (λ q l d. or_cases (f i q) (g q) d (a q l) (b q l)) j

pub steps-end : (top : ℕ) (f : ℕ → ℕ → Bool) (s₀ : List ℕ) (t₀ : ℕ) (s : List ℕ) (k : Held) (i : ℕ) (m : ℕ → Bool) → Steps top f s₀ t₀ s k i
    → ((q : ℕ) → q < top → f i q ≡ m q) → Gains top m s₀ t₀ s k.n k.t
steps-end top f s₀ t₀ s k i m v h = joined_as top (f i) m s₀ t₀ s (Some k) h v.gains

-- ---- a span that is walked from a on: it ends at b, or at a where b is no further

pub span-low : (a b p q : ℕ) → p ≤ b → span a p q ≡ true → span a b q ≡ true
span-low a b p q h e = let w = span-is a p q e in span_of a b q w.0 (omega (arith, w.1))

pub span-at : (a b p q : ℕ) → a ≤ p → p < b → eqb q p ≡ true → span a b q ≡ true
span-at a b p q h k e = let z = eqb-true q p e in span_of a b q (omega arith) (omega arith)

pub span-whole : (a b p q : ℕ) → b ≤ p → p ≤ max a b → span a p q ≡ span a b q
span-whole a b p q h k =
    iff-eq _ _ (λ e. let w = span-is a p q e in span_of a b q w.0 (omega (arith, w.0, w.1)))
    (λ e. let w = span-is a b q e in span_of a p q w.0 (omega (arith, w.1)))

-- a stretch that starts at entry h: by the entry where its last position must stand
pub stretch-there : (s : List ℕ) (n h p r : ℕ) → n ≤ length s → h + r < n → get_or s h 0 ≡ p → get_or s (h + r) 0 ≡ p + r
    → Rises 0 (take n s) → (q : ℕ) → p ≤ q → q < p + (r + 1) → has (take n s) q ≡ true
stretch-there s n h p r m k first last rises =
    covered-by s n h p (p + (r + 1)) m (omega arith) (omega (arith, where-last h p r))
    (ap (λ (x : ℕ). get_or s x 0) (where-last h p r) ∙ last ∙ value p r) rises cut
  where
    where-last : (h p r : ℕ) → h + (p + (r + 1) - p) - 1 ≡ h + r
    where-last h p r = omega arith

    value : (p r : ℕ) → p + r ≡ p + (r + 1) - 1
    value p r = omega arith

    long : length (take n s) ≡ n
    long = length-take-le n s m

    there : get_or (take n s) h 0 ≡ p
    there = get_or-take n s h 0 (omega arith) ∙ first

    cut : Cut (take n s) p h
    cut =
        record {
          within = omega (arith, long);
          low = λ _ i g. omega (arith, there, rises-places 0 (take n s) i h g (omega (arith, long)) rises);
          high = λ _ i g o. equal-or i h (λ d. subst (λ (y : ℕ). p ≤ get_or (take n s) y 0) (sym d) (omega (arith, there)))
              (λ d. omega (arith, there, rises-places 0 (take n s) h i (omega arith) o rises));
        }

pub run-covered : (top a b : ℕ) (s : List ℕ) (n t : ℕ) → Front top s n t → ((q : ℕ) → a ≤ q → q < b → has (take n s) q ≡ true)
    → Gains top (span a b) s t s n t
run-covered top a b s n t f h =
    gains-held top (span a b) s n t f (λ q l e. let w = span-is a b q e in has_more s n t q f.order (h q w.0 w.1))
