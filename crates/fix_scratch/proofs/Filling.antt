-- The scratch while it fills: compacting keeps what is held, a placed position is held afterwards, and one that finds no room is one too many.
-- Assumes nothing.
use Prim.Native.Nat.{ℕ, ◌+◌, ◌-◌, ◌≤◌, ◌<◌}
use mathlib.Core.Path.{◌≡◌, refl, sym, ap, subst, ◌∙◌}
use mathlib.Core.Bool.{Bool, true, false, ◌&&◌, ◌||◌, cond, or-false}
use mathlib.Core.List.{List, [], ◌∷◌, ◌++◌}
use native.Mathlib.Numerals.{add-one}
use native.Mathlib.Omega.{arith}
use borrow.Author.Tests.{ne_eqb, eqb-true, leb-true}
use lib.Dec.{leb, eqb}
use lib.ListN.{length, take, drop, set, length-set, length-drop, length-append}
use lib.Seq.{take-take, take-add, take_at, drop_at, take-append-le, take-suc-set, take-set-le, length-take-le}
use Rattle.dng.specs.Repair.{count_below}
use Rattle.num_sorted.specs.Sorts.{occ, has, Rises, Distinct, Runs, past_all}
use Rattle.fix_scratch.specs.Scratch.{Front, Packed, Tidied, Gains, grown_to}
use Rattle.num_sorted.proofs.Occ.{by_cases, equal-or, occ-parts, occ-some, has-true, some-has, has-append, has_one, rises-more, rises-climbs}
use Rattle.fix_scratch.proofs.Chosen.{both, too_many}
use Rattle.num_sorted.proofs.Searching.{past-above}

-- ---- compacting

pub packed_all : (top : ℕ) (s : List ℕ) (n t : ℕ) → Front top s n t → n ≡ t → Packed top s t s n
packed_all top s n t f e =
    record {
      front = record {
        order = omega arith;
        fits = omega (arith, f.fits);
        rises = f.rises;
        below = λ q h. f.below q
            (subst (λ (k : ℕ). has (take k s) q ≡ true) e h);
      };
      same = λ q. ap (λ (k : ℕ). has (take k s) q) e;
    }

pub packed : (top : ℕ) (s : List ℕ) (n t : ℕ) (z d : List ℕ) (k : ℕ) → Front top s n t → Distinct (take t s) z k
    → length z ≡ length (take t s)
    → Packed top s t (z ++ d) k
packed top s n t z d k f v e =
    record {
      front =
          record {
            order = omega arith;
            fits = omega (arith, v.within, length-append z d);
            rises = rw front v.rises;
            below = λ q h. f.below q (sym (held q) ∙ h);
          };
      same = held;
    }
  where
    front : take k (z ++ d) ≡ take k z
    front = take-append-le k z d (omega (arith, v.within))

    held : (q : ℕ) → has (take k (z ++ d)) q ≡ has (take t s) q
    held q = rw front (v.same q)

-- ---- what stands behind the front

pub tidied : (top : ℕ) (s : List ℕ) (n t : ℕ) (z : List ℕ) (m : ℕ) → Front top s n t → Distinct (take (t - n) (drop n s)) z m
    → length z ≡ length (take (t - n) (drop n s))
    → Tidied top s n t (take n s ++ (z ++ drop (t - n) (drop n s))) m
tidied top s n t z m f v e =
    record {
      front =
          record {
            order = omega arith;
            fits = omega (arith, v.within, long, length-append (take n s) (z ++ d), length-append z d);
            rises = rw front f.rises;
            below = λ q h. f.below q (sym (held q) ∙ h);
          };
      within = omega (arith, v.within, part, f.order);
      behind = rw (rest, first) v.rises;
      same = held;
    }
  where
    d : List ℕ
    d = drop (t - n) (drop n s)

    long : length (take n s) ≡ n
    long = length-take-le n s (omega (arith, f.order, f.fits))

    part : length (take (t - n) (drop n s)) ≡ t - n
    part = length-take-le (t - n) (drop n s) (omega (arith, length-drop n s, f.fits))

    front : take n (take n s ++ (z ++ d)) ≡ take n s
    front = take_at (take n s) (z ++ d) n long

    rest : drop n (take n s ++ (z ++ d)) ≡ z ++ d
    rest = drop_at (take n s) (z ++ d) n long

    first : take m (z ++ d) ≡ take m z
    first = take-append-le m z d (omega (arith, v.within))

    all : n + (t - n) ≡ t
    all = omega (arith, f.order)

    held : (q : ℕ) → has (take (n + m) (take n s ++ (z ++ d))) q ≡ has (take t s) q
    held q =
        rw (take-add n m (take n s ++ (z ++ d)), front, rest, first, has-append (take n s) (take m z) q, v.same q)
        (sym (has-append (take n s) (take (t - n) (drop n s)) q) ∙ ap (λ (l : List ℕ). has l q) (sym (take-add n (t - n) s)) ∙ ap
        (λ (k : ℕ). has (take k s) q) all)

module _ (top : ℕ) (s : List ℕ) (n t : ℕ) (s₁ : List ℕ) (m : ℕ) (v : Tidied top s n t s₁ m) where
  pub tidied-runs : n + m + m ≤ length s₁ → Runs n m s₁
  tidied-runs h =
      record { room = h; front = rises-climbs 0 (take n s₁) v.front.rises; behind = rises-climbs 0 (take m (drop n s₁)) v.behind }

  -- joined to the front
  pub tidied-packed : (s₂ : List ℕ) (k : ℕ) → Distinct (take (n + m) s₁) s₂ k → length s₂ ≡ length s₁ → Packed top s t s₂ k
  tidied-packed s₂ k w e =
      record {
        front =
            record {
              order = omega arith;
              fits = omega (arith, w.within, length-take-le (n + m) s₁ v.front.fits, v.front.fits);
              rises = w.rises;
              below = λ q h. v.front.below q (sym (w.same q) ∙ h);
            };
        same = λ q. w.same q ∙ v.same q;
      }

-- ---- an entry that is not held may be any number

pub front_kept : (top : ℕ) (s : List ℕ) (n t : ℕ) (s' : List ℕ) → Front top s n t → take t s' ≡ take t s → length s' ≡ length s → Front top s' n t
front_kept top s n t s' f e l =
    record {
      order = f.order;
      fits = omega (arith, f.fits);
      rises = rw first f.rises;
      below = λ q h. f.below q (ap (λ (x : List ℕ). has x q) (sym e) ∙ h);
    }
  where
    first : take n s' ≡ take n s
    first = sym (take-take n t s' f.order) ∙ ap (λ (x : List ℕ). take n x) e ∙ take-take n t s f.order

-- ---- placing one position

-- what stands among the first n stands among the first t
pub has_more : (s : List ℕ) (n t q : ℕ) → n ≤ t → has (take n s) q ≡ true → has (take t s) q ≡ true
has_more s n t q h e =
    let o : occ (take n s) q + occ (drop n (take t s)) q ≡ occ (take t s) q = rw (take-take n t s h) at (occ-parts n (take t s) q) in
    some-has (take t s) q (omega (arith, has-true (take n s) q e))

pub place-there : (top : ℕ) (s : List ℕ) (n t p : ℕ) → Front top s n t → has (take n s) p ≡ true → Gains top (λ q. eqb q p) s t s n t
place-there top s n t p f e =
    record {
      front = f;
      same = λ q h. equal-or q p
          (λ d. let i : has (take t s) q ≡ true = has_more s n t q f.order
          (subst (λ (y : ℕ). has (take n s) y ≡ true) (sym d) e) in rw i refl)
          (λ d. rw (ne_eqb q p d, or-false) refl);
    }

module _ (top : ℕ) (s : List ℕ) (n t p : ℕ) (f : Front top s n t) (more : t < length s) (l : p < top) where
  placed : take (t + 1) (set s t p) ≡ take t s ++ (p ∷ [])
  placed = rw add-one (take-suc-set s t p more)

  placed-has : (q : ℕ) → has (take (t + 1) (set s t p)) q ≡ (has (take t s) q || eqb q p)
  placed-has q = rw (placed, has-append, has_one) refl

  placed_below : (q : ℕ) → has (take (t + 1) (set s t p)) q ≡ true → q < top
  placed_below q e =
      by_cases (has (take t s) q) (f.below q)
      (λ d. subst (λ (y : ℕ). y < top) (sym (eqb-true q p (rw d at (sym (placed-has q) ∙ e)))) l)

  -- the front as it was
  pub place-behind : Gains top (λ q. eqb q p) s t (set s t p) n (t + 1)
  place-behind =
      record {
        front =
            record {
              order = omega (arith, f.order);
              fits = omega (arith, length-set s t p);
              rises = rw (take-set-le n s t p f.order) f.rises;
              below = placed_below;
            };
        same = λ q h. placed-has q;
      }

  -- the front with p
  pub place-front : n ≡ t → past_all (take n s) p ≡ true → Gains top (λ q. eqb q p) s t (set s t p) (n + 1) (t + 1)
  place-front e a =
      record {
        front =
            record {
              order = omega arith;
              fits = omega (arith, length-set s t p);
              rises = subst (λ (k : ℕ). Rises 0 (take (k + 1) (set s t p))) (sym e)
                  (rw placed (rises-more 0 (take t s) p rises (omega arith) above));
              below = placed_below;
            };
        same = λ q h. placed-has q;
      }
    where
      rises : Rises 0 (take t s)
      rises = subst (λ (k : ℕ). Rises 0 (take k s)) e f.rises

      above : (q : ℕ) → 1 ≤ occ (take t s) q → q < p
      above q h =
          let w = occ-some (take t s) q h in
          subst (λ (y : ℕ). y < p) w.2 (past-above (take t s) p (subst (λ (k : ℕ). past_all (take k s) p ≡ true) e a) rises w.0 w.1)

  pub place-grown : (k : ℕ) → k ≡ grown_to s n t p → Gains top (λ q. eqb q p) s t (set s t p) k (t + 1)
  place-grown k e =
      by_cases (leb t n && past_all (take n s) p)
      (λ b. subst (λ (y : ℕ). Gains top (λ q. eqb q p) s t (set s t p) y (t + 1)) (sym (e ∙ ap (λ (z : Bool). cond z (n + 1) n) b))
      (by_cases (leb t n) (λ d. place-front (omega (arith, f.order, leb-true t n d)) (rw d at b))
      (λ d. both {b = false} (rw d at b) refl)))
      (λ b. subst (λ (y : ℕ). Gains top (λ q. eqb q p) s t (set s t p) y (t + 1))
      (sym (e ∙ ap (λ (z : Bool). cond z (n + 1) n) b)) place-behind)

-- no room, and all that is held ascends
pub place-full : (top : ℕ) (s : List ℕ) (n t p : ℕ) → Front top s n t → n ≡ t → length s ≤ t → p < top → has (take n s) p ≡ false
    → length s < count_below top (λ q. has (take t s) q || eqb q p)
place-full top s n t p f e h l a =
    let long : length (take t s) ≡ t = length-take-le t s f.fits in
    let z : length (take t s) < count_below top (λ q. has (take t s) q || eqb q p) =
    too_many top (take t s) p (subst (λ (k : ℕ). Rises 0 (take k s)) e f.rises) f.below l
    (subst (λ (k : ℕ). has (take k s) p ≡ false) e a) in
    omega arith
