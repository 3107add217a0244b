-- A list filled over the places of a set with what does not go by what stood there. Assumes nothing.
use Prim.Native.Nat.{ℕ, ◌+◌, ◌*◌, ◌/◌, ◌%◌, ◌≤◌, ◌<◌}
use mathlib.Core.Bool.{Bool, true, false, ◌&&◌, cond}
use mathlib.Core.List.{List}
use mathlib.Core.Path.{◌≡◌, refl, sym, ap, ap₂, subst, ◌∙◌}
use native.Mathlib.Nat.{add-mul, one-mul, mul-le-mul_right, mod-lt, mod-le, mod-eq_of_lt, div-add-mod', add-mul-mod_self_right}
use native.Mathlib.Omega.{arith}
use borrow.Author.Tests.{lt-ltb, le-ltb, eq-eqb, ne_eqb, eqb-true, eqb-false}
use lib.Dec.{eqb, ltb}
use lib.Ieee.{Float, nan}
use lib.ListN.{length, get_or, set, length-set}
use lib.Seq.{get_or-set_same, get_or-set_other}
use Rattle.pointwise.specs.Points.{each}
use Rattle.pointwise.proofs.Each.{below_or, length-each, get_or-each, is-each, each-agree, each_none, each-each}
use Rattle.row_black.specs.Rows.{only}
use Rattle.row_black.proofs.Refusals.{by_cases}

-- ---- over a set

module _ (f : ℕ → Float) where
  only-in : (at : ℕ → Bool) (j : ℕ) (v : Float) → at j ≡ true → only at f j v ≡ f j
  unfolding only
  only-in at j v e = ap (λ (b : Bool). cond b (f j) v) e

  only_out : (at : ℕ → Bool) (j : ℕ) (v : Float) → at j ≡ false → only at f j v ≡ v
  unfolding only
  only_out at j v e = ap (λ (b : Bool). cond b (f j) v) e

  only_same : (at at' : ℕ → Bool) (j : ℕ) (v : Float) → at j ≡ at' j → only at f j v ≡ only at' f j v
  unfolding only
  only_same at at' j v e = ap (λ (b : Bool). cond b (f j) v) e

-- ---- every step-th place

-- the places from, from + step .. below j
abbrev stride_below : (from step j : ℕ) → ℕ → Bool
stride_below from step j i = eqb (i % step) from && ltb i j

-- `turn` places are done, and j is the next
pub record Strode (from step : ℕ) (f : ℕ → Float) (old now : List Float) (j turn : ℕ) : Type 0 where
  pub done : now ≡ each (only (stride_below from step j) f) old
  pub same : length now ≡ length old
  pub place : j ≡ from + turn * step

-- below the first place there is none
none_below : {from step : ℕ} → from < step → (i : ℕ) → stride_below from step from i ≡ false
none_below {from} {step} first i =
    below_or i from
    (λ h. ap (λ (b : Bool). b && ltb i from) (ne_eqb (i % step) from (λ e. omega (arith, e, mod-le i step))))
    (λ h. ap (◌&&◌ (eqb (i % step) from)) (le-ltb i from h) ∙ either (eqb (i % step) from))
  where
    either : (b : Bool) → (b && false) ≡ false
    either true = refl
    either false = refl

module _ {from step : ℕ} {f : ℕ → Float} {old : List Float} (first : from < step) where
  pub strode-start : Strode from step f old old from 0
  strode-start =
      record {
        done = sym (each_none (only (stride_below from step from) f) old (λ i v h. only_out f (stride_below from step from) i v (none_below first i)));
        same = refl;
        place = omega arith;
      }

  module _ {now : List Float} {j turn : ℕ} (s : Strode from step f old now j turn) where
    here : j % step ≡ from
    here = ap (λ (k : ℕ). k % step) s.place ∙ add-mul-mod_self_right from turn step ∙ mod-eq_of_lt first

    -- a place of the walk other than j is below j + step exactly where it is below j
    apart : (i : ℕ) → (i ≡ j → ⊥) → i % step ≡ from → ltb i (j + step) ≡ ltb i j
    apart i other e =
        let split : i ≡ i / step * step + from = sym (div-add-mod' i step) ∙ ap (◌+◌ (i / step * step)) e in
        below_or (i / step) turn
        (λ h.
        let low : i < j =
        omega (arith, s.place, mul-le-mul_right {m = i / step + 1} {n = turn} step (omega arith), add-mul (i / step) 1 step, one-mul step) in
        lt-ltb i (j + step) (omega arith) ∙ sym (lt-ltb i j low))
        (λ h.
        below_or turn (i / step)
        (λ q.
        let high : j + step ≤ i =
        omega (arith, s.place, mul-le-mul_right {m = turn + 1} {n = i / step} step (omega arith), add-mul turn 1 step, one-mul step) in
        le-ltb i (j + step) high ∙ sym (le-ltb i j (omega arith)))
        (λ q.
        absurd (other (split ∙ ap (λ (k : ℕ). k * step + from) (let r : i / step ≡ turn = omega arith in r) ∙ omega (arith, s.place)))))

    joins : (i : ℕ) → (i ≡ j → ⊥) → stride_below from step j i ≡ stride_below from step (j + step) i
    joins i other =
        by_cases (eqb (i % step) from)
        (λ e. ap (◌&&◌ (eqb (i % step) from)) (sym (apart i other (eqb-true (i % step) from e))))
        (λ e. ap (λ (b : Bool). b && ltb i j) e ∙ sym (ap (λ (b : Bool). b && ltb i (j + step)) e))

    -- a store at j
    pub strode-next : {v : Float} → j < length old → v ≡ f j → Strode from step f old (set now j v) (j + step) (turn + 1)
    strode-next {v} h e =
        record {
          done = is-each nan (only (stride_below from step (j + step)) f) old (set now j v) kept at;
          same = kept;
          place = omega (arith, s.place, add-mul turn 1 step, one-mul step);
        }
      where
        kept : length (set now j v) ≡ length old
        kept = length-set now j v ∙ s.same

        stored : get_or (set now j v) j nan ≡ only (stride_below from step (j + step)) f j (get_or old j nan)
        stored =
            get_or-set_same now j v nan (omega (arith, s.same)) ∙ e
            ∙ sym
            (only-in f (stride_below from step (j + step)) j (get_or old j nan)
            (ap₂ ◌&&◌ (eq-eqb (j % step) from here) (lt-ltb j (j + step) (omega (arith, first)))))

        at : (i : ℕ) → i < length old → get_or (set now j v) i nan ≡ only (stride_below from step (j + step)) f i (get_or old i nan)
        at i q =
            by_cases (eqb i j)
            (λ r.
            subst (λ (k : ℕ). get_or (set now j v) k nan ≡ only (stride_below from step (j + step)) f k (get_or old k nan))
            (sym (eqb-true i j r)) stored)
            (λ r.
            get_or-set_other now j i v nan (eqb-false i j r)
            ∙ ap (λ (l : List Float). get_or l i nan) s.done
            ∙ get_or-each (only (stride_below from step j) f) old i nan q
            ∙ only_same f (stride_below from step j) (stride_below from step (j + step)) i (get_or old i nan) (joins i (eqb-false i j r)))

    -- past the end no place is left
    pub strode-end : length old ≤ j → now ≡ each (only (λ i. eqb (i % step) from) f) old
    strode-end h =
        s.done
        ∙ each-agree (only (stride_below from step j) f) (only (λ i. eqb (i % step) from) f) old
        (λ i v q.
        only_same f (stride_below from step j) (λ k. eqb (k % step) from) i v
        (ap (◌&&◌ (eqb (i % step) from)) (lt-ltb i j (omega arith)) ∙ whole (eqb (i % step) from)))
      where
        whole : (b : Bool) → (b && true) ≡ b
        whole true = refl
        whole false = refl

-- ---- all such walks

-- those from the places before i
pub record Spread (step : ℕ) (f : ℕ → Float) (old now : List Float) (i : ℕ) : Type 0 where
  pub done : now ≡ each (only (λ j. ltb (j % step) i) f) old
  pub same : length now ≡ length old

module _ {step : ℕ} {f : ℕ → Float} {old : List Float} where
  pub spread-start : Spread step f old old 0
  spread-start =
      record {
        done = sym (each_none (only (λ j. ltb (j % step) 0) f) old (λ j v h. only_out f (λ k. ltb (k % step) 0) j v (le-ltb (j % step) 0 (omega arith))));
        same = refl;
      }

  module _ {now : List Float} {i : ℕ} (s : Spread step f old now i) where
    -- one walk more, whose rule is f's at its places
    pub spread-next : {now' : List Float} (g : ℕ → Float) → now' ≡ each (only (λ j. eqb (j % step) i) g) now
        → ((j : ℕ) → j < length old → j % step ≡ i → g j ≡ f j) → Spread step f old now' (i + 1)
    spread-next {now'} g walked rule =
        record {
          done = walked ∙ ap (each (only (λ j. eqb (j % step) i) g)) s.done
              ∙ each-each (only (λ j. ltb (j % step) i) f) (only (λ j. eqb (j % step) i) g) old
              ∙ each-agree (λ j v. only (λ k. eqb (k % step) i) g j (only (λ k. ltb (k % step) i) f j v)) (only (λ k. ltb (k % step) (i + 1)) f) old at;
          same = ap length walked ∙ length-each (only (λ j. eqb (j % step) i) g) now ∙ s.same;
        }
      where
        at : (j : ℕ) (v : Float) → j < length old
            → only (λ k. eqb (k % step) i) g j (only (λ k. ltb (k % step) i) f j v) ≡ only (λ k. ltb (k % step) (i + 1)) f j v
        at j v h =
            below_or (j % step) i
            (λ q.
            only_out g (λ k. eqb (k % step) i) j _ (ne_eqb (j % step) i (λ e. omega arith))
            ∙ only_same f (λ k. ltb (k % step) i) (λ k. ltb (k % step) (i + 1)) j v
            (lt-ltb (j % step) i q ∙ sym (lt-ltb (j % step) (i + 1) (omega arith))))
            (λ q.
            below_or i (j % step)
            (λ r.
            only_out g (λ k. eqb (k % step) i) j _ (ne_eqb (j % step) i (λ e. omega arith))
            ∙ only_same f (λ k. ltb (k % step) i) (λ k. ltb (k % step) (i + 1)) j v
            (le-ltb (j % step) i q ∙ sym (le-ltb (j % step) (i + 1) (omega arith))))
            (λ r.
            let e : j % step ≡ i = omega arith in
            only-in g (λ k. eqb (k % step) i) j _ (eq-eqb (j % step) i e)
            ∙ rule j h e
            ∙ sym (only-in f (λ k. ltb (k % step) (i + 1)) j v (lt-ltb (j % step) (i + 1) (omega arith)))))

    pub spread_end : step ≤ i → ((j : ℕ) → j < length old → 1 ≤ step) → now ≡ each (λ j v. f j) old
    spread_end h some =
        s.done
        ∙ each-agree (only (λ j. ltb (j % step) i) f) (λ j v. f j) old
        (λ j v q. only-in f (λ k. ltb (k % step) i) j v (lt-ltb (j % step) i (omega (arith, mod-lt j (some j q)))))
