-- Position after position, each written at once, is the repair: what has been written is never read. Over any sample kind. Assumes nothing.
use Prim.Native.Nat.{ℕ, ◌≤◌, ◌<◌}
use mathlib.Core.Path.{◌≡◌, refl, sym, ap, ◌∙◌}
use mathlib.Core.Bool.{Bool, true, false, ◌||◌, cond, or-false, false≢true}
use mathlib.Core.List.{List, [], ◌∷◌, ◌++◌}
use native.Mathlib.Omega.{arith}
use lib.Dec.{eqb}
use lib.Ieee.{Float}
use lib.ListN.{length, get_or, get_or-eq_default}
use Rattle.pointwise.specs.Points.{each}
use Rattle.pointwise.proofs.Each.{length-each, get_or-each, each-agree, each_none, each-each}
use Rattle.dng.specs.declared.Window.{Window}
use Rattle.dng.specs.Select.{in_window}
use Rattle.dng.specs.Repair.{positions, repair_at}
use Rattle.num_sorted.specs.Sorts.{has, occ}
use Rattle.num_sorted.proofs.Occ.{by_cases, below_or, has-append, has_one}
use Rattle.fix_fills.specs.InPlace.{position_of, one_at, in_place, Agrees, InPlace}
use Rattle.fix_fills.proofs.Placing.{position-of}
use Rattle.fix_fills.proofs.Reading.{reads, twice, stays}

or_assoc : (a b c : Bool) → ((a || b) || c) ≡ (a || (b || c))
or_assoc true b c = refl
or_assoc false b c = refl

-- done before, or in a list of none or of one more
no_more : (a : Bool) (p : ℕ) → a ≡ (a || has [] p)
unfolding has occ
no_more a p = sym (or-false a)

one_more : (a : Bool) (q : ℕ) (qs : List ℕ) (p : ℕ) → ((a || eqb p q) || has qs p) ≡ (a || has (q ∷ qs) p)
one_more a q qs p =
    or_assoc a (eqb p q) (has qs p)
    ∙ ap (◌||◌ a) (ap (λ (b : Bool). b || has qs p) (sym (has_one q p)) ∙ sym (has-append (q ∷ []) qs p))

module _ {A : Type 0} (d : A) (to_float : A → Float) (of_mean : Float → A) (w : Window) (period : ℕ) (bad : ℕ → Bool) where
  -- two lists one after the other
  pub place-append : (l r : List ℕ) (s : List A)
      → in_place d to_float of_mean w period bad (l ++ r) s ≡ in_place d to_float of_mean w period bad r (in_place d to_float of_mean w period bad l s)
  unfolding in_place
  place-append [] r s = refl
  place-append (q ∷ l) r s = place-append l r (one_at d to_float of_mean w period bad q s)

  pub place-one : (q : ℕ) (s : List A) → in_place d to_float of_mean w period bad (q ∷ []) s ≡ one_at d to_float of_mean w period bad q s
  unfolding in_place
  place-one q s = refl

  module _ (some : 1 ≤ w.planes) (s : List A) where
    -- the repair from the samples at the start, and that of the positions that are `done`
    abbrev new : ℕ → A → A
    new j v = repair_at d to_float of_mean w period bad s j v

    abbrev partly : (ℕ → Bool) → ℕ → A → A
    partly done j v = cond (done (position_of w j)) (new j v) v

    -- unmarked positions are as they were
    agrees : (done : ℕ → Bool) → Agrees d to_float of_mean w period bad s (each (partly done) s)
    agrees done j e sound =
        below_or j (length s)
        (λ l. get_or-each (partly done) s j d l ∙ either (done (position_of w j)))
        (λ l. get_or-eq_default (each (partly done) s) d (omega (arith, length-each (partly done) s)) ∙ sym (get_or-eq_default s d l))
      where
        either : (b : Bool) → cond b (new j (get_or s j d)) (get_or s j d) ≡ get_or s j d
        either true = stays d to_float of_mean w period bad s j (get_or s j d) (λ z. sound)
        either false = refl

    -- one position more is done
    done_more : (done : ℕ → Bool) (q : ℕ) → one_at d to_float of_mean w period bad q (each (partly done) s) ≡ each (partly (λ p. done p || eqb p q)) s
    done_more done q =
        each-agree _ (λ j u. cond (eqb (position_of w j) q) (new j u) u) (each (partly done) s)
        (λ j u l.
        ap (λ (z : A). cond (eqb (position_of w j) q) z u)
        (reads d to_float of_mean w period bad s (each (partly done) s) some (agrees done) j u))
        ∙ each-each (partly done) (λ j u. cond (eqb (position_of w j) q) (new j u) u) s
        ∙ each-agree _ (partly (λ p. done p || eqb p q)) s (λ j v l. both (done (position_of w j)) (eqb (position_of w j) q) j v)
      where
        both : (a b : Bool) (j : ℕ) (v : A) → cond b (new j (cond a (new j v) v)) (cond a (new j v) v) ≡ cond (a || b) (new j v) v
        both true true j v = twice d to_float of_mean w period bad s j v
        both true false j v = refl
        both false true j v = refl
        both false false j v = refl

    done-list : (qs : List ℕ) (done : ℕ → Bool)
        → in_place d to_float of_mean w period bad qs (each (partly done) s) ≡ each (partly (λ p. done p || has qs p)) s
    unfolding in_place
    done-list [] done =
        each-agree _ _ s (λ j v l. ap (λ (b : Bool). cond b (new j v) v) (no_more (done (position_of w j)) (position_of w j)))
    done-list (q ∷ qs) done =
        ap (in_place d to_float of_mean w period bad qs) (done_more done q)
        ∙ done-list qs (λ p. done p || eqb p q)
        ∙ each-agree _ _ s (λ j v l. ap (λ (b : Bool). cond b (new j v) v) (one_more (done (position_of w j)) q qs (position_of w j)))

    -- every marked position is done
    all_done : (qs : List ℕ) → ((q : ℕ) → q < positions w → bad q ≡ true → has qs q ≡ true)
        → each (partly (λ p. false || has qs p)) s ≡ each new s
    all_done qs h =
        each-agree _ new s
        (λ j v l.
        by_cases (has qs (position_of w j)) (λ e. rw e refl)
        (λ e. rw e (sym (stays d to_float of_mean w period bad s j v (λ i. unmarked j i e)))))
      where
        unmarked : (j : ℕ) → in_window w j ≡ true → has qs (position_of w j) ≡ false → bad (position_of w j) ≡ false
        unmarked j i e =
            by_cases (bad (position_of w j)) (λ b. absurd (false≢true (sym e ∙ h (position_of w j) (position-of w j i) b))) (λ b. b)

    pub in-place-at : (qs : List ℕ) → ((q : ℕ) → q < positions w → bad q ≡ true → has qs q ≡ true)
        → in_place d to_float of_mean w period bad qs s ≡ each new s
    in-place-at qs h =
        ap (in_place d to_float of_mean w period bad qs) (sym (each_none (partly (λ p. false)) s (λ j v l. refl)))
        ∙ done-list qs (λ p. false)
        ∙ all_done qs h

pub in_place_lem : InPlace
in_place_lem A d to_float of_mean w period bad s some qs h = in-place-at d to_float of_mean w period bad some s qs h
