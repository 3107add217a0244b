-- The pass over the marks: after i of them, the samples are what the first i positions leave when each is repaired at once; and all of them
-- are the repair. Over any sample kind. Assumes nothing.
use Prim.Native.Nat.{ℕ, ◌+◌, ◌-◌, ◌≤◌, ◌<◌}
use mathlib.Core.Path.{◌≡◌, refl, sym, ap, ◌∙◌}
use mathlib.Core.Bool.{Bool, true, false, cond}
use mathlib.Core.List.{List}
use native.Mathlib.Numerals.{add-one}
use native.Mathlib.Omega.{arith}
use borrow.Author.Tests.{le-leb, lt-leb}
use lib.Ieee.{Float}
use lib.ListN.{length, get_or, take}
use lib.Seq.{take-suc, take_all}
use Rattle.pointwise.specs.Points.{each, between}
use Rattle.pointwise.proofs.Each.{length-each}
use Rattle.dng.specs.declared.Window.{Window}
use Rattle.dng.specs.Repair.{complete, repair_at}
use Rattle.num_sorted.specs.Sorts.{has}
use Rattle.fix_means.specs.Means.{mean_in}
use Rattle.fix_fills.specs.InPlace.{one_at, in_place}
use Rattle.fix_fills.specs.Fills.{Marking, near_at, pixel_of, mendable, count_in, mended, Sees, Apart}
use Rattle.fix_fills.proofs.Counting.{count-few, count_next}
use Rattle.fix_fills.proofs.Lying.{mark-has, mark-in}
use Rattle.fix_fills.proofs.Placing.{pixel-in}
use Rattle.fix_fills.proofs.Looking.{near-mends, near-sees, near_apart, one-mended, one_left}
use Rattle.fix_fills.proofs.Order.{place-append, place-one, in-place-at}

-- no more are repaired than there are marks
pub mended-few : (marks : List ℕ) (w : Window) (step : ℕ) → mended marks w step ≤ length marks
mended-few marks w step = count-few (mendable w step (has marks)) marks

module _ {A : Type 0} (d : A) (to_float : A → Float) (keep : Float → A) (w : Window) (step : ℕ) (marks : List ℕ) (s₀ : List A) where
  -- the first i marks are passed, `done` of them repaired
  pub record Passed (s : List A) (done i : ℕ) : Type 0 where
    pub few : done ≤ i
    pub count : done ≡ count_in (mendable w step (has marks)) (take i marks)
    pub same : length s ≡ length s₀
    pub written : s ≡ in_place d to_float keep w step (has marks) (take i marks) s₀

  pub pass-start : Passed s₀ 0 0
  unfolding count_in in_place
  pass-start = record { few = omega arith; count = refl; same = refl; written = refl }

  module _ (m : Marking marks w step) (s : List A) (done i : ℕ) (p : Passed s done i) (h : i < length marks) where
    -- the mark
    abbrev mark : ℕ
    mark = get_or marks i 0

    abbrev bad : ℕ → Bool
    bad = has marks

    -- one position more
    next : (s' : List A) → s' ≡ one_at d to_float keep w step bad mark s → s' ≡ in_place d to_float keep w step bad (take (i + 1) marks) s₀
    next s' e =
        e ∙ ap (one_at d to_float keep w step bad mark) p.written
        ∙ sym (rw (add-one, take-suc marks i 0 h, place-append, place-one) refl)

    turn : (s' : List A) (b : Bool) (more : ℕ) → more ≡ done + cond b 1 0 → mendable w step bad mark ≡ b → s' ≡ one_at d to_float keep w step bad mark s
        → Passed s' more (i + 1)
    turn s' b more c t e =
        record {
          few = omega (arith, c, p.few, bit b);
          count = omega (arith, c, p.count, rw t at (count_next (mendable w step bad) marks i h));
          same = ap length e ∙ length-each _ s ∙ p.same;
          written = next s' e;
        }
      where
        bit : (b : Bool) → cond b 1 0 ≤ 1
        bit true = omega arith
        bit false = omega arith

    -- its sound neighbours are found
    module _ (at : List ℕ) (l : at ≡ near_at w step bad mark) where
      pub pass-no : length at < 1 → Passed s done (i + 1)
      pass-no e =
          turn s false done (omega arith) (sym (near-mends w step bad mark at l) ∙ lt-leb 1 (length at) e)
          (one_left w step bad mark at l m.fits (mark-in marks w step m i h) (mark-has marks w step m i h) d to_float keep m.low s e)

      -- what is asked to put its means in, from its first sample on
      module _ (from : ℕ) (e : from ≡ pixel_of w mark) where
        pub pass-asks : complete w (length s₀) ≡ true → Sees (length s) at w.planes × ((from + w.planes ≤ length s) × Apart at w.planes from)
        pass-asks full = (
          near-sees w step bad mark at l (length s) (ap (complete w) p.same ∙ full),
          (
            omega (arith, e, pixel-in w m.fits mark (mark-in marks w step m i h) (length s₀) full, p.same),
            rw e (near_apart w step bad mark at l m.fits (mark-in marks w step m i h) (mark-has marks w step m i h)),
          ),
        )

        pub pass-yes : 1 ≤ length at → (s' : List A) → s' ≡ each (between from (from + w.planes) (λ j v. keep (mean_in d to_float s at (j - from)))) s
            → Passed s' (done + 1) (i + 1)
        pass-yes some s' g =
            turn s' true (done + 1) refl (sym (near-mends w step bad mark at l) ∙ le-leb 1 (length at) some)
            (one-mended w step bad mark at l m.fits (mark-in marks w step m i h) (mark-has marks w step m i h) d to_float keep m.low s some s'
            (rw e at g))

  -- all of them
  pub pass-end : (s : List A) (done i : ℕ) → Passed s done i → length marks ≤ i → 1 ≤ w.planes
      → (done ≡ mended marks w step) × (s ≡ each (repair_at d to_float keep w step (has marks) s₀) s₀)
  pass-end s done i p h some =
      let all : take i marks ≡ marks = take_all i marks h in (
        p.count ∙ ap (count_in (mendable w step (has marks))) all,
        p.written ∙ ap (λ (l : List ℕ). in_place d to_float keep w step (has marks) l s₀) all
            ∙ in-place-at d to_float keep w step (has marks) some s₀ marks (λ q m b. b),
      )
