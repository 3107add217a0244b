-- The planes of a pixel, each mean worked out from samples that were not written, and written at once. Over any sample kind. Assumes nothing.
use Prim.Native.Nat.{ℕ, suc, ◌+◌, ◌-◌, ◌≤◌, ◌<◌}
use mathlib.Core.Path.{◌≡◌, refl, sym, ap, ◌∙◌}
use mathlib.Core.List.{List, [], ◌∷◌}
use native.Mathlib.Nat.{add-sub_cancel_left, add_assoc}
use native.Mathlib.Omega.{arith}
use lib.Ieee.{Float, binary32, add}
use lib.ListN.{length, get_or, set, length-set}
use Rattle.pointwise.specs.Points.{each, between}
use Rattle.pointwise.proofs.Each.{below_or, get_or-each}
use Rattle.pointwise.proofs.Parts.{between-low, between-high, each-between-empty, store}
use Rattle.dng.specs.Repair.{mean_of}
use Rattle.dng.specs.Value.{nought}
use Rattle.fix_means.specs.Means.{Reads, sum_over, mean_over, mean_in}
use Rattle.fix_fills.specs.Fills.{Sees, Apart}

sum-ext : (f g : ℕ → Float) (l : List ℕ) (acc : Float) → ((i : ℕ) → i < length l → f (get_or l i 0) ≡ g (get_or l i 0)) → sum_over f l acc ≡ sum_over g l acc
unfolding sum_over
sum-ext f g [] acc h = refl
sum-ext f g (a ∷ l) acc h =
    ap (λ (v : Float). sum_over f l (add binary32 acc v)) (h 0 (omega arith)) ∙ sum-ext f g l (add binary32 acc (g a)) (λ i q. h (suc i) (omega arith))

mean-ext : (f g : ℕ → Float) (l : List ℕ) → ((i : ℕ) → i < length l → f (get_or l i 0) ≡ g (get_or l i 0)) → mean_over f l ≡ mean_over g l
mean-ext f g l h = ap (λ (v : Float). mean_of (record { sum = v; n = length l })) (sum-ext f g l nought h)

module _ {A : Type 0} (d : A) (to_float : A → Float) (keep : Float → A) (at : List ℕ) (p from : ℕ) (s₀ : List A) where
  -- what sample j takes
  abbrev pub taken : ℕ → A → A
  taken j v = keep (mean_in d to_float s₀ at (j - from))

  -- the planes before k are written
  pub record Planes (s : List A) (k : ℕ) : Type 0 where
    pub within : k ≤ p
    pub same : length s ≡ length s₀
    pub done : s ≡ each (between from (from + k) taken) s₀

  pub planes-start : Planes s₀ 0
  planes-start = record { within = omega arith; same = refl; done = sym (each-between-empty from (from + 0) taken s₀ (omega arith)) }

  module _ (s : List A) (k : ℕ) (h : Planes s k) (l : k < p) where
    -- what is read is there, and was not written
    pub planes-reads : Sees (length s₀) at p → Reads (length s) at k
    planes-reads sees =
        let r = sees k l in
        record { few = r.few; there = λ j q. omega (arith, r.there j q, h.same) }

    planes-mean : Sees (length s₀) at p → Apart at p from → mean_in d to_float s at k ≡ mean_in d to_float s₀ at k
    planes-mean sees apart =
        mean-ext _ _ at
        (λ i q.
        let r = sees k l in
        let j : ℕ = get_or at i 0 + k in
        ap (λ (t : List A). to_float (get_or t j d)) h.done
        ∙ ap to_float (get_or-each (between from (from + k) taken) s₀ j d (r.there i q)
        ∙ below_or j from (λ z. between-low from (from + k) taken j _ z)
        (λ z. below_or j (from + p) (λ t. absurd (apart i k q l z t)) (λ t. between-high from (from + k) taken j _ (omega arith)))))

    pub planes-next : Sees (length s₀) at p → Apart at p from → (u : Float) (v : A) → from + p ≤ length s₀
        → u ≡ mean_in d to_float s at k → v ≡ keep u → Planes (set s (from + k) v) (k + 1)
    planes-next sees apart u v r m e =
        let new : v ≡ keep (mean_in d to_float s₀ at (from + k - from)) =
        e ∙ ap keep (m ∙ planes-mean sees apart) ∙ ap (λ (m : ℕ). keep (mean_in d to_float s₀ at m)) (sym (add-sub_cancel_left from k)) in
        record {
          within = omega arith;
          same = length-set s (from + k) v ∙ h.same;
          done =
              store v taken from (from + k) s₀ s v h.done new (omega arith) (omega arith)
              ∙ ap (λ (m : ℕ). each (between from m taken) s₀) (add_assoc from k 1);
        }

  pub planes-end : (s : List A) (k : ℕ) → Planes s k → p ≤ k → s ≡ each (between from (from + p) taken) s₀
  planes-end s k h l =
      let e : k ≡ p = omega (arith, h.within) in
      h.done ∙ ap (λ (m : ℕ). each (between from (from + m) taken) s₀) e
