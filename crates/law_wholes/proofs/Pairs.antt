-- u16 samples and f32 samples, place by place: the relation that both runs keep. Widened samples are pairs, and near pairs,
-- narrowed, are the u16 samples. Assumes nothing.
use Prim.Native.Nat.{ℕ, zero, suc, ◌<◌}
use mathlib.Core.Path.{◌≡◌, refl, sym, subst, ◌∙◌}
use mathlib.Core.List.{List, [], ◌∷◌, map}
use native.Mathlib.Nat.{le_of_suc-le-suc, not-suc-le-zero}
use native.Mathlib.Omega.{arith}
use lib.Ieee.{Float, nan}
use lib.ListN.{length, get_or, length-map}
use lib.Seq.{ext_get_or}
use Rattle.pointwise.specs.Points.{each}
use Rattle.pointwise.proofs.Each.{length-each, get_or-each}
use Rattle.law_wholes.specs.WholeForm.{Below, widened, narrowed}
use Rattle.law_wholes.proofs.Near.{Exact, Near, near-held}

-- as long, and R at each place
pub record Pairs (R : ℕ → Float → Type 0) (s : List ℕ) (t : List Float) : Type 0 where
  pub long : length t ≡ length s
  pub at : (i : ℕ) → i < length s → R (get_or s i 0) (get_or t i nan)

pub get_or-map-in : {A B : Type 0} (f : A → B) (l : List A) (i : ℕ) (d : A) (e : B) → i < length l → get_or (map f l) i e ≡ f (get_or l i d)
get_or-map-in f [] i d e h = absurd (not-suc-le-zero h)
get_or-map-in f (x ∷ xs) zero d e h = refl
get_or-map-in f (x ∷ xs) (suc i) d e h = get_or-map-in f xs i d e (le_of_suc-le-suc h)

pub pairs-widened : (s : List ℕ) → Below 65536 s → Pairs Exact s (widened s)
pairs-widened s h =
    record {
      long = length-map s _;
      at = λ i q. record { small = h i q; same = get_or-map-in _ s i 0 nan q };
    }

pub pairs-narrowed : (s : List ℕ) (t : List Float) → Pairs Near s t → s ≡ narrowed t
pairs-narrowed s t p =
    ext_get_or 0 s (narrowed t) (sym p.long ∙ sym (length-map t _))
    (λ i q.
    sym (get_or-map-in _ t i nan 0 (subst (λ (n : ℕ). i < n) (sym p.long) q) ∙ near-held _ (p.at i q) ∙ omega (arith, (p.at i q).small)))

module _ {R Q : ℕ → Float → Type 0} where
  pub pairs-weaken : {s : List ℕ} {t : List Float} → ((a : ℕ) (v : Float) → R a v → Q a v) → Pairs R s t → Pairs Q s t
  pairs-weaken {s} {t} h p = record { long = p.long; at = λ i q. h (get_or s i 0) (get_or t i nan) (p.at i q) }

  -- both lists changed place by place
  pub pairs-each : (f : ℕ → ℕ → ℕ) (g : ℕ → Float → Float) (s : List ℕ) (t : List Float) → Pairs R s t
      → ((i : ℕ) → i < length s → R (get_or s i 0) (get_or t i nan) → Q (f i (get_or s i 0)) (g i (get_or t i nan)))
      → Pairs Q (each f s) (each g t)
  pairs-each f g s t p h =
      record {
        long = length-each g t ∙ p.long ∙ sym (length-each f s);
        at = λ i q.
            let r : i < length s = subst (λ (n : ℕ). i < n) (length-each f s) q in
            let r' : i < length t = subst (λ (n : ℕ). i < n) (sym p.long) r in
            subst (λ (a : ℕ). Q a (get_or (each g t) i nan)) (sym (get_or-each f s i 0 r))
            (subst (λ (v : Float). Q (f i (get_or s i 0)) v) (sym (get_or-each g t i nan r')) (h i r (p.at i r)));
      }
