-- One sample's value, and a delta that is there, missing, or in an empty list. Assumes nothing.
use Prim.Native.Nat.{ℕ, ◌≤◌, ◌<◌}
use mathlib.Core.Bool.{Bool, true, false, cond}
use mathlib.Core.List.{List, [], ◌∷◌}
use mathlib.Core.Path.{◌≡◌, refl, sym, ap, ◌∙◌}
use native.Mathlib.Omega.{arith}
use lib.Ieee.{Float, nan, binary32, add, sub, mul, lt, of_bits}
use lib.ListN.{length, get_or, get_or-eq_default}
use Rattle.std.proofs.lemmas.List.{get_or_default}
use Rattle.dng.specs.Value.{nought}
use Rattle.row_black.specs.Black.{with_delta, levelled_by}

-- 0.0
pub zero_is : of_bits binary32 0 ≡ nought
unfolding of_bits
zero_is = refl

pub above : (black scale v : Float) → lt nought (mul binary32 (sub binary32 v black) scale) ≡ true
    → mul binary32 (sub binary32 v black) scale ≡ levelled_by black scale v
unfolding levelled_by
above black scale v e = sym (ap (λ (b : Bool). cond b (mul binary32 (sub binary32 v black) scale) nought) e)

pub not-above : (black scale v : Float) → lt nought (mul binary32 (sub binary32 v black) scale) ≡ false
    → nought ≡ levelled_by black scale v
unfolding levelled_by
not-above black scale v e = sym (ap (λ (b : Bool). cond b (mul binary32 (sub binary32 v black) scale) nought) e)

pub delta-none : (ds : List Float) (i : ℕ) (b : Float) → length ds ≡ 0 → b ≡ with_delta ds i b
unfolding with_delta
delta-none [] i b e = refl
delta-none (d ∷ ds) i b e = absurd (omega arith)

pub delta-here : (ds : List Float) (i : ℕ) (b : Float) → i < length ds → add binary32 b (get_or ds i nan) ≡ with_delta ds i b
unfolding with_delta
delta-here [] i b h = absurd (omega arith)
delta-here (d ∷ ds) i b h = ap (add binary32 b) (get_or_default (d ∷ ds) i nan nought h)

pub delta-missing : (ds : List Float) (i : ℕ) (b : Float) → (length ds ≡ 0 → ⊥) → length ds ≤ i → add binary32 b nought ≡ with_delta ds i b
unfolding with_delta
delta-missing [] i b some h = absurd (some refl)
delta-missing (d ∷ ds) i b some h = ap (add binary32 b) (sym (get_or-eq_default (d ∷ ds) nought h))

-- past the end of a list one delta is as another
pub delta-past : (ds : List Float) (i k : ℕ) (b : Float) → length ds ≤ i → length ds ≤ k → with_delta ds i b ≡ with_delta ds k b
unfolding with_delta
delta-past [] i k b h q = refl
delta-past (d ∷ ds) i k b h q =
    ap (add binary32 b) (get_or-eq_default (d ∷ ds) nought h ∙ sym (get_or-eq_default (d ∷ ds) nought q))
