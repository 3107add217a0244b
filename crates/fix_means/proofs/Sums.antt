-- Sums over the sound neighbours, by where their samples begin, are the tallies of the definition; and a sum turn by turn. Over any sample kind.
-- Assumes nothing.
use Prim.Native.Nat.{ℕ, zero, suc, ◌+◌, ◌*◌, ◌≤◌, ◌<◌}
use mathlib.Core.Path.{◌≡◌, refl, sym, ap, ap₂, ◌∙◌}
use mathlib.Core.Bool.{Bool, true, false}
use mathlib.Core.List.{List, [], ◌∷◌}
use native.Mathlib.Nat.{not-suc-le-zero, le_of_suc-le-suc}
use native.Mathlib.Numerals.{add-one}
use native.Mathlib.Omega.{arith}
use lib.IntN.{ℤ}
use lib.Ieee.{Float, binary32, add}
use lib.ListN.{length, get_or, drop}
use lib.Seq.{drop-cons, drop-length}
use Rattle.std.proofs.lemmas.List.{get_or_default}
use Rattle.dng.specs.declared.Window.{Window}
use Rattle.dng.specs.Repair.{Tally, complete, steps, sample_at, tally_on, tally_at, sound_on, mean_of}
use Rattle.dng.specs.Value.{nought}
use Rattle.fix_near.specs.Looks.{first_of, near_on, near_of}
use Rattle.fix_near.proofs.Sound.{sound-any, sound-two}
use Rattle.fix_constant.proofs.Places.{place_in}
use Rattle.fix_means.specs.Means.{Reads, sum_over, mean_over}
use Rattle.fix_means.proofs.Tallies.{more, sound-few}

-- ---- turn by turn

-- i of the values are added: with those that are left the sum is whole
pub record Summed (value : ℕ → Float) (l : List ℕ) (i : ℕ) (s : Float) : Type 0 where
  pub within : i ≤ length l
  pub left : sum_over value (drop i l) s ≡ sum_over value l nought

pub summed-start : (value : ℕ → Float) (l : List ℕ) → Summed value l 0 nought
summed-start value l = record { within = omega arith; left = refl }

module _ (value : ℕ → Float) (at : List ℕ) (i : ℕ) (s : Float) (k : Summed value at i s) where
  pub summed-next : (v : Float) → i < length at → v ≡ value (get_or at i 0) → Summed value at (i + 1) (add binary32 s v)
  unfolding sum_over
  summed-next v h e =
      let one : sum_over value (drop i at) s ≡ sum_over value (drop (i + 1) at) (add binary32 s (value (get_or at i 0))) =
      rw (add-one, drop-cons at i 0 h) refl in
      record { within = omega arith; left = rw e (sym one ∙ k.left) }

  -- all are added: what is divided by their number is their mean
  pub summed-mean : (v : Float) → length at ≤ i → v ≡ mean_of (record { sum = s; n = length at }) → v ≡ mean_over value at
  unfolding sum_over
  summed-mean v h e =
      let done : i ≡ length at = omega (arith, k.within) in
      let whole : s ≡ sum_over value at nought =
      ap (λ (r : List ℕ). sum_over value r s) (sym (ap (λ (j : ℕ). drop j at) done ∙ drop-length at)) ∙ k.left in
      e ∙ ap (λ (u : Float). mean_of (record { sum = u; n = length at })) whole

-- the sample u, read at any default
pub summed-read : {A : Type 0} (none u : A) (to_float : A → Float) (s : List A) (at : List ℕ) (plane i : ℕ) (sum v : Float)
    → Summed (λ a. to_float (get_or s (a + plane) none)) at i sum → i < length at → Reads (length s) at plane
    → u ≡ get_or s (get_or at i 0 + plane) u → v ≡ to_float u
    → Summed (λ a. to_float (get_or s (a + plane) none)) at (i + 1) (add binary32 sum v)
summed-read none u to_float s at plane i sum v k h r d e =
    summed-next _ at i sum k v h (e ∙ ap to_float (d ∙ get_or_default s (get_or at i 0 + plane) u none (r.there i h)))

-- ---- the sound neighbours

-- what is so of an entry and of those after it
each_of : (P : ℕ → Type 0) (a : ℕ) (l : List ℕ) → P a → ((j : ℕ) → j < length l → P (get_or l j 0)) → (j : ℕ) → j < length (a ∷ l) → P (get_or (a ∷ l) j 0)
each_of P a l p f zero k = p
each_of P a l p f (suc j) k = f j (le_of_suc-le-suc k)

module _ (w : Window) (period : ℕ) (bad : ℕ → Bool) (x y : ℕ) where
  near-count-on : (ds : List (ℤ × ℤ)) → length (near_on w period bad x y ds) ≡ sound_on w.width w.height period bad x y ds
  unfolding near_on sound_on
  near-count-on [] = refl
  near-count-on (d ∷ ds) =
      let rest : List ℕ = near_on w period bad x y ds in
      let after : ℕ = sound_on w.width w.height period bad x y ds in
      sound-two w.width w.height period bad x y d (λ (l : List ℕ) (n : ℕ). length l ≡ n + after) (λ xx yy. first_of w xx yy ∷ rest) rest
      (λ xx yy. 1) 0 (λ xx yy. omega (arith, near-count-on ds)) (omega (arith, near-count-on ds))

  -- as many as the definition counts
  pub near-count : length (near_of w period bad x y) ≡ sound_on w.width w.height period bad x y steps
  near-count = near-count-on steps

  -- at most eight
  pub near-few : length (near_of w period bad x y) ≤ 8
  near-few = omega (arith, near-count, sound-few w.width w.height period bad x y steps)

  near-all-on : (P : ℕ → Type 0)
      → ((xx yy : ℕ) → xx < w.width → yy < w.height → bad (yy * w.width + xx) ≡ false → P (first_of w xx yy)) → (ds : List (ℤ × ℤ))
      → (j : ℕ) → j < length (near_on w period bad x y ds) → P (get_or (near_on w period bad x y ds) j 0)
  unfolding near_on
  near-all-on P h [] = λ j k. absurd (not-suc-le-zero k)
  near-all-on P h (d ∷ ds) =
      let rest : List ℕ = near_on w period bad x y ds in
      sound-any w.width w.height period bad x y d (λ (l : List ℕ). (j : ℕ) → j < length l → P (get_or l j 0))
      (λ xx yy. first_of w xx yy ∷ rest) rest (λ xx yy p q u. each_of P (first_of w xx yy) rest (h xx yy p q u) (near-all-on P h ds)) (near-all-on P h ds)

  -- each of them is an unmarked position of the window
  pub near-all : (P : ℕ → Type 0)
      → ((xx yy : ℕ) → xx < w.width → yy < w.height → bad (yy * w.width + xx) ≡ false → P (first_of w xx yy))
      → (j : ℕ) → j < length (near_of w period bad x y) → P (get_or (near_of w period bad x y) j 0)
  near-all P h = near-all-on P h steps

  -- so it has its samples
  pub near-there : (samples plane : ℕ) → complete w samples ≡ true → plane < w.planes → (j : ℕ) → j < length (near_of w period bad x y)
      → get_or (near_of w period bad x y) j 0 + plane < samples
  near-there samples plane full h =
      near-all (λ (a : ℕ). a + plane < samples) (λ xx yy p q u. place_in w xx yy p q samples plane h full)

  module _ (value : ℕ → ℕ → Float) (of : ℕ → Float) (same : (xx yy : ℕ) → value xx yy ≡ of (first_of w xx yy)) where
    near-tally-on : (ds : List (ℤ × ℤ)) (t : Tally)
        → tally_on w.width w.height period bad value x y ds t
        ≡ record { sum = sum_over of (near_on w period bad x y ds) t.sum; n = t.n + length (near_on w period bad x y ds) }
    unfolding near_on tally_on sum_over
    near-tally-on [] t = ap (λ (n : ℕ). record { sum = t.sum; n = n }) (omega arith)
    near-tally-on (d ∷ ds) t =
        let rest : List ℕ = near_on w period bad x y ds in
        sound-two w.width w.height period bad x y d
        (λ (u : Tally) (l : List ℕ).
        tally_on w.width w.height period bad value x y ds u ≡ record { sum = sum_over of l t.sum; n = t.n + length l })
        (more value t) t (λ xx yy. first_of w xx yy ∷ rest) rest
        (λ xx yy.
        near-tally-on ds (more value t xx yy)
        ∙ ap₂ (λ (v : Float) (n : ℕ). record { sum = sum_over of rest (add binary32 t.sum v); n = n }) (same xx yy) (omega arith))
        (near-tally-on ds t)

  -- the mean over them is the definition's
  pub near-mean : {A : Type 0} (d : A) (to_float : A → Float) (s : List A) (k : ℕ)
      → mean_over (λ a. to_float (get_or s (a + k) d)) (near_of w period bad x y)
      ≡ mean_of (tally_at w.width w.height period bad (λ xx yy. to_float (sample_at d w s xx yy k)) x y)
  near-mean d to_float s k =
      let of : ℕ → Float = λ a. to_float (get_or s (a + k) d) in
      let t : Tally = record { sum = nought; n = 0 } in
      let all : List ℕ = near_of w period bad x y in
      ap (λ (n : ℕ). mean_of (record { sum = sum_over of all nought; n = n })) (omega arith)
      ∙ ap mean_of (sym (near-tally-on (λ xx yy. to_float (sample_at d w s xx yy k)) of (λ xx yy. refl) steps t))
