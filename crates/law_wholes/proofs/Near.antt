-- A u16 sample as f32, and an f32 that rounds to a u16 sample: narrowed it is the sample, a table at scale 1 makes it exact,
-- and a mean is near. Assumes nothing.
use Prim.Native.Nat.{ℕ, ◌-◌, ◌*◌, ◌^◌, ◌≤◌, ◌<◌, min}
use mathlib.Core.Path.{◌≡◌, sym, ap, subst, ◌∙◌}
use mathlib.Core.Bool.{false}
use mathlib.Core.List.{List}
use native.Mathlib.Nat.{zero-lt-suc}
use native.Mathlib.Omega.{arith}
use lib.IntN.{pos}
use lib.Dec.{T, lit≤}
use lib.Pow.{pow_pos}
use lib.Ieee.{Float, binary32, low, mul, div, fits}
use lib.Ieee.Fits.{div-fits, of_int-fits}
use lib.Ieee.Exact.{HasValue}
use Rattle.num_round.specs.Whole.{round_held}
use Rattle.num_convert.specs.Convert.{whole_in}
use Rattle.dng.specs.Value.{one, table_at, map_table, map_table16}
use Rattle.law_wholes.proofs.Values.{mul-one-value, half_up, half-whole, held_at}
use Rattle.law_wholes.proofs.Wholes.{whole-value, one_value, over-one, Mean, mean-whole}

-- v is the u16 sample a as f32
pub record Exact (a : ℕ) (v : Float) : Type 0 where
  pub small : a < 65536
  pub same : v ≡ whole_in binary32 a

-- v is an f32 that rounds, half away from zero, to the u16 sample a
pub record Near (a : ℕ) (v : Float) : Type 0 where
  pub small : a < 65536
  pub num : ℕ
  pub den : ℕ
  pub some : 0 < den
  pub value : HasValue v false num den
  pub holds : T (fits binary32 v)
  pub rounds : half_up num den ≡ a

-- u16 samples are among the whole numbers that f32 counts without a gap
pub gapless : (a : ℕ) → a < 65536 → a < 16777216
gapless a h = omega arith

pub sample-value : (a : ℕ) → a < 65536 → HasValue (whole_in binary32 a) false a 1
sample-value a h = whole-value binary32 a (omega (arith, gapless a h))

pub exact-near : {a : ℕ} {v : Float} → Exact a v → Near a v
exact-near {a} {v} e =
    record {
      small = e.small;
      num = a;
      den = 1;
      some = zero-lt-suc 0;
      value = subst (λ (z : Float). HasValue z false a 1) (sym e.same) (sample-value a e.small);
      holds = subst (λ (z : Float). T (fits binary32 z)) (sym e.same) (of_int-fits binary32 (pos a));
      rounds = half-whole a;
    }

-- ---- rounded and held, as it is and times 1

pub near-held : {a : ℕ} {v : Float} (last : ℕ) → Near a v → round_held last v ≡ min a last
near-held {a} {v} last n = held_at last v n.num n.den n.some n.value ∙ ap (λ (z : ℕ). min z last) n.rounds

near-index : {a : ℕ} {v : Float} (last : ℕ) → Near a v → round_held last (mul binary32 v one) ≡ min a last
near-index {a} {v} last n =
    held_at last (mul binary32 v one) n.num n.den n.some
    (mul-one-value binary32 v one n.num n.den n.some n.holds n.value one_value)
    ∙ ap (λ (z : ℕ). min z last) n.rounds

-- ---- a table

pub table-exact : {a : ℕ} {v : Float} (n : ℕ) (b : List ℕ) → ((i : ℕ) → table_at b i < 65536) → Near a v
    → Exact (map_table16 n b a) (map_table one n b v)
unfolding map_table map_table16
table-exact {a} {v} n b entries h =
    let e : ℕ = table_at b (min a (n - 1)) in
    record {
      small = entries (min a (n - 1));
      same = ap (λ (i : ℕ). div binary32 (whole_in binary32 (table_at b i)) one) (near-index (n - 1) h)
          ∙ over-one binary32 e (omega (arith, gapless e (entries (min a (n - 1)))));
    }

-- ---- the mean of n samples that sum to s

pub mean-near : (x : Float) (s n : ℕ) → 0 < n → n ≤ 16777216 → s ≤ 65535 * n → HasValue x false s 1
    → Near (round_held 65535 (div binary32 x (whole_in binary32 n))) (div binary32 x (whole_in binary32 n))
mean-near x s n N few h v =
    let m : Mean binary32 65535 (div binary32 x (whole_in binary32 n)) =
    mean-whole binary32 x s n 65535 N few (lit≤ {m = 65535} {n = 16777216} tt) h v in
    let held : round_held 65535 (div binary32 x (whole_in binary32 n)) ≡ half_up m.units (2 ^ low binary32) =
    held_at 65535 (div binary32 x (whole_in binary32 n)) m.units (2 ^ low binary32) (pow_pos (low binary32)) m.value
    ∙ least (half_up m.units (2 ^ low binary32)) m.upto in
    record {
      small = subst (λ (z : ℕ). z < 65536) (sym held) m.upto;
      num = m.units;
      den = 2 ^ low binary32;
      some = pow_pos (low binary32);
      value = m.value;
      holds = div-fits binary32 x (whole_in binary32 n);
      rounds = sym held;
    }
  where
    least : (k : ℕ) → k < 65536 → min k 65535 ≡ k
    least k h = omega arith
