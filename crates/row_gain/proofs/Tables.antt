-- How two tables are filled with the positions of a block of columns. Assumes nothing.
use Prim.Native.Nat.{ℕ, ◌+◌, ◌-◌, ◌*◌, ◌^◌, ◌≤◌, ◌<◌}
use mathlib.Core.Path.{◌≡◌, sym, subst, ◌∙◌}
use mathlib.Core.List.{List}
use native.Mathlib.Nat.{lt_of_mul-lt-mul_right}
use native.Mathlib.Omega.{arith}
use lib.ListN.{length, get_or, set, length-set}
use lib.Seq.{get_or-set_same, get_or-set_other}
use lib.Ieee.{Float, nan}
use Rattle.pointwise.proofs.Each.{below_or}
use Rattle.dng.specs.Value.{position}
use Rattle.row_gain.specs.declared.Column.{Column}
use Rattle.row_gain.specs.Strip.{ColumnIs}
use Rattle.row_gain.specs.Blocks.{Filled}
use Rattle.row_gain.proofs.Laws.{lower-le}

-- The first j entries are filled, and column `at` is the next.
pub record Filling (f : ℕ → Float) (x pitch : ℕ) (cs₀ cs : List Column) (at j : ℕ) : Type 0 where
  pub filled : Filled f x pitch j cs
  pub place : at ≡ x + j * pitch
  pub same : length cs ≡ length cs₀

module _ {f : ℕ → Float} {x pitch : ℕ} {cs₀ : List Column} where
  pub filling-next : {cs : List Column} {at j : ℕ} {c : Column} → Filling f x pitch cs₀ cs at j → j < length cs → ColumnIs (f at) c
      → Filling f x pitch cs₀ (set cs j c) (at + pitch) (j + 1)
  filling-next {cs} {at} {j} {c} u h is =
      record {
        filled = record {
          columns = λ i q.
              below_or i j
              (λ p. subst (ColumnIs (f (x + i * pitch))) (sym (get_or-set_other cs j i c d (omega arith))) (u.filled.columns i p))
              (λ p.
              subst (λ (m : ℕ). ColumnIs (f (x + m * pitch)) (get_or (set cs j c) m d)) (omega arith)
              (subst (ColumnIs (f (x + j * pitch))) (sym (get_or-set_same cs j c d h))
              (subst (λ (m : ℕ). ColumnIs (f m) c) u.place is)));
          room = omega (arith, length-set cs j c);
        };
        place = omega (arith, u.place);
        same = length-set cs j c ∙ u.same;
      }
    where
      d : Column
      d = record { lower = 0; share = nan }

-- a column before the room's end has its place in the room
pub in-room : (x pitch room at j : ℕ) → at ≡ x + j * pitch → at < x + room * pitch → j < room
in-room x pitch room at j e h = lt_of_mul-lt-mul_right pitch (omega arith)

-- a filled entry is a map column
pub entry-le : (full : ℕ) (origin spacing : Float) (n x pitch w : ℕ) (cs : List Column)
    → Filled (λ at. position at full origin spacing n) x pitch w cs → n ≤ 2 ^ 32 → (j : ℕ) → j < w
    → (get_or cs j (record { lower = 0; share = nan })).lower ≤ n - 1
entry-le full origin spacing n x pitch w cs f h j q =
    omega (arith, (f.columns j q).lower-is, lower-le (x + j * pitch) full origin spacing n h)
