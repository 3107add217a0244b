-- A walk over every step-th sample of a row, its columns counted beside it. Assumes nothing.
use Prim.Native.Nat.{ℕ, ◌+◌, ◌*◌, ◌/◌, ◌%◌, ◌≤◌, ◌<◌}
use mathlib.Core.List.{List}
use mathlib.Core.Path.{◌≡◌, sym, ap, ap₂, ◌∙◌}
use native.Mathlib.Nat.{add-mul, one-mul, mul-one, mul-le-mul, mul-le-mul_left, div-eq_of_lt, add-mul-div_right}
use native.Mathlib.Omega.{arith}
use lib.Dec.{eqb}
use lib.Ieee.{Float}
use lib.ListN.{length, get_or, set}
use Rattle.std.proofs.lemmas.List.{get_or_default}
use Rattle.pointwise.specs.Points.{each}
use Rattle.row_black.specs.declared.Level.{Level}
use Rattle.row_black.specs.Black.{with_delta, levelled_by}
use Rattle.row_black.specs.Rows.{only, step_rule, Stepped}
use Rattle.row_black.proofs.Filling.{Strode, strode-start, strode-next, strode-end}

-- j is the next place, and c its image column
pub record Walk (from step pitch x : ℕ) (f : ℕ → Float) (old now : List Float) (j c : ℕ) : Type 0 where
  pub turn : ℕ
  pub strode : Strode from step f old now j turn
  pub column : c ≡ x + turn * pitch

module _ {from step pitch x : ℕ} {f : ℕ → Float} {old : List Float} (k : Stepped from step pitch x (length old)) where
  pub walk_start : Walk from step pitch x f old old from x
  walk_start = record { turn = 0; strode = strode-start k.first; column = omega arith }

  module _ {now : List Float} {j c : ℕ} (w : Walk from step pitch x f old now j c) where
    -- as many turns as steps
    turns : j / step ≡ w.turn
    turns =
        ap (λ (i : ℕ). i / step) w.strode.place
        ∙ add-mul-div_right from w.turn (omega (arith, k.first))
        ∙ ap (λ (i : ℕ). i + w.turn) (div-eq_of_lt k.first) ∙ omega arith

    -- the column is the rule's
    pub walk-column : c ≡ x + j / step * pitch
    walk-column = w.column ∙ ap (λ (i : ℕ). x + i * pitch) (sym turns)

    -- and far from wrapping
    pub walk-near : j < length old → c ≤ 274895732736
    walk-near h =
        let few : w.turn ≤ 524288 =
        omega (arith, w.strode.place, mul-le-mul_left w.turn (let s : 1 ≤ step = omega (arith, k.first) in s), mul-one w.turn, k.short) in
        omega (arith, w.column, mul-le-mul few k.narrow, k.column)

    pub walk-next : {v : Float} → j < length old → v ≡ f j → Walk from step pitch x f old (set now j v) (j + step) (c + pitch)
    walk-next h e =
        record {
          turn = w.turn + 1;
          strode = strode-next k.first w.strode h e;
          column = omega (arith, w.column, add-mul w.turn 1 pitch, one-mul pitch);
        }

    pub walk_end : length old ≤ j → now ≡ each (only (λ i. eqb (i % step) from) f) old
    walk_end h = strode-end k.first w.strode h

-- what a sample of the walk becomes: y is the sample, and u that as a float
pub walk-value : {A : Type 0} (none : A) (to_float : A → Float) (s : List A) (a : Level) (columns : List Float) (x pitch step j c : ℕ) {y : A} {v b u : Float}
    → c ≡ x + j / step * pitch → j < length s → v ≡ levelled_by b a.scale u → b ≡ with_delta columns c a.black
    → y ≡ get_or s j y → u ≡ to_float y → v ≡ step_rule none to_float s a columns x pitch step j
unfolding step_rule
walk-value none to_float s a columns x pitch step j c {y} e h q r i t =
    q
    ∙ ap₂ (λ (b u : Float). levelled_by b a.scale u) (r ∙ ap (λ (i : ℕ). with_delta columns i a.black) e)
    (t ∙ ap to_float (i ∙ get_or_default s j y none h))
