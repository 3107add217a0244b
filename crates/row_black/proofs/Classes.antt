-- The samples that share an entry of the pattern: they lie a period apart, and a period is a row of the pattern with all its planes.
-- Assumes nothing.
use Prim.Native.Nat.{ℕ, ◌+◌, ◌*◌, ◌/◌, ◌%◌, ◌≤◌, ◌<◌, min}
use mathlib.Core.List.{List}
use mathlib.Core.Path.{◌≡◌, refl, sym, ap, ap₂, ◌∙◌}
use native.Mathlib.Nat.{zero-mul, one-mul, mul-one, mul_comm, mul-le-mul, mul-le-mul_right, mod-lt, div-le_self, mul_assoc, mul-le-mul_left, mod-eq_of_lt, div-eq_of_lt, div-add-mod', mul-add-div_right, mul-add-mod_self_right, add-mul-mod_self_right}
use native.Mathlib.Omega.{arith}
use lib.Ieee.{Float}
use Rattle.pointwise.proofs.Each.{below_or}
use Rattle.row_black.specs.declared.Level.{Level}
use Rattle.row_black.specs.declared.Pattern.{Pattern}
use Rattle.row_black.specs.declared.Spot.{Spot}
use Rattle.row_black.specs.Black.{levels, black_at, levelled}
use Rattle.row_black.specs.Rows.{level_in, spot_at, step_rule, row_rule, Placed, Stepped}

-- where sample j stands, seen from sample i of the first period
pub record Alike (planes width pitch x0 step i j : ℕ) : Type 0 where
  pub column : x0 + j / planes ≡ x0 + i / planes + j / step * pitch
  pub entry : (x0 + j / planes) % width ≡ (x0 + i / planes) % width
  pub plane : j % planes ≡ i % planes

module _ {planes : ℕ} (some : 1 ≤ planes) where
  -- a row longer than a period
  long : (width x0 i j : ℕ) → j % (width * planes) ≡ i → Alike planes width width x0 (width * planes) i j
  long width x0 i j e =
      record {
        column = omega (arith, across);
        entry = ap (λ (k : ℕ). k % width) (let r : x0 + j / planes ≡ x0 + i / planes + q * width = omega (arith, across) in r)
            ∙ add-mul-mod_self_right (x0 + i / planes) q width;
        plane = ap (λ (k : ℕ). k % planes) split ∙ mul-add-mod_self_right (q * width) planes i;
      }
    where
      q : ℕ
      q = j / (width * planes)

      split : j ≡ q * width * planes + i
      split = sym (div-add-mod' j (width * planes)) ∙ ap₂ ◌+◌ (sym (mul_assoc q width planes)) e

      across : j / planes ≡ q * width + i / planes
      across = ap (λ (k : ℕ). k / planes) split ∙ mul-add-div_right some (q * width) i

  -- a row that a period is longer than: sample j is its own
  short : (width x0 n pitch i j : ℕ) → j < n → j % n ≡ i → Alike planes width pitch x0 n i j
  short width x0 n pitch i j h e =
      let same : j ≡ i = sym (mod-eq_of_lt h) ∙ e in
      let none : j / n * pitch ≡ 0 = ap (λ (k : ℕ). k * pitch) (div-eq_of_lt h) ∙ zero-mul pitch in
      record {
        column = ap (λ (k : ℕ). x0 + k / planes) same ∙ omega (arith, none);
        entry = ap (λ (k : ℕ). (x0 + k / planes) % width) same;
        plane = ap (λ (k : ℕ). k % planes) same;
      }

  pub alike : (width x0 n : ℕ) {step pitch : ℕ} → step ≡ min (width * planes) n → pitch ≡ min width n → (i j : ℕ) → j < n → j % step ≡ i
      → Alike planes width pitch x0 step i j
  alike width x0 n {step} {pitch} s p i j h e =
      below_or n (width * planes)
      (λ q.
      let t : step ≡ n = omega (arith, s) in
      rw t (short width x0 n pitch i j h (rw t at e)))
      (λ q.
      let t : step ≡ width * planes = omega (arith, s) in
      let u : pitch ≡ width = omega (arith, p, mul-le-mul_left width some, mul-one width) in
      rw (t, u) (long width x0 i j (rw t at e)))

-- the rule of a walk is the row's
class-rule : {A : Type 0} (none : A) (to_float : A → Float) (s : List A) (p : Pattern) (blacks scales rows columns : List Float)
    (planes x0 y pitch step i j : ℕ) → Alike planes p.width pitch x0 step i j
    → step_rule none to_float s (level_in p blacks scales rows y ((x0 + i / planes) % p.width) (i % planes)) columns (x0 + i / planes) pitch step j
    ≡ row_rule none to_float s (levels p blacks scales rows columns) planes x0 y j
unfolding step_rule row_rule levelled black_at
class-rule none to_float s p blacks scales rows columns planes x0 y pitch step i j a =
    rw (← a.column, ← a.entry, ← a.plane) refl

pub spot-rule : {A : Type 0} (none : A) (to_float : A → Float) (s : List A) (p : Pattern) (blacks scales rows columns : List Float)
    (planes x0 y pitch step i j : ℕ) (a : Level) (t : Spot) → a ≡ level_in p blacks scales rows y t.entry t.plane
    → t ≡ spot_at planes p.width x0 i → Alike planes p.width pitch x0 step i j
    → step_rule none to_float s a columns t.column pitch step j ≡ row_rule none to_float s (levels p blacks scales rows columns) planes x0 y j
spot-rule none to_float s p blacks scales rows columns planes x0 y pitch step i j a t e f alike =
    rw (e, f) (class-rule none to_float s p blacks scales rows columns planes x0 y pitch step i j alike)

-- ---- what a row hands on

module _ {p : Pattern} {planes x0 y l c b s : ℕ} (k : Placed p planes x0 y l c b s) where
  -- a period is not longer than a table
  pub period-fits : p.width * planes ≤ b
  period-fits =
      let tall : 1 * p.width * planes ≤ p.height * p.width * planes = mul-le-mul_right planes (mul-le-mul_right p.width k.tall) in
      omega (
        arith,
        k.black,
        tall,
        ap (λ (m : ℕ). m * planes) (one-mul p.width),
        mul_assoc planes p.height p.width,
        mul_comm planes (p.height * p.width),
      )

  -- a row that has a sample is walked over
  pub step-some : {n step j : ℕ} → step ≡ min (p.width * planes) n → j < n → 1 ≤ step
  step-some e h = omega (arith, e, mul-le-mul k.wide k.some)

  module _ {t : Spot} (i : ℕ) (here : t ≡ spot_at planes p.width x0 i) where
    pub spot-plane : t.plane < planes
    spot-plane = omega (arith, ap (λ (q : Spot). q.plane) here, mod-lt i k.some)

    pub spot-entry : t.entry < p.width
    spot-entry = omega (arith, ap (λ (q : Spot). q.entry) here, mod-lt (x0 + i / planes) k.wide)

    column : i ≤ 524288 → t.column ≤ 17301504
    column h = omega (arith, ap (λ (q : Spot). q.column) here, div-le_self i planes, k.column)

    pub spot-next : i ≤ 524288 → (t.plane < planes) × (t.entry < p.width) × (t.column < 4294967296)
    spot-next h = (spot-plane, spot-entry, omega (arith, column h))

    pub spot-strides : {n step pitch : ℕ} → n ≤ 524288 → step ≡ min (p.width * planes) n → pitch ≡ min p.width n → i < step
        → Stepped i step pitch t.column n
    spot-strides short e f h =
        record {
          first = h;
          near = omega (arith, e);
          narrow = omega (arith, f);
          column = omega (arith, column (omega (arith, e)));
          short = short;
        }
