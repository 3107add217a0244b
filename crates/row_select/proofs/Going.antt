-- A walk over a row, sample by sample: begun, one sample further, ended. `c` is the column of sample `i`. Assumes nothing.
use Prim.Native.Nat.{ℕ, ◌+◌, ◌-◌, ◌*◌, ◌≤◌, ◌<◌, min}
use mathlib.Core.List.{List}
use mathlib.Core.Path.{◌≡◌, refl}
use native.Mathlib.Omega.{arith}
use lib.ListN.{length, get_or, set}
use Rattle.pointwise.proofs.Walk.{Upto, upto-begin, upto-next-by, upto-end, upto_le}
use Rattle.row_select.specs.declared.Walk.{Walk}
use Rattle.row_select.specs.Walks.{walked, Walks}
use Rattle.row_select.proofs.Sizes.{at_least, step_small}

-- `row` is `l` with `g` at the walk's samples before sample i
abbrev pub Going : {A : Type 0} → Walk → (ℕ → ℕ → A → A) → List A → List A → ℕ → ℕ → Type 0
Going k g l row c i = Upto k.left k.right k.pitch k.plane k.x0 k.planes g l row c i

module _ {A : Type 0} {k : Walk} {n : ℕ} {g : ℕ → ℕ → A → A} {l : List A} (w : Walks k n) where
  pub begin : Going k g l l k.col (k.col * k.planes + k.plane)
  begin = upto-begin w.some w.first

  module _ {row : List A} {c i : ℕ} (u : Going k g l row c i) where
    -- the next column is a small number where the sample is
    pub near : c + k.pitch ≤ i + 34359738368
    near = omega (arith, upto_le w.some u, at_least w k.pitch, step_small w)

    pub next : {v : A} (d : A) → i < min (length l) ((k.right - k.x0) * k.planes) → v ≡ g (k.x0 + c) k.plane (get_or row i d)
        → Going k g l (set row i v) (c + k.pitch) (i + k.pitch * k.planes)
    next d below value = upto-next-by d _ _ (omega (arith, w.spaced)) refl w.inside u below value

    pub end : min (length l) ((k.right - k.x0) * k.planes) ≤ i → row ≡ walked k g l
    unfolding walked
    end past = upto-end w.inside u past
