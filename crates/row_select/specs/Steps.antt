-- A run over places that lie a step apart, as a kernel's loop goes: the selected samples of one plane of a row lie so
-- (proofs/Steps).
use Rattle.std.specs.Prelude.{ℕ, ◌-◌, ◌/◌, max, cond}
use Rattle.pointwise.specs.Select.{selects}

-- `f m` at the m-th of the places a, a + s, a + 2·s .. before e, nothing elsewhere
unfoldable pub stepped : {A : Type 0} → (a e s : ℕ) → (ℕ → A → A) → ℕ → A → A
stepped a e s f i v = cond (selects a e s i) (f ((i - a) / max s 1) v) v
