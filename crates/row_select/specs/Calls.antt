-- What a walk asks of a call of the function that it is given, and what it knows of one. A call's arguments are the
-- number of the sample's column, counted from left, and the sample.
use Rattle.std.specs.Prelude.{ℕ, ◌<◌, ◌≡◌}

-- it may be called at every number that a column can have, which is below 2^34
abbrev pub Takes : {A : Type 0} → (pre : ℕ → A → Type 0) → Type 0
Takes {A} pre = (j : ℕ) (v : A) → j < 17179869184 → pre j v

-- and gives what h gives
abbrev pub Gives : {A : Type 0} → (post : ℕ → A → A → Type 0) → (h : ℕ → A → A) → Type 0
Gives {A} post h = (j : ℕ) (v r : A) → j < 17179869184 → post j v r → r ≡ h j v
