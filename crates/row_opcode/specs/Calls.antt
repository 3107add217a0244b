-- What is asked and known of a call that is lent a row with the walk of one plane. The walk is over columns of the
-- region r, and may be walked.
use Rattle.std.specs.Prelude.{ℕ, List, length, ◌≡◌}
use Rattle.std.specs.Borrow.{MutBor}
use Rattle.row_select.specs.declared.Walk.{Walk}
use Rattle.row_select.specs.Walks.{walked, Walks}
use Rattle.dng.specs.declared.Region.{Region}
use Rattle.row_opcode.specs.Planes.{Along}

-- it may be made
abbrev pub Takes : {A : Type 0} → Region → (pre : MutBor (List A) → Walk → Type 0) → Type 0
Takes {A} r pre = (s : MutBor (List A)) (k : Walk) → Walks k (length s.now) → Along r k → pre s k

-- and does h to each sample of the walk
abbrev pub Does : {A : Type 0} → Region → (post : MutBor (List A) → Walk → Unit {0} → MutBor (List A) → Type 0)
    → (h : ℕ → ℕ → A → A) → Type 0
Does {A} r post h = (s t : MutBor (List A)) (k : Walk) → Walks k (length s.now) → Along r k → post s k tt t
    → t.now ≡ walked k h s.now
