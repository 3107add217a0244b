-- What a caller gets is determined by the promise, refusals among it: two results that keep it are the same. Assumes nothing.
use Prim.Native.Nat.{ℕ}
use mathlib.Core.Path.{◌≡◌, sym, ◌∙◌}
use mathlib.Core.List.{List}
use lib.Ieee.{Float}
use Rattle.dng.specs.declared.Numbers.{Numbers}
use Rattle.dng.specs.Run.{Room}
use Rattle.dng.specs.Answer.{Out, RowOut}
use Rattle.rolbhunga.specs.declared.RowNumbers.{RowNumbers}
use Rattle.rolbhunga.specs.Calls.{RowTold, RowBytes, Told, Bytes}

pub row_typed : (o : RowOut) (r r' : RowNumbers) (row row' : List Float) → RowTold o r row → RowTold o r' row' → (r ≡ r') × (row ≡ row')
row_typed o r r' row row' a b = (a.answered ∙ sym b.answered, a.left ∙ sym b.left)

pub row-in-bytes : (o : RowOut) (old : List ℕ) (work : ℕ) (r r' : RowNumbers) (bytes bytes' : List ℕ) (room room' : List Float)
    → RowBytes o old work r bytes room → RowBytes o old work r' bytes' room' → (r ≡ r') × ((bytes ≡ bytes') × (room ≡ room'))
row-in-bytes o old work r r' bytes bytes' room room' a b =
    (a.answered ∙ sym b.answered, (a.left ∙ sym b.left, a.clear ∙ sym b.clear))

module _ {A : Type 0} where
  pub typed : (o : Out A) (room : Room) (r r' : Numbers) (s s' : List A) (names names' marks marks' : List ℕ)
      → Told o room r s names marks → Told o room r' s' names' marks' → (r ≡ r') × ((s ≡ s') × ((names ≡ names') × (marks ≡ marks')))
  typed o room r r' s s' names names' marks marks' a b = (
    a.answered ∙ sym b.answered,
    (a.ran.left ∙ sym b.ran.left, (a.ran.named ∙ sym b.ran.named, a.ran.marks_clear ∙ sym b.ran.marks_clear)),
  )

  pub in_bytes : (size : ℕ) (bits : A → ℕ) (none zero : A) (o : Out A) (room : Room) (old oldNames : List ℕ) (work : ℕ) (r r' : Numbers)
      (bytes bytes' names names' marks marks' : List ℕ) (rest rest' : List A)
      → Bytes size bits none zero o room old oldNames work r bytes names marks rest
      → Bytes size bits none zero o room old oldNames work r' bytes' names' marks' rest'
      → (r ≡ r') × ((bytes ≡ bytes') × ((names ≡ names') × ((marks ≡ marks') × (rest ≡ rest'))))
  in_bytes size bits none zero o room old oldNames work r r' bytes bytes' names names' marks marks' rest rest' a b = (
    a.answered ∙ sym b.answered,
    (
      a.left ∙ sym b.left,
      (a.named ∙ sym b.named, (a.marks_clear ∙ sym b.marks_clear, a.work_clear ∙ sym b.work_clear)),
    ),
  )
