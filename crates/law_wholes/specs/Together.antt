-- Demand 3, the whole-number form, with the same scratch in both runs, however short: they answer alike and their
-- samples agree, on refusals too.
use Rattle.std.specs.Prelude.{ℕ, ◌≤◌, Bool, true, List, ◌≡◌, length}
use Rattle.dng.specs.declared.Window.{Window}
use Rattle.dng.specs.declared.Answer.{Answer}
use Rattle.dng.specs.declared.Answer.TheVariants as Ans
use Rattle.dng.specs.Run.{kept_in, Room, names_of, skipped, skipped16, takes16}
use Rattle.dng.specs.Answer.{f32_out, u16_out}
use Rattle.law_wholes.specs.WholeForm.{Below, widened, narrowed, at_one}

-- an answer with m names in place of its own
abbrev pub renamed : (m : ℕ) → Answer → Answer
renamed m (Ans.Done n r l) = Ans.Done m r l
renamed m Ans.Range = Ans.Range
renamed m (Ans.Malformed k why) = Ans.Malformed k why
renamed m Ans.NotTaken = Ans.NotTaken
renamed m Ans.Names = Ans.Names
renamed m (Ans.Marks k) = Ans.Marks k

-- both runs answer the same but for the number of names, refusals among the answers, and the samples agree on each
pub record Together (w : Window) (period : ℕ) (preview : Bool) (room : Room) (list s names names' : List ℕ)
    : Type 0 where
  pub answers : (f32_out w (at_one period preview) room list (widened s) names').answer
      ≡ renamed (length (names_of skipped (kept_in preview list))) (u16_out w period preview room list s names).answer
  pub samples : (u16_out w period preview room list s names).samples
      ≡ narrowed (f32_out w (at_one period preview) room list (widened s) names').samples

-- when they do: the list is one that the whole-number form takes, and both have room for their names
pub record TogetherIf (preview : Bool) (list s names names' : List ℕ) : Type 0 where
  pub bytes : Below 256 list
  pub words : Below 65536 s
  pub taken : takes16 (kept_in preview list) ≡ true
  pub roomy : length (names_of skipped16 (kept_in preview list)) ≤ length names
  pub roomy' : length (names_of skipped (kept_in preview list)) ≤ length names'

-- the theorem's statement; proofs/Theorem proves it
abbrev pub SameScratch : Type 0
SameScratch =
    (w : Window) (period : ℕ) (preview : Bool) (room : Room) (list s names names' : List ℕ)
    → TogetherIf preview list s names names' → Together w period preview room list s names names'
