-- What the contracts of the crate cite: the parts of a list, the names piece by piece, and the note in a buffer.
use Rattle.std.specs.Prelude.{ℕ, ◌≤◌, ◌≡◌, Bool, cond, List, [], ◌++◌, eqb, length, get_or, take}
use Rattle.num_text.specs.Text.{text}
use Rattle.num_text.specs.Appended.{Appended}
use Rattle.dng.specs.declared.Class.{Class}
use Rattle.dng.specs.Run.{skipped}
use Rattle.say_note.specs.declared.Part.{Part}
use Rattle.say_note.specs.declared.Part.TheVariants.{Pixel, Skipped, Every}
use Rattle.say_note.specs.Note.{pixel, every, occurs, item, note_of}

abbrev pub part_of : Part → Class → Bool
part_of Pixel = pixel
part_of Skipped = skipped
part_of Every = every

-- What stands for the k-th name: nothing where it occurs before, so that each name stands where it appears first.
unfoldable pub piece_at : List ℕ → ℕ → List ℕ
piece_at ns k =
    let n = get_or ns k 0 in
    cond (eqb (occurs n (take k ns)) 0) (cond (eqb k 0) (item ns n) (text ", " ++ item ns n)) []

-- The note of the list s stands at the start of the buffer, which was b and is o, and ends at r; what is behind it is
-- unchanged.
-- The last two say that the text lies in the buffer, as one asks who takes that part of it.
pub record Noted (s b : List ℕ) (r : ℕ) (o : List ℕ) : Type 0 where
  pub note : Appended b 0 (note_of s) r o
  pub fits : r ≤ length o
  pub part : r ≡ length (take r o)
