-- Document 02, M-111: what a preview is, over the definitions. Forms, names and totals speak of the entries that are
-- left (`kept_in`, in every statement of Promises); here that the run itself is the run over those entries.
-- proofs/Preview proves each under its name in lower case.
use Rattle.std.specs.Prelude.{ℕ, suc, Bool, true, false, cond, List, [], ◌∷◌, ◌≡◌, refl, Float, Ok}
use Rattle.dng.specs.declared.Window.{Window}
use Rattle.dng.specs.declared.RowWindow.{RowWindow}
use Rattle.dng.specs.declared.Settings.{Settings}
use Rattle.dng.specs.declared.Opcode.TheVariants.{WarpFisheye}
use Rattle.dng.specs.declared.Answer.{Answer}
use Rattle.dng.specs.declared.Answer.TheVariants as Ans
use Rattle.num_words.specs.Words.{big}
use Rattle.dng.specs.List.{Item, reading_of, items_of, body_of, counted, read_from, step_at, next_at, parsed_at, constant_at}
use Rattle.dng.specs.Run.{drops, kept_of, kept_in, Kind, Room, Progress, going, marks_full, perform, perform_all}
use Rattle.dng.specs.Answer.{Out, f32_out, u16_out, row_out}
use Rattle.dng.specs.Frames.{words, constant, list_of}

-- the numbers in the whole list of the entries that are left, from k on
unfoldable pub kept_numbers : (preview : Bool) → ℕ → List Item → List ℕ
kept_numbers preview k [] = []
kept_numbers preview k (i ∷ is) =
    cond (drops preview i) (kept_numbers preview (suc k) is) (k ∷ kept_numbers preview (suc k) is)

module _ {A : Type 0} (kind : Kind A) (w : Window) (period : ℕ) (room : Room) where
  -- opcodes one after another, each under a number of its own
  unfoldable pub perform_by : List ℕ → (numbers : List ℕ) → List Item → Progress A → Progress A
  perform_by list ks [] g = g
  perform_by list [] (i ∷ is) g = g
  perform_by list (k ∷ ks) (i ∷ is) g = perform_by list ks is (perform kind w period room list i k g)

-- where a run stands, but for the number of the opcode that it stopped at
abbrev pub unnumbered : {A : Type 0} → Progress A → Progress A
unnumbered (going s r l) = going s r l
unnumbered (marks_full s k) = marks_full s 0

-- With yes, a run is the run over the list without the flagged entries, each of the others under its own number; so it
-- comes to what that list alone comes to, but for the number of the opcode that it stops at.
pub record Without : Type 1 where
  pub numbered : (A : Type 0) (kind : Kind A) (w : Window) (period : ℕ) (room : Room) (preview : Bool) (list : List ℕ)
      (is : List Item) (g : Progress A)
      → perform_all kind w period room preview list 0 is g
      ≡ perform_by kind w period room list (kept_numbers preview 0 is) (kept_of preview is) g
  pub alike : (A : Type 0) (kind : Kind A) (w : Window) (period : ℕ) (room : Room) (preview : Bool) (list : List ℕ)
      (is : List Item) (s : List A) (r l : ℕ)
      → unnumbered (perform_all kind w period room preview list 0 is (going s r l))
      ≡ unnumbered (perform_all kind w period room false list 0 (kept_of preview is) (going s r l))

-- With no, everything is as before: nothing is dropped, and every opcode is performed under its number.
pub record AsBefore : Type 1 where
  pub kept : (is : List Item) → kept_of false is ≡ is
  pub performed : (A : Type 0) (kind : Kind A) (w : Window) (period : ℕ) (room : Room) (list : List ℕ) (k : ℕ)
      (i : Item) (is : List Item) (g : Progress A)
      → perform_all kind w period room false list k (i ∷ is) g
      ≡ perform_all kind w period room false list (suc k) is (perform kind w period room list i k g)

-- ---- the list without the flagged entries, as bytes of its own

-- the opcodes and bodies of the one are those of the other, wherever they stand
abbrev pub Alike : List ℕ → List Item → List ℕ → List Item → Type 0
Alike list [] list' [] = Unit {0}
Alike list [] list' (j ∷ js) = ⊥
Alike list (i ∷ is) list' [] = ⊥
Alike list (i ∷ is) list' (j ∷ js) =
    (i.op ≡ j.op) × (body_of list i.entry ≡ body_of list' j.entry) × Alike list is list' js

-- list' is read whole, and has what is left of the list, which is read whole too
pub record CutOut (preview : Bool) (list list' : List ℕ) : Type 0 where
  pub opcodes : ℕ
  pub left : ℕ
  pub whole : reading_of list ≡ Ok opcodes
  pub whole' : reading_of list' ≡ Ok left
  pub alike : Alike list (kept_in preview list) list' (items_of list')

-- an answer but for the number of the opcode that the run stopped at
abbrev pub unplaced : Answer → Answer
unplaced (Ans.Done n r l) = Ans.Done n r l
unplaced Ans.Range = Ans.Range
unplaced (Ans.Malformed k why) = Ans.Malformed k why
unplaced Ans.NotTaken = Ans.NotTaken
unplaced Ans.Names = Ans.Names
unplaced (Ans.Marks k) = Ans.Marks 0

abbrev pub unplaced_out : {A : Type 0} → Out A → Out A
unplaced_out o = record { answer = unplaced o.answer; samples = o.samples; names = o.names }

-- A preview of a list is the run over the list without the flagged entries: the answer but for the number of the opcode
-- that it stopped at, the samples and the names. A row has no such number.
pub record Previews : Type 0 where
  pub f32 : (w : Window) (set : Settings) (room : Room) (list list' : List ℕ) (s : List Float) (names : List ℕ)
      → CutOut set.preview list list'
      → unplaced_out (f32_out w set room list s names)
      ≡ unplaced_out (f32_out w (record { period = set.period; scale = set.scale; preview = false }) room list' s names)
  pub u16 : (w : Window) (period : ℕ) (preview : Bool) (room : Room) (list list' s names : List ℕ)
      → CutOut preview list list'
      → unplaced_out (u16_out w period preview room list s names)
      ≡ unplaced_out (u16_out w period false room list' s names)
  pub row : (w : RowWindow) (scale : Float) (preview : Bool) (y : ℕ) (list list' : List ℕ) (row : List Float)
      → CutOut preview list list' → row_out w scale preview y list row ≡ row_out w scale false y list' row

-- worked values: of entries with flags 0, 2, 1 and 3 a preview leaves the first and the third, under numbers 0 and 2
abbrev with : ℕ → Item
with f = record { entry = record { id = 2; version = 0; flags = f; at = 0; len = 0 }; op = WarpFisheye }

abbrev four : List Item
four = with 0 ∷ with 2 ∷ with 1 ∷ with 3 ∷ []

record Worked : Type 0 where
  kept : kept_of true four ≡ with 0 ∷ with 1 ∷ []
  numbers : kept_numbers true 0 four ≡ 0 ∷ 2 ∷ []
  all : kept_numbers false 0 four ≡ 0 ∷ 1 ∷ 2 ∷ 3 ∷ []

worked : Worked
unfolding kept_of kept_numbers
worked = record { kept = refl; numbers = refl; all = refl }

-- a repair after a flagged entry, and the repair alone
pub cut : CutOut true (list_of (words (2 ∷ 16973824 ∷ 2 ∷ 0 ∷ []) ∷ constant 7 ∷ [])) (list_of (constant 7 ∷ []))
unfolding big kept_of reading_of items_of counted read_from step_at next_at parsed_at constant_at
cut = record { opcodes = 2; left = 1; whole = refl; whole' = refl; alike = (refl, refl, tt) }
