-- What a caller may conclude from the contracts of the public calls alone: `Ran` of a run, `RowRan` of a row call, the
-- equation of reading.
-- Document 01, 'What comes back' and 'How a promise is judged'. Over any sample kind; proofs/Theorems proves each
-- statement under its name in lower case, `RowCallsHold` as `row-calls`:
--     1 Determined   2 ExactlyWhen, RowExactlyWhen   3 Keeps, RowKeeps, Numbered, Locates, ByReason
--     4 AddsUp, Scratch   5 RowCallsHold, WholeCalls, WholeCallsAlike
-- What a preview is: specs/Preview. The verdict: run_verdict/specs/Verdict.
use Rattle.std.specs.Prelude.{ℕ, suc, ◌+◌, ◌≤◌, ◌<◌, Bool, true, false, cond, List, [], ◌∷◌, ◌↔◌, ◌⊎◌, ◌≡◌, Float, length, take, drop, replicate, Ok, Err}
use Rattle.dng.specs.declared.Window.{Window}
use Rattle.dng.specs.declared.RowWindow.{RowWindow}
use Rattle.dng.specs.declared.Settings.{Settings}
use Rattle.dng.specs.declared.Reason.{Reason}
use Rattle.dng.specs.declared.Refusal.{Refusal}
use Rattle.dng.specs.declared.Answer.{Answer}
use Rattle.dng.specs.declared.Answer.TheVariants as Ans
use Rattle.dng.specs.declared.RowAnswer.{RowAnswer}
use Rattle.dng.specs.declared.RowAnswer.TheVariants as Row
use Rattle.dng.specs.List.{Item, reason_number, refusal, malformed, Reading, reading_of, items_of, body_of}
use Rattle.dng.specs.Repair.{marks_of, marked_in, repaired_in, left_in}
use Rattle.dng.specs.declared.Class.{Class}
use Rattle.dng.specs.declared.Class.TheVariants.{Table, Empty, Local, Repair, Unapplied}
use Rattle.dng.specs.Run.{drops, kept_in, class_of, Kind, f32_kind, u16_kind, skipped, skipped16, takes16, takes_rows, names_of, Progress, going, marks_full, Room, perform, perform_all}
use Rattle.dng.specs.Answer.{in_range, row_in_range, numbers_of, row_numbers_of, reading_numbers_of, Out, run_out, takes_all, frame_of, f32_out, u16_out, Ran, RowOut, row_out}
use Rattle.run_row.specs.Rows.{RowRan}
use Rattle.law_rows.specs.RowForm.{row_part, row_put, row_window_of, RowFormIf}
use Rattle.law_wholes.specs.WholeForm.{widened, narrowed, without_tables, at_one, WholeFormIf}
use Rattle.law_wholes.specs.Together.{renamed, TogetherIf}

-- ---- a run: what it is lent, and what it leaves

-- the form asked for (sample kind, lists taken, opcodes skipped), and everything that the run reads
pub record Call (A : Type 0) : Type 1 where
  pub kind : Kind A
  pub takes : List Item → Bool
  pub skip : Class → Bool
  pub window : Window
  pub period : ℕ
  pub preview : Bool
  pub room : Room
  pub list : List ℕ
  pub samples : List A
  pub names : List ℕ

abbrev pub f32_call : Window → Settings → Room → List ℕ → List Float → List ℕ → Call Float
f32_call w set room list s names =
    record {
      kind = f32_kind (frame_of w set.scale);
      takes = takes_all;
      skip = skipped;
      window = w;
      period = set.period;
      preview = set.preview;
      room = room;
      list = list;
      samples = s;
      names = names;
    }

abbrev pub u16_call : Window → (period : ℕ) → (preview : Bool) → Room → List ℕ → List ℕ → List ℕ → Call ℕ
u16_call w period preview room list s names =
    record {
      kind = u16_kind;
      takes = takes16;
      skip = skipped16;
      window = w;
      period = period;
      preview = preview;
      room = room;
      list = list;
      samples = s;
      names = names;
    }

-- the answer, and what every lent buffer holds afterwards
pub record End (A : Type 0) : Type 0 where
  pub answer : Answer
  pub samples : List A
  pub names : List ℕ
  pub marks : List ℕ

module _ {A : Type 0} where
  abbrev pub out_of : Call A → Out A
  out_of c =
      run_out c.kind c.takes c.skip c.window c.period c.preview c.room c.list c.samples
      c.names

  -- the contract of a run
  abbrev pub Meets : Out A → Room → End A → Type 0
  Meets o room e = Ran o room e.answer e.samples e.names e.marks

-- the two public runs are such calls
pub record Forms : Type 0 where
  pub f32 : (w : Window) (set : Settings) (room : Room) (list : List ℕ) (s : List Float) (names : List ℕ)
      → out_of (f32_call w set room list s names) ≡ f32_out w set room list s names
  pub u16 : (w : Window) (period : ℕ) (preview : Bool) (room : Room) (list s names : List ℕ)
      → out_of (u16_call w period preview room list s names) ≡ u16_out w period preview room list s names

-- ---- 1. determined: for every input, refusals among them, two results that meet one contract are equal

pub record Same {A : Type 0} (e e' : End A) : Type 0 where
  pub answers : e.answer ≡ e'.answer
  pub samples : e.samples ≡ e'.samples
  pub names : e.names ≡ e'.names
  pub marks : e.marks ≡ e'.marks

pub record Determined : Type 1 where
  pub run : (A : Type 0) (o : Out A) (room : Room) (e e' : End A) → Meets o room e → Meets o room e' → Same e e'
  pub row : (o : RowOut) (r r' : RowAnswer) (t t' : List Float) → RowRan o r t → RowRan o r' t' → (r ≡ r') × (t ≡ t')
  pub reading : (list : List ℕ) (r r' : Reading) → r ≡ reading_of list → r' ≡ reading_of list → r ≡ r'

-- ---- 2. exactly when: the table of 'What comes back', in its order

abbrev pub Whole : List ℕ → Type 0
Whole list = (n : ℕ) × (reading_of list ≡ Ok n)

module _ {A : Type 0} (c : Call A) where
  -- what is left of the list: all of it, but for what a preview leaves out
  abbrev pub kept : List Item
  kept = kept_in c.preview c.list

  -- as many names as are to be written
  abbrev pub skips : ℕ
  skips = length (names_of c.skip kept)

  -- the run over the opcodes `is`, numbered from 0, from the lent samples
  abbrev pub performed : List Item → Progress A
  performed is =
      perform_all c.kind c.window c.period c.room c.preview c.list 0 is (going c.samples 0 0)

  -- none of 1, 20 to 25, 3 and 4
  pub record Goes : Type 0 where
    pub ranges : in_range c.window c.period ≡ true
    pub whole : Whole c.list
    pub taken : c.takes kept ≡ true
    pub named : skips ≤ length c.names

  abbrev pub When : Answer → Type 0
  When (Ans.Done n r l) = Goes × (n ≡ skips) × ((t : List A) × (performed (items_of c.list) ≡ going t r l))
  When Ans.Range = in_range c.window c.period ≡ false
  When (Ans.Malformed k why) = (in_range c.window c.period ≡ true) × (reading_of c.list ≡ Err (malformed k why))
  When Ans.NotTaken = (in_range c.window c.period ≡ true) × Whole c.list
      × (c.takes kept ≡ false)
  When Ans.Names =
      (in_range c.window c.period ≡ true) × Whole c.list × (c.takes kept ≡ true)
      × (length c.names < skips)
  When (Ans.Marks k) = Goes × ((t : List A) × (performed (items_of c.list) ≡ marks_full t k))

  -- the marks of an item, on the samples t
  abbrev pub marks_on : Item → List A → ℕ → Bool
  marks_on i t = marks_of c.kind.none c.window c.kind.is_bad i.op (body_of c.list i.entry) t

  -- opcode k is a repair that is not left out, and is reached: those before it have all run, and left the samples t
  pub record Reached (k : ℕ) (t : List A) : Type 0 where
    pub repaired : ℕ
    pub left : ℕ
    pub ran : performed (take k (items_of c.list)) ≡ going t repaired left
    pub item : Item
    pub rest : List Item
    pub stands : drop k (items_of c.list) ≡ item ∷ rest
    pub repairs : class_of item.op ≡ Repair
    pub shown : drops c.preview item ≡ false

  -- 5: it marks more distinct positions than the u32 scratch has entries
  pub record MarksOver (k : ℕ) (t : List A) : Type 0 where
    pub reached : Reached k t
    pub over : c.room.marks < marked_in c.window (marks_on reached.item t)

-- a run: by the table; 5 also by the repair that is named; and the samples, on 0 the result, on 5 those that the
-- opcodes before that repair left, so that nothing of it is written
pub record Exactly {A : Type 0} (c : Call A) (e : End A) : Type 0 where
  pub answers : (a : Answer) → (e.answer ≡ a) ↔ When c a
  pub marks : (k : ℕ) → (e.answer ≡ Ans.Marks k) ↔ (Goes c × ((t : List A) × MarksOver c k t))
  pub result : (n r l : ℕ) → e.answer ≡ Ans.Done n r l → performed c (items_of c.list) ≡ going e.samples r l
  pub marks_stop : (k : ℕ) → e.answer ≡ Ans.Marks k → MarksOver c k e.samples

abbrev pub ExactlyWhen : Type 1
ExactlyWhen = (A : Type 0) (c : Call A) (e : End A) → Meets (out_of c) c.room e → Exactly c e

-- a row of n samples: 0, 1, 20 to 25 or 3
abbrev pub RowWhen : RowWindow → (preview : Bool) → (y n : ℕ) → List ℕ → RowAnswer → Type 0
RowWhen w preview y n list (Row.Done m) =
    (row_in_range w y n ≡ true) × Whole list × (takes_rows (kept_in preview list) ≡ true)
    × (m ≡ length (names_of skipped (kept_in preview list)))
RowWhen w preview y n list Row.Range = row_in_range w y n ≡ false
RowWhen w preview y n list (Row.Malformed k why) = (row_in_range w y n ≡ true) × (reading_of list ≡ Err (malformed k why))
RowWhen w preview y n list Row.NotTaken =
    (row_in_range w y n ≡ true) × Whole list × (takes_rows (kept_in preview list) ≡ false)

abbrev pub RowExactlyWhen : Type 0
RowExactlyWhen =
    (w : RowWindow) (scale : Float) (preview : Bool) (y : ℕ) (list : List ℕ) (row : List Float) (r : RowAnswer)
    (t : List Float)
    → RowRan (row_out w scale preview y list row) r t → (a : RowAnswer)
    → (r ≡ a) ↔ RowWhen w preview y (length row) list a

-- ---- 3. kept: what is unchanged, and what is 0, by the answer's number

pub record Kept {A : Type 0} (c : Call A) (e : End A) : Type 0 where
  -- any refusal but 5: 1, 20 to 25, 3 and 4
  pub samples : 1 ≤ (numbers_of e.answer).number → ((numbers_of e.answer).number ≡ 5 → ⊥) → e.samples ≡ c.samples
  -- any refusal
  pub names : 1 ≤ (numbers_of e.answer).number → e.names ≡ c.names
  -- 0: one byte for each skipped opcode in front, and what stood after them
  pub written : (n r l : ℕ) → e.answer ≡ Ans.Done n r l → take n e.names ≡ names_of c.skip (kept c)
  pub after : (n r l : ℕ) → e.answer ≡ Ans.Done n r l → drop n e.names ≡ drop n c.names
  -- every return
  pub marks : e.marks ≡ replicate c.room.marks 0

abbrev pub Keeps : Type 1
Keeps = (A : Type 0) (c : Call A) (e : End A) → Meets (out_of c) c.room e → Kept c e

abbrev pub RowKeeps : Type 0
RowKeeps =
    (w : RowWindow) (scale : Float) (preview : Bool) (y : ℕ) (list : List ℕ) (row : List Float) (r : RowAnswer)
    (t : List Float)
    → RowRan (row_out w scale preview y list row) r t → ((n : ℕ) → r ≡ Row.Done n → ⊥) → t ≡ row

-- the papers' numbers of every answer: names and totals 0 on a refusal, the entry's number and the offset 0 but in 20
-- to 25, the opcode's 0 but in 5
pub record Numbered : Type 0 where
  pub refused : (a : Answer) → 1 ≤ (numbers_of a).number → ((numbers_of a).names ≡ 0) × ((numbers_of a).repaired ≡ 0)
      × ((numbers_of a).left ≡ 0)
  pub entry : (a : Answer) → (numbers_of a).number < 20 → ((numbers_of a).entry ≡ 0) × ((numbers_of a).offset ≡ 0)
  pub opcode : (a : Answer) → ((numbers_of a).number ≡ 5 → ⊥) → (numbers_of a).opcode ≡ 0
  -- M-104: no answer has the number 6; M-100: none has 2
  pub withdrawn : (a : Answer) → (numbers_of a).number ≡ 6 → ⊥
  pub divided : (a : Answer) → (numbers_of a).number ≡ 2 → ⊥
  -- a row gives 0, 1, 3 or 20 to 25
  pub row : (a : RowAnswer) → ((row_numbers_of a).number ≤ 3)
      ⊎ ((20 ≤ (row_numbers_of a).number) × ((row_numbers_of a).number ≤ 25))
  pub row_divided : (a : RowAnswer) → (row_numbers_of a).number ≡ 2 → ⊥
  pub row_entry : (a : RowAnswer) → (row_numbers_of a).number < 20
      → ((row_numbers_of a).entry ≡ 0) × ((row_numbers_of a).offset ≡ 0)
  pub row_rest : (a : RowAnswer) → ((row_numbers_of a).opcode ≡ 0) × ((row_numbers_of a).names ≡ 0)
      × ((row_numbers_of a).repaired ≡ 0) × ((row_numbers_of a).left ≡ 0)
  -- reading alone gives 0 or 20 to 25
  pub reading : (a : Reading) → (reading_numbers_of a).number < 20
      → ((reading_numbers_of a).number ≡ 0) × ((reading_numbers_of a).entry ≡ 0) × ((reading_numbers_of a).offset ≡ 0)
  pub reading_most : (a : Reading) → (reading_numbers_of a).number ≤ 25
  pub reading_rest : (a : Reading) → ((reading_numbers_of a).opcode ≡ 0) × ((reading_numbers_of a).names ≡ 0)
      × ((reading_numbers_of a).repaired ≡ 0) × ((reading_numbers_of a).left ≡ 0)

-- a malformed list (document 02, M-100): the entries before it are those read whole, and the byte lies in the list or
-- is its end
pub record Located (list : List ℕ) (k : ℕ) (why : Refusal) : Type 0 where
  pub entries : k ≡ length (items_of list)
  pub offset : why.at ≤ length list

abbrev pub Locates : Type 0
Locates = (list : List ℕ) (k : ℕ) (why : Refusal) → reading_of list ≡ Err (malformed k why) → Located list k why

-- the list is refused for the reason q, after k entries, at a byte
abbrev pub RefusedFor : List ℕ → Reason → Type 0
RefusedFor list q = (k : ℕ) × ((at : ℕ) × (reading_of list ≡ Err (malformed k (refusal q at))))

-- each of 20 to 25 exactly when: of a run, of a row, of reading alone
pub record ByReason : Type 1 where
  pub run : (A : Type 0) (c : Call A) (e : End A) → Meets (out_of c) c.room e → (q : Reason)
      → ((numbers_of e.answer).number ≡ reason_number q)
      ↔ ((in_range c.window c.period ≡ true) × RefusedFor c.list q)
  pub row : (w : RowWindow) (scale : Float) (preview : Bool) (y : ℕ) (list : List ℕ) (row : List Float) (r : RowAnswer)
      (t : List Float)
      → RowRan (row_out w scale preview y list row) r t → (q : Reason)
      → ((row_numbers_of r).number ≡ reason_number q) ↔ ((row_in_range w y (length row) ≡ true) × RefusedFor list q)
  pub reading : (list : List ℕ) (q : Reason)
      → ((reading_numbers_of (reading_of list)).number ≡ reason_number q) ↔ RefusedFor list q

-- ---- 4. totals: over a run that answers 0 they are sums over its repairs, and add up to the distinct marked positions
-- of all of them

module _ {A : Type 0} (c : Call A) (count : (ℕ → Bool) → ℕ) where
  abbrev pub count_on : Class → Item → List A → ℕ
  count_on Table i t = 0
  count_on Empty i t = 0
  count_on Local i t = 0
  count_on Repair i t = count (marks_on c i t)
  count_on Unapplied i t = 0

  -- one that is dropped counts for nothing
  abbrev pub count_at : Item → Progress A → ℕ
  count_at i (going t r l) = cond (drops c.preview i) 0 (count_on (class_of i.op) i t)
  count_at i (marks_full t k) = 0

  -- the count of each repair's marks, on the samples as they are by then, summed along the run from opcode k on
  unfoldable pub sum_from : ℕ → List Item → Progress A → ℕ
  sum_from k [] g = 0
  sum_from k (i ∷ is) g = count_at i g + sum_from (suc k) is
      (cond (drops c.preview i) g (perform c.kind c.window c.period c.room c.list i k g))

  abbrev pub sum_over : ℕ
  sum_over = sum_from 0 (items_of c.list) (going c.samples 0 0)

pub record Totals {A : Type 0} (c : Call A) (r l : ℕ) : Type 0 where
  pub repaired : r ≡ sum_over c (repaired_in c.window c.period)
  pub left : l ≡ sum_over c (left_in c.window c.period)
  pub marked : r + l ≡ sum_over c (marked_in c.window)

abbrev pub AddsUp : Type 1
AddsUp =
    (A : Type 0) (c : Call A) (e : End A) → Meets (out_of c) c.room e → (n r l : ℕ) → e.answer ≡ Ans.Done n r l
    → Totals c r l

-- the call with other scratch
abbrev pub with_room : {A : Type 0} → Call A → Room → Call A
with_room c room =
    record {
      kind = c.kind;
      takes = c.takes;
      skip = c.skip;
      window = c.window;
      period = c.period;
      preview = c.preview;
      room = room;
      list = c.list;
      samples = c.samples;
      names = c.names;
    }

-- So the totals say how much scratch is enough: a run that answers 0 answers the same, and leaves the same, with any
-- scratch that holds as many marks as were repaired and left.
abbrev pub Scratch : Type 1
Scratch =
    (A : Type 0) (c : Call A) (e : End A) → Meets (out_of c) c.room e → (n r l : ℕ) → e.answer ≡ Ans.Done n r l
    → (room : Room) → r + l ≤ room.marks → out_of (with_room c room) ≡ out_of c

-- ---- 5. demand 3, of the calls

-- row calls on the rows ys of a window, one after another through one list of samples: what each answered, and the
-- samples before and after.
-- Of each call no more is known than its contract.
pub data RowCalls (w : Window) (scale : Float) (preview : Bool) (list : List ℕ)
    : List ℕ → List RowAnswer → List Float → List Float → Type 0 where
  done : {s : List Float} → RowCalls w scale preview list [] [] s s
  call : {y : ℕ} {ys : List ℕ} {r : RowAnswer} {rs : List RowAnswer} {s row t : List Float}
      → RowRan (row_out (row_window_of w) scale preview (w.y0 + y) list (row_part w y s)) r row
      → RowCalls w scale preview list ys rs (row_put w y row s) t
      → RowCalls w scale preview list (y ∷ ys) (r ∷ rs) s t

-- every row call answers 0, the run answers 0, and both leave the same samples
pub record RowsAgree (preview : Bool) (list ys : List ℕ) (rs : List RowAnswer) (t : List Float) (e : End Float)
    : Type 0 where
  pub calls : rs ≡ replicate (length ys) (Row.Done (length (names_of skipped (kept_in preview list))))
  pub run : e.answer ≡ Ans.Done (length (names_of skipped (kept_in preview list))) 0 0
  pub samples : t ≡ e.samples

abbrev pub RowCallsHold : Type 0
RowCallsHold =
    (w : Window) (set : Settings) (room : Room) (list : List ℕ) (s : List Float) (names ys : List ℕ)
    (rs : List RowAnswer) (t : List Float) (e : End Float)
    → RowFormIf w set list names ys → Meets (f32_out w set room list s names) room e
    → RowCalls w set.scale set.preview list ys rs s t
    → RowsAgree set.preview list ys rs t e

-- both runs answer 0 with the same totals, the samples are the f32 run's rounded once and held, and the names written
-- are its names but for empty tables
pub record WholesAgree (e : End ℕ) (e' : End Float) : Type 0 where
  pub skips16 : ℕ
  pub skips32 : ℕ
  pub repaired : ℕ
  pub left : ℕ
  pub run16 : e.answer ≡ Ans.Done skips16 repaired left
  pub run32 : e'.answer ≡ Ans.Done skips32 repaired left
  pub samples : e.samples ≡ narrowed e'.samples
  pub named : take skips16 e.names ≡ without_tables (take skips32 e'.names)

abbrev pub WholeCalls : Type 0
WholeCalls =
    (w : Window) (period : ℕ) (preview : Bool) (room room' : Room) (list s names names' : List ℕ) (e : End ℕ)
    (e' : End Float) → WholeFormIf w period preview room room' list s names names'
    → Meets (u16_out w period preview room list s names) room e
    → Meets (f32_out w (at_one period preview) room' list (widened s) names') room' e'
    → WholesAgree e e'

-- The same with one scratch for both, however short, and on 1, 20 to 25 and 5 too: the f32 run answers what the
-- whole-number form answers, but for the number of names.
pub record WholesAlike (preview : Bool) (list : List ℕ) (e : End ℕ) (e' : End Float) : Type 0 where
  pub answers : e'.answer ≡ renamed (length (names_of skipped (kept_in preview list))) e.answer
  pub samples : e.samples ≡ narrowed e'.samples
  pub named : (n r l : ℕ) → e.answer ≡ Ans.Done n r l
      → take n e.names ≡ without_tables (take (length (names_of skipped (kept_in preview list))) e'.names)

abbrev pub WholeCallsAlike : Type 0
WholeCallsAlike =
    (w : Window) (period : ℕ) (preview : Bool) (room : Room) (list s names names' : List ℕ) (e : End ℕ)
    (e' : End Float) → TogetherIf preview list s names names'
    → Meets (u16_out w period preview room list s names) room e
    → Meets (f32_out w (at_one period preview) room list (widened s) names') room e'
    → WholesAlike preview list e e'
