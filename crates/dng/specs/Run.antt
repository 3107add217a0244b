-- A list as a program: what a preview leaves out, the forms, what each skips, and the run, opcode by opcode over the
-- whole window. Document 01, 'What comes back' and the last paragraph of 'What each does to a value'; document 02,
-- M-111.
use Rattle.std.specs.Prelude.{ℕ, suc, ◌+◌, Bool, true, false, ◌&&◌, cond, List, [], ◌∷◌, leb, eqb, Float, length}
use Rattle.std.specs.Float.{binary32, nan}
use Rattle.std.specs.Float.Ieee.{div, eq}
use Rattle.pointwise.specs.Points.{each}
use Rattle.num_round.specs.Whole.{round_held}
use Rattle.num_convert.specs.Convert.{whole_in}
use Rattle.dng.specs.declared.Window.{Window}
use Rattle.dng.specs.declared.Class.{Class}
use Rattle.dng.specs.declared.Class.TheVariants.{Table, Empty, Local, Repair, Unapplied}
use Rattle.dng.specs.declared.Opcode.{Opcode}
use Rattle.dng.specs.declared.Opcode.TheVariants.{WarpRectilinear, WarpFisheye, FixVignetteRadial, FixBadPixelsConstant, FixBadPixelsList, TrimBounds, MapTable, MapPolynomial, GainMap, DeltaPerRow, DeltaPerColumn, ScalePerRow, ScalePerColumn, Other}
use Rattle.dng.specs.List.{Item, preview_of, items_of, body_of}
use Rattle.dng.specs.Select.{Rule, on_window, on_row}
use Rattle.dng.specs.Value.{Frame, rule_of, rule16_of}
use Rattle.dng.specs.Repair.{marks_of, marked_in, repaired_in, left_in, repair_at}

-- ---- previews

-- an entry that a preview leaves out
abbrev pub drops : (preview : Bool) → Item → Bool
drops preview i = preview && preview_of i.entry

-- the entries that are left: forms and names speak of these
unfoldable pub kept_of : (preview : Bool) → List Item → List Item
kept_of preview [] = []
kept_of preview (i ∷ is) = cond (drops preview i) (kept_of preview is) (i ∷ kept_of preview is)

-- of a list, which is read whole before any entry is dropped
abbrev pub kept_in : (preview : Bool) → List ℕ → List Item
kept_in preview list = kept_of preview (items_of list)

-- ---- classes of opcodes

-- the class of an opcode, as the forms and the names go by it
abbrev pub class_of : Opcode → Class
class_of (WarpRectilinear n cx cy) = Unapplied
class_of WarpFisheye = Unapplied
class_of (FixVignetteRadial q) = Local
class_of (FixBadPixelsConstant c p) = Repair
class_of (FixBadPixelsList p np nr) = Repair
class_of (TrimBounds t l bm r) = Unapplied
class_of (MapTable r n) = cond (eqb n 0) Empty Table
class_of (MapPolynomial r d) = Local
class_of (GainMap r pv ph g mp) = Local
class_of (DeltaPerRow r n) = Local
class_of (DeltaPerColumn r n) = Local
class_of (ScalePerRow r n) = Local
class_of (ScalePerColumn r n) = Local
class_of (Other i) = Unapplied

-- the byte that names a skipped opcode: its id, 0 for `Other`
abbrev pub name_of : Opcode → ℕ
name_of (WarpRectilinear n cx cy) = 1
name_of WarpFisheye = 2
name_of (FixVignetteRadial q) = 3
name_of (FixBadPixelsConstant c p) = 4
name_of (FixBadPixelsList p np nr) = 5
name_of (TrimBounds t l bm r) = 6
name_of (MapTable r n) = 7
name_of (MapPolynomial r d) = 8
name_of (GainMap r pv ph g mp) = 9
name_of (DeltaPerRow r n) = 10
name_of (DeltaPerColumn r n) = 11
name_of (ScalePerRow r n) = 12
name_of (ScalePerColumn r n) = 13
name_of (Other i) = 0

-- ---- what a form skips: the f32 run ids 1, 2, 6, `Other` and an empty table; in the whole-number form an empty table
-- has no name

abbrev pub skipped : Class → Bool
skipped Table = false
skipped Empty = true
skipped Local = false
skipped Repair = false
skipped Unapplied = true

abbrev pub skipped16 : Class → Bool
skipped16 Table = false
skipped16 Empty = false
skipped16 Local = false
skipped16 Repair = false
skipped16 Unapplied = true

-- one byte for each skipped opcode, in list order
unfoldable pub names_of : (Class → Bool) → List Item → List ℕ
names_of skip [] = []
names_of skip (i ∷ is) = cond (skip (class_of i.op)) (name_of i.op ∷ names_of skip is) (names_of skip is)

-- ---- which lists a form takes

-- The whole-number form: tables, non-pixel opcodes and at most one repair. `free` says whether a repair may still come.
unfoldable pub takes16_on : Class → Bool → (Bool → Bool) → Bool
takes16_on Table free rest = rest free
takes16_on Empty free rest = rest free
takes16_on Local free rest = false
takes16_on Repair free rest = free && rest false
takes16_on Unapplied free rest = rest free

unfoldable pub takes16_from : Bool → List Item → Bool
takes16_from free [] = true
takes16_from free (i ∷ is) = takes16_on (class_of i.op) free (λ f. takes16_from f is)

abbrev pub takes16 : List Item → Bool
takes16 is = takes16_from true is

-- The row form: no repair and no empty table.
abbrev pub row_takes : Class → Bool
row_takes Table = true
row_takes Empty = false
row_takes Local = true
row_takes Repair = false
row_takes Unapplied = true

unfoldable pub takes_rows : List Item → Bool
takes_rows [] = true
takes_rows (i ∷ is) = row_takes (class_of i.op) && takes_rows is

-- ---- the two sample kinds

-- What a run needs to know of its samples: a value for a place that is never looked at, the value as a float, a mean as
-- it is stored, how a sample compares with a constant, and the row-local rules.
pub record Kind (A : Type 0) : Type 1 where
  pub none : A
  pub to_float : A → Float
  pub of_mean : Float → A
  pub is_bad : ℕ → A → Bool
  pub rule : Opcode → List ℕ → Rule A

-- f32: a sample is bad where it equals the constant as f32 over the scale
abbrev pub f32_kind : Frame → Kind Float
f32_kind fr =
    record {
      none = nan;
      to_float = λ v. v;
      of_mean = λ v. v;
      is_bad = λ c v. eq v (div binary32 (whole_in binary32 c) fr.scale);
      rule = rule_of fr;
    }

-- u16: compared as u32; means are rounded to whole and held to 0..65535
abbrev pub u16_kind : Kind ℕ
u16_kind =
    record {
      none = 0;
      to_float = λ v. whole_in binary32 v;
      of_mean = λ v. round_held 65535 v;
      is_bad = λ c v. eqb v c;
      rule = rule16_of;
    }

-- ---- the run

-- how far a run has come: going on, with the totals so far, or stopped by 5 at an opcode, with the samples as they are
-- then
pub data Progress (A : Type 0) : Type 0 where
  going : List A → (repaired left : ℕ) → Progress A
  marks_full : List A → (opcode : ℕ) → Progress A

-- room: how many entries the u32 scratch has
pub record Room : Type 0 where
  pub marks : ℕ

module _ {A : Type 0} (kind : Kind A) (w : Window) (period : ℕ) (room : Room) where
  -- A repair with the marks `bad`: on 5 nothing of it is done.
  unfoldable pub repair_on : (ℕ → Bool) → (opcode : ℕ) → List A → (repaired left : ℕ) → Progress A
  repair_on bad k s r l =
      cond (leb (marked_in w bad) room.marks)
      (going (each (repair_at kind.none kind.to_float kind.of_mean w period bad s) s)
      (r + repaired_in w period bad) (l + left_in w period bad))
      (marks_full s k)

  -- One opcode, over the whole window. One that is never applied, and a table with no entries, change nothing.
  abbrev pub perform_on : Class → Opcode → List ℕ → (opcode : ℕ) → List A → (repaired left : ℕ) → Progress A
  perform_on Table op b k s r l = going (each (on_window w (length s) (kind.rule op b)) s) r l
  perform_on Empty op b k s r l = going s r l
  perform_on Local op b k s r l = going (each (on_window w (length s) (kind.rule op b)) s) r l
  perform_on Repair op b k s r l = repair_on (marks_of kind.none w kind.is_bad op b s) k s r l
  perform_on Unapplied op b k s r l = going s r l

  abbrev pub perform : List ℕ → Item → (opcode : ℕ) → Progress A → Progress A
  perform list i k (going s r l) = perform_on (class_of i.op) i.op (body_of list i.entry) k s r l
  perform list i k (marks_full s o) = marks_full s o

  -- all opcodes, in list order, numbered from k on; one that is dropped is passed over and counts
  unfoldable pub perform_all : (preview : Bool) → List ℕ → ℕ → List Item → Progress A → Progress A
  perform_all preview list k [] g = g
  perform_all preview list k (i ∷ is) g =
      perform_all preview list (suc k) is (cond (drops preview i) g (perform list i k g))

-- A row on its own: the same opcodes one after another on a lent row, the row y of the image.
unfoldable pub row_on : Frame → (x0 planes y : ℕ) → List ℕ → List Item → List Float → List Float
row_on fr x0 p y list [] row = row
row_on fr x0 p y list (i ∷ is) row =
    row_on fr x0 p y list is (each (on_row x0 p y (length row) (rule_of fr i.op (body_of list i.entry))) row)
