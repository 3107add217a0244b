-- A preview is the run over the entries that are left. Assumes nothing.
use Prim.Native.Nat.{ℕ, suc, ◌+◌}
use mathlib.Core.Path.{◌≡◌, refl, sym, ap, ◌∙◌}
use mathlib.Core.Bool.{Bool, true, false, cond}
use mathlib.Core.List.{List, [], ◌∷◌}
use mathlib.Core.Bool.{◌&&◌}
use lib.Dec.{leb}
use lib.Ieee.{Float}
use lib.ListN.{length}
use Rattle.pointwise.specs.Points.{each}
use Rattle.dng.specs.declared.Window.{Window}
use Rattle.dng.specs.declared.RowWindow.{RowWindow}
use Rattle.dng.specs.declared.Opcode.{Opcode}
use Rattle.dng.specs.declared.Answer.TheVariants as Ans
use Rattle.dng.specs.declared.RowAnswer.TheVariants as Row
use Rattle.std.specs.Prelude.{Ok}
use Rattle.dng.specs.List.{Item, Reading, reading_of, items_of, body_of}
use Rattle.dng.specs.Select.{on_row}
use Rattle.dng.specs.Value.{Frame, rule_of}
use Rattle.dng.specs.Repair.{marks_of, marked_in, repaired_in, left_in, repair_at}
use Rattle.dng.specs.declared.Class.{Class}
use Rattle.dng.specs.declared.Class.TheVariants.{Table, Empty, Local, Repair, Unapplied}
use Rattle.dng.specs.Run.{drops, kept_of, kept_in, class_of, name_of, skipped, skipped16, names_of, takes16_on, takes16_from, takes16, row_takes, takes_rows, Kind, f32_kind, u16_kind, Room, Progress, going, marks_full, repair_on, perform_on, perform, perform_all, row_on}
use Rattle.dng.specs.Answer.{Out, in_range, row_in_range, unchanged, finished, takes_all, frame_of, row_frame_of, ran_on, read_out, run_out, RowOut, row_read, row_out}
use Rattle.law_promises.specs.Preview.{kept_numbers, perform_by, unnumbered, Without, AsBefore, Alike, CutOut, unplaced_out, Previews}

module _ {A : Type 0} (kind : Kind A) (w : Window) (period : ℕ) (room : Room) (list : List ℕ) where
  -- ---- an opcode's number is in what it stops with, and in nothing else

  choose : (k m : ℕ) (s : List A) (fits : Bool) (u : List A) (x y : ℕ)
      → unnumbered (cond fits (going u x y) (marks_full s k)) ≡ unnumbered (cond fits (going u x y) (marks_full s m))
  choose k m s true u x y = refl
  choose k m s false u x y = refl

  repair-un : (bad : ℕ → Bool) (k m : ℕ) (s : List A) (r l : ℕ)
      → unnumbered (repair_on kind w period room bad k s r l) ≡ unnumbered (repair_on kind w period room bad m s r l)
  unfolding repair_on
  repair-un bad k m s r l =
      choose k m s (leb (marked_in w bad) room.marks) (each (repair_at kind.none kind.to_float kind.of_mean w period bad s) s)
      (r + repaired_in w period bad) (l + left_in w period bad)

  perform-un : (i : Item) (k m : ℕ) (g : Progress A)
      → unnumbered (perform kind w period room list i k g) ≡ unnumbered (perform kind w period room list i m (unnumbered g))
  perform-un i k m (going s r l) = on (class_of i.op)
    where
      on : (c : Class) → unnumbered (perform_on kind w period room c i.op (body_of list i.entry) k s r l)
          ≡ unnumbered (perform_on kind w period room c i.op (body_of list i.entry) m s r l)
      on Table = refl
      on Empty = refl
      on Local = refl
      on Repair = repair-un (marks_of kind.none w kind.is_bad i.op (body_of list i.entry) s) k m s r l
      on Unapplied = refl
  perform-un i k m (marks_full s o) = refl

  -- ---- the entries that are left, from any numbers

  one-numbered : (d : Bool) (i : Item) (is : List Item) (k : ℕ) (ks : List ℕ) (g : Progress A)
      → perform_by kind w period room list ks is (cond d g (perform kind w period room list i k g))
      ≡ perform_by kind w period room list (cond d ks (k ∷ ks)) (cond d is (i ∷ is)) g
  unfolding perform_by
  one-numbered true i is k ks g = refl
  one-numbered false i is k ks g = refl

  numbered-at : (preview : Bool) (is : List Item) (k : ℕ) (g : Progress A)
      → perform_all kind w period room preview list k is g
      ≡ perform_by kind w period room list (kept_numbers preview k is) (kept_of preview is) g
  unfolding perform_all perform_by kept_of kept_numbers
  numbered-at preview [] k g = refl
  numbered-at preview (i ∷ is) k g =
      numbered-at preview is (suc k) (cond (drops preview i) g (perform kind w period room list i k g))
      ∙ one-numbered (drops preview i) i (kept_of preview is) k (kept_numbers preview (suc k) is) g

  -- a run with numbers from m on, and one over the same entries from n on
  all-un : (is : List Item) (m n : ℕ) (g : Progress A)
      → unnumbered (perform_all kind w period room false list m is g) ≡ unnumbered (perform_all kind w period room false list n is (unnumbered g))
  unfolding perform_all
  all-un [] m n (going s r l) = refl
  all-un [] m n (marks_full s o) = refl
  all-un (i ∷ is) m n g =
      all-un is (suc m) (suc n) (perform kind w period room list i m g)
      ∙ ap (λ (h : Progress A). unnumbered (perform_all kind w period room false list (suc n) is h)) (perform-un i m n g)
      ∙ sym (all-un is (suc n) (suc n) (perform kind w period room list i n (unnumbered g)))

  one-un : (d : Bool) (i : Item) (is : List Item) (k n : ℕ) (g : Progress A)
      → unnumbered (perform_all kind w period room false list n is (unnumbered (cond d g (perform kind w period room list i k g))))
      ≡ unnumbered (perform_all kind w period room false list n (cond d is (i ∷ is)) (unnumbered g))
  unfolding perform_all
  one-un true i is k n g = refl
  one-un false i is k n g =
      ap (λ (h : Progress A). unnumbered (perform_all kind w period room false list n is h)) (perform-un i k n g)
      ∙ sym (all-un is (suc n) n (perform kind w period room list i n (unnumbered g)))

  run-un : (preview : Bool) (is : List Item) (k n : ℕ) (g : Progress A)
      → unnumbered (perform_all kind w period room preview list k is g)
      ≡ unnumbered (perform_all kind w period room false list n (kept_of preview is) (unnumbered g))
  unfolding perform_all kept_of
  run-un preview [] k n (going s r l) = refl
  run-un preview [] k n (marks_full s o) = refl
  run-un preview (i ∷ is) k n g =
      run-un preview is (suc k) n (cond (drops preview i) g (perform kind w period room list i k g))
      ∙ one-un (drops preview i) i (kept_of preview is) k n g

pub without : Without
without =
    record {
      numbered = λ A kind w period room preview list is g. numbered-at kind w period room list preview is 0 g;
      alike = λ A kind w period room preview list is s r l. run-un kind w period room list preview is 0 0 (going s r l);
    }

all-kept : (is : List Item) → kept_of false is ≡ is
unfolding kept_of
all-kept [] = refl
all-kept (i ∷ is) = ap (λ (l : List Item). i ∷ l) (all-kept is)

pub as_before : AsBefore
unfolding perform_all
as_before = record { kept = all-kept; performed = λ A kind w period room list k i is g. refl }

-- ---- the list without the flagged entries, as bytes of its own

names-alike : (skip : Class → Bool) (list list' : List ℕ) (is js : List Item) → Alike list is list' js → names_of skip is ≡ names_of skip js
unfolding names_of
names-alike skip list list' [] [] h = refl
names-alike skip list list' [] (j ∷ js) h = absurd h
names-alike skip list list' (i ∷ is) [] h = absurd h
names-alike skip list list' (i ∷ is) (j ∷ js) (o, b, h) =
    ap (λ (op : Opcode). cond (skip (class_of op)) (name_of op ∷ names_of skip is) (names_of skip is)) o
    ∙ ap (λ (ns : List ℕ). cond (skip (class_of j.op)) (name_of j.op ∷ ns) ns) (names-alike skip list list' is js h)

takes-on : (c : Class) (free : Bool) (f g : Bool → Bool) → ((b : Bool) → f b ≡ g b) → takes16_on c free f ≡ takes16_on c free g
unfolding takes16_on
takes-on Table free f g h = h free
takes-on Empty free f g h = h free
takes-on Local free f g h = refl
takes-on Repair free f g h = ap (λ (b : Bool). free && b) (h false)
takes-on Unapplied free f g h = h free

takes-alike : (list list' : List ℕ) (is js : List Item) → Alike list is list' js → (free : Bool) → takes16_from free is ≡ takes16_from free js
unfolding takes16_from
takes-alike list list' [] [] h free = refl
takes-alike list list' [] (j ∷ js) h free = absurd h
takes-alike list list' (i ∷ is) [] h free = absurd h
takes-alike list list' (i ∷ is) (j ∷ js) (o, b, h) free =
    ap (λ (op : Opcode). takes16_on (class_of op) free (λ f. takes16_from f is)) o
    ∙ takes-on (class_of j.op) free (λ f. takes16_from f is) (λ f. takes16_from f js) (takes-alike list list' is js h)

rows_alike : (list list' : List ℕ) (is js : List Item) → Alike list is list' js → takes_rows is ≡ takes_rows js
unfolding takes_rows
rows_alike list list' [] [] h = refl
rows_alike list list' [] (j ∷ js) h = absurd h
rows_alike list list' (i ∷ is) [] h = absurd h
rows_alike list list' (i ∷ is) (j ∷ js) (o, b, h) =
    ap (λ (op : Opcode). row_takes (class_of op) && takes_rows is) o ∙ ap (λ (t : Bool). row_takes (class_of j.op) && t) (rows_alike list list' is js h)

row-alike : (fr : Frame) (x0 p y : ℕ) (list list' : List ℕ) (is js : List Item) (row : List Float) → Alike list is list' js
    → row_on fr x0 p y list is row ≡ row_on fr x0 p y list' js row
unfolding row_on
row-alike fr x0 p y list list' [] [] row h = refl
row-alike fr x0 p y list list' [] (j ∷ js) row h = absurd h
row-alike fr x0 p y list list' (i ∷ is) [] row h = absurd h
row-alike fr x0 p y list list' (i ∷ is) (j ∷ js) row (o, b, h) =
    ap (λ (op : Opcode). row_on fr x0 p y list is (each (on_row x0 p y (length row) (rule_of fr op (body_of list i.entry))) row)) o
    ∙ (ap (λ (t : List ℕ). row_on fr x0 p y list is (each (on_row x0 p y (length row) (rule_of fr j.op t)) row)) b
    ∙ row-alike fr x0 p y list list' is js (each (on_row x0 p y (length row) (rule_of fr j.op (body_of list' j.entry))) row) h)

module _ {A : Type 0} (kind : Kind A) (w : Window) (period : ℕ) (room : Room) (list list' : List ℕ) where
  perform-alike : (i j : Item) (k : ℕ) (g : Progress A) → i.op ≡ j.op → body_of list i.entry ≡ body_of list' j.entry
      → perform kind w period room list i k g ≡ perform kind w period room list' j k g
  perform-alike i j k (going s r l) o b =
      ap (λ (op : Opcode). perform_on kind w period room (class_of op) op (body_of list i.entry) k s r l) o
      ∙ ap (λ (t : List ℕ). perform_on kind w period room (class_of j.op) j.op t k s r l) b
  perform-alike i j k (marks_full s n) o b = refl

  all_alike : (is js : List Item) (k : ℕ) (g : Progress A) → Alike list is list' js
      → perform_all kind w period room false list k is g ≡ perform_all kind w period room false list' k js g
  unfolding perform_all
  all_alike [] [] k g h = refl
  all_alike [] (j ∷ js) k g h = absurd h
  all_alike (i ∷ is) [] k g h = absurd h
  all_alike (i ∷ is) (j ∷ js) k g (o, b, h) =
      ap (λ (x : Progress A). perform_all kind w period room false list (suc k) is x) (perform-alike i j k g o b)
      ∙ all_alike is js (suc k) (perform kind w period room list' j k g) h

  finished-un : (ns names : List ℕ) (g : Progress A) → unplaced_out (finished ns names g) ≡ finished ns names (unnumbered g)
  finished-un ns names (going s r l) = refl
  finished-un ns names (marks_full s k) = refl

  module _ (takes : List Item → Bool) (skip : Class → Bool) (preview : Bool) (s : List A) (names : List ℕ)
      (h : Alike list (kept_in preview list) list' (items_of list')) (same : takes (kept_in preview list) ≡ takes (items_of list')) where
    -- 3, 4 and the run
    answered : (taken roomy : Bool) (ns : List ℕ) (g : Progress A)
        → unplaced_out (cond taken (cond roomy (finished ns names g) (unchanged Ans.Names s names)) (unchanged Ans.NotTaken s names))
        ≡ cond taken (cond roomy (finished ns names (unnumbered g)) (unchanged Ans.Names s names)) (unchanged Ans.NotTaken s names)
    answered true true ns g = finished-un ns names g
    answered true false ns g = refl
    answered false roomy ns g = refl

    abbrev settled : Bool → List ℕ → Progress A → Out A
    settled taken ns g =
        cond taken (cond (leb (length ns) (length names)) (finished ns names g) (unchanged Ans.Names s names)) (unchanged Ans.NotTaken s names)

    ran-alike : unplaced_out (ran_on kind takes skip w period preview room list s names)
        ≡ unplaced_out (ran_on kind takes skip w period false room list' s names)
    unfolding ran_on
    ran-alike =
        answered (takes (kept_in preview list)) (leb (length (names_of skip (kept_in preview list))) (length names)) (names_of skip (kept_in preview list))
        (perform_all kind w period room preview list 0 (items_of list) (going s 0 0))
        ∙ (ap (λ (t : Bool). settled t (names_of skip (kept_in preview list))
        (unnumbered (perform_all kind w period room preview list 0 (items_of list) (going s 0 0)))) same
        ∙ (ap (λ (ns : List ℕ). settled (takes (items_of list')) ns (unnumbered (perform_all kind w period room preview list 0 (items_of list) (going s 0 0))))
        (names-alike skip list list' (kept_in preview list) (items_of list') h)
        ∙ (ap (λ (g : Progress A). settled (takes (items_of list')) (names_of skip (items_of list')) g)
        (run-un kind w period room list preview (items_of list) 0 0 (going s 0 0)
        ∙ ap unnumbered (all_alike (kept_in preview list) (items_of list') 0 (going s 0 0) h))
        ∙ (sym (answered (takes (items_of list')) (leb (length (names_of skip (items_of list'))) (length names)) (names_of skip (items_of list'))
        (perform_all kind w period room false list' 0 (items_of list') (going s 0 0)))
        ∙ ap (λ (is : List Item). unplaced_out (settled (takes is) (names_of skip is)
        (perform_all kind w period room false list' 0 (items_of list') (going s 0 0))))
        (sym (all-kept (items_of list')))))))

    run-alike : (n n' : ℕ) → reading_of list ≡ Ok n → reading_of list' ≡ Ok n'
        → unplaced_out (run_out kind takes skip w period preview room list s names)
        ≡ unplaced_out (run_out kind takes skip w period false room list' s names)
    unfolding run_out
    run-alike n n' e e' =
        ap (λ (q : Reading). unplaced_out (cond (in_range w period) (read_out kind takes skip w period preview room list s names q)
        (unchanged Ans.Range s names))) e
        ∙ (ranged (in_range w period)
        ∙ sym (ap (λ (q : Reading). unplaced_out (cond (in_range w period) (read_out kind takes skip w period false room list' s names q)
        (unchanged Ans.Range s names))) e'))
      where
        ranged : (b : Bool) → unplaced_out (cond b (ran_on kind takes skip w period preview room list s names) (unchanged Ans.Range s names))
            ≡ unplaced_out (cond b (ran_on kind takes skip w period false room list' s names) (unchanged Ans.Range s names))
        ranged true = ran-alike
        ranged false = refl

-- a row of a list that is taken or not, with those names
abbrev row_made : List Float → Bool → List ℕ → List Float → RowOut
row_made row taken ns t = cond taken (record { answer = Row.Done (length ns); row = t }) (record { answer = Row.NotTaken; row = row })

row_read_lem : (w : RowWindow) (scale : Float) (preview : Bool) (y : ℕ) (list list' : List ℕ) (row : List Float)
    → Alike list (kept_in preview list) list' (items_of list') → (n n' : ℕ)
    → row_read w scale preview y list row (Ok n) ≡ row_read w scale false y list' row (Ok n')
row_read_lem w scale preview y list list' row h n n' =
    ap (λ (b : Bool). row_made row b (names_of skipped (kept_in preview list)) (row_on (row_frame_of w scale) w.x0 w.planes y list (kept_in preview list) row))
    (rows_alike list list' (kept_in preview list) (items_of list') h)
    ∙ (ap (λ (ns : List ℕ). row_made row (takes_rows (items_of list')) ns (row_on (row_frame_of w scale) w.x0 w.planes y list (kept_in preview list) row))
    (names-alike skipped list list' (kept_in preview list) (items_of list') h)
    ∙ (ap (λ (t : List Float). row_made row (takes_rows (items_of list')) (names_of skipped (items_of list')) t)
    (row-alike (row_frame_of w scale) w.x0 w.planes y list list' (kept_in preview list) (items_of list') row h)
    ∙ ap (λ (is : List Item). row_made row (takes_rows is) (names_of skipped is) (row_on (row_frame_of w scale) w.x0 w.planes y list' is row))
    (sym (all-kept (items_of list')))))

row_out_lem : (w : RowWindow) (scale : Float) (preview : Bool) (y : ℕ) (list list' : List ℕ) (row : List Float)
    → CutOut preview list list' → row_out w scale preview y list row ≡ row_out w scale false y list' row
unfolding row_out
row_out_lem w scale preview y list list' row c =
    ap (λ (o : RowOut). cond (row_in_range w y (length row)) o (record { answer = Row.Range; row = row }))
    (ap (row_read w scale preview y list row) c.whole
    ∙ (row_read_lem w scale preview y list list' row c.alike c.opcodes c.left
    ∙ sym (ap (row_read w scale false y list' row) c.whole')))

pub previews : Previews
previews =
    record {
      f32 = λ w set room list list' s names c.
          run-alike (f32_kind (frame_of w set.scale)) w set.period room list list' takes_all skipped set.preview s names c.alike refl c.opcodes
          c.left c.whole c.whole';
      u16 = λ w period preview room list list' s names c.
          run-alike u16_kind w period room list list' takes16 skipped16 preview s names c.alike
          (takes-alike list list' (kept_in preview list) (items_of list') c.alike true) c.opcodes c.left c.whole c.whole';
      row = row_out_lem;
    }
