-- The answers that the theorems on rows and tiles compare: a row call on a list that the row form takes, and a run of any form on a list without
-- repairs. Each answers 0, and its samples are one rule, at each place of the row and of the window. Assumes nothing.
use Prim.Native.Nat.{ℕ, ◌+◌, ◌*◌, ◌≤◌, ◌<◌}
use mathlib.Core.Path.{◌≡◌, refl, ap, ap₂, ◌∙◌}
use mathlib.Core.Bool.{Bool, true, ◌&&◌, cond}
use mathlib.Core.List.{List}
use native.Mathlib.Omega.{arith}
use borrow.Author.Tests.{leb-true, le-leb}
use lib.Dec.{leb}
use lib.Ieee.{Float}
use lib.ListN.{length}
use Rattle.pointwise.specs.Points.{each}
use Rattle.pointwise.proofs.Each.{each-agree}
use Rattle.dng.specs.declared.Window.{Window}
use Rattle.dng.specs.declared.RowWindow.{RowWindow}
use Rattle.dng.specs.declared.Settings.{Settings}
use Rattle.dng.specs.declared.Answer.TheVariants as Ans
use Rattle.dng.specs.declared.RowAnswer.TheVariants as Row
use Rattle.std.specs.Prelude.{Ok}
use Rattle.dng.specs.List.{Item, Reading, reading_of, items_of}
use Rattle.dng.specs.Select.{Rule, plane_of, column_of, row_of, in_window, whole_pixel, on_window, on_row}
use Rattle.dng.specs.Value.{rule_of}
use Rattle.dng.specs.declared.Class.{Class}
use Rattle.dng.specs.Run.{kept_in, Kind, Room, names_of, skipped, takes_rows, f32_kind, going, perform_all, row_on}
use Rattle.dng.specs.Answer.{in_range, row_in_range, frame_of, row_frame_of, RowOut, row_read, row_out}
use Rattle.dng.specs.Answer.{Out, unchanged, written, finished, ran_on, read_out, run_out, takes_all, f32_out}
use Rattle.law_rows.specs.NoRepair.{no_repair}
use Rattle.law_rows.specs.RowForm.{row_window_of}
use Rattle.law_rows.proofs.Fused.{all_of, both_true, rows-no-repair, applied_of, applied-all, perform-all, row-all, quiet}

-- what a list does to a sample, or what a preview leaves of it
abbrev pub rules_of : Window → (scale : Float) → (preview : Bool) → List ℕ → Rule Float
rules_of w scale preview list = all_of (rule_of (frame_of w scale)) list (kept_in preview list)

-- ---- the ranges

-- what the ranges say, as numbers
pub record Ranged (w : Window) (period : ℕ) : Type 0 where
  pub widest : w.width ≤ 65536
  pub highest : w.height ≤ 65536
  pub farthest : w.stride ≤ 65536
  pub some : 1 ≤ w.planes
  pub most : w.planes ≤ 8
  pub left : w.x0 ≤ 16777216
  pub top : w.y0 ≤ 16777216
  pub full_wide : w.full_width ≤ 16777216
  pub full_high : w.full_height ≤ 16777216
  pub longest : period ≤ 65536

pub ranged : (w : Window) (period : ℕ) → in_range w period ≡ true → Ranged w period
unfolding in_range
ranged w period h0 =
    let h1 = both_true _ _ h0 in
    let h2 = both_true _ _ h1.1 in
    let h3 = both_true _ _ h2.1 in
    let h4 = both_true _ _ h3.1 in
    let h5 = both_true _ _ h4.1 in
    let h6 = both_true _ _ h5.1 in
    let h7 = both_true _ _ h6.1 in
    let h8 = both_true _ _ h7.1 in
    let h9 = both_true _ _ h8.1 in
    record {
      widest = leb-true _ _ h1.0;
      highest = leb-true _ _ h2.0;
      farthest = leb-true _ _ h3.0;
      some = leb-true _ _ h4.0;
      most = leb-true _ _ h5.0;
      left = leb-true _ _ h6.0;
      top = leb-true _ _ h7.0;
      full_wide = leb-true _ _ h8.0;
      full_high = leb-true _ _ h9.0;
      longest = leb-true _ _ h9.1;
    }

pub in-range : (w : Window) (period : ℕ) → Ranged w period → in_range w period ≡ true
unfolding in_range
in-range w period g =
    ap₂ ◌&&◌ (le-leb w.width 65536 g.widest)
    (ap₂ ◌&&◌ (le-leb w.height 65536 g.highest)
    (ap₂ ◌&&◌ (le-leb w.stride 65536 g.farthest)
    (ap₂ ◌&&◌ (le-leb 1 w.planes g.some)
    (ap₂ ◌&&◌ (le-leb w.planes 8 g.most)
    (ap₂ ◌&&◌ (le-leb w.x0 16777216 g.left)
    (ap₂ ◌&&◌ (le-leb w.y0 16777216 g.top)
    (ap₂ ◌&&◌ (le-leb w.full_width 16777216 g.full_wide)
    (ap₂ ◌&&◌ (le-leb w.full_height 16777216 g.full_high) (le-leb period 65536 g.longest)))))))))

-- another period in range
pub other-period : (w : Window) (period q : ℕ) → in_range w period ≡ true → q ≤ 65536 → in_range w q ≡ true
other-period w period q h short =
    let g = ranged w period h in
    in-range w q
    (record {
      widest = g.widest;
      highest = g.highest;
      farthest = g.farthest;
      some = g.some;
      most = g.most;
      left = g.left;
      top = g.top;
      full_wide = g.full_wide;
      full_high = g.full_high;
      longest = short;
    })

-- a row of a window within the ranges, no longer than the window is wide, is within the row's
pub row-ranged : (w : Window) (period y n : ℕ) → Ranged w period → y < w.height → n ≤ w.width * w.planes
    → row_in_range (row_window_of w) (w.y0 + y) n ≡ true
unfolding row_in_range
row-ranged w period y n g high fits =
    ap₂ ◌&&◌ (le-leb w.width 65536 g.widest)
    (ap₂ ◌&&◌ (le-leb 1 w.planes g.some)
    (ap₂ ◌&&◌ (le-leb w.planes 8 g.most)
    (ap₂ ◌&&◌ (le-leb w.x0 16777216 g.left)
    (ap₂ ◌&&◌ (le-leb w.full_width 16777216 g.full_wide)
    (ap₂ ◌&&◌ (le-leb w.full_height 16777216 g.full_high)
    (ap₂ ◌&&◌ (le-leb (w.y0 + y) 16842751 (omega arith)) (le-leb n (w.width * w.planes) fits)))))))

-- ---- the answers

-- a row call that is done, with what it leaves
abbrev pub row_done : (preview : Bool) → List ℕ → List Float → RowOut
row_done preview list row = record { answer = Row.Done (length (names_of skipped (kept_in preview list))); row = row }

-- a run that is done, with nothing repaired and nothing left
abbrev pub run_done : {A : Type 0} → (Class → Bool) → (preview : Bool) → List ℕ → (names : List ℕ) → List A → Out A
run_done skip preview list names s =
    record { answer = Ans.Done (length (names_of skip (kept_in preview list))) 0 0; samples = s; names = written (names_of skip (kept_in preview list)) names }

-- a row call in range, on a list that is read whole and taken
pub row-call : (rw : RowWindow) (scale : Float) (preview : Bool) (y : ℕ) (list : List ℕ) (row : List Float) (m : ℕ)
    → row_in_range rw y (length row) ≡ true → reading_of list ≡ Ok m → takes_rows (kept_in preview list) ≡ true
    → row_out rw scale preview y list row
    ≡ row_done preview list (each (on_row rw.x0 rw.planes y (length row) (all_of (rule_of (row_frame_of rw scale)) list (kept_in preview list))) row)
unfolding row_out
row-call rw scale preview y list row m ranges whole taken =
    ap (λ (b : Bool). cond b (row_read rw scale preview y list row (reading_of list)) (record { answer = Row.Range; row = row })) ranges
    ∙ ap (row_read rw scale preview y list row) whole
    ∙ ap (λ (b : Bool). cond b did (record { answer = Row.NotTaken; row = row })) taken
    ∙ ap (row_done preview list) (row-all (row_frame_of rw scale) rw.x0 rw.planes y list (kept_in preview list) row)
  where
    did : RowOut
    did = row_done preview list (row_on (row_frame_of rw scale) rw.x0 rw.planes y list (kept_in preview list) row)

-- a run of any form, in range, on a list that is read whole and taken, that has no repair and finds room for its names
pub window-run : {A : Type 0} (kind : Kind A) (takes : List Item → Bool) (skip : Class → Bool) (w : Window) (period : ℕ) (preview : Bool)
    (room : Room) (list : List ℕ) (s : List A) (names : List ℕ) (m : ℕ)
    → in_range w period ≡ true → reading_of list ≡ Ok m → takes (kept_in preview list) ≡ true → no_repair (kept_in preview list) ≡ true
    → length (names_of skip (kept_in preview list)) ≤ length names
    → run_out kind takes skip w period preview room list s names
    ≡ run_done skip preview list names (each (on_window w (length s) (applied_of kind list (kept_in preview list))) s)
unfolding run_out ran_on
window-run {A} kind takes skip w period preview room list s names m ranges whole taken without roomy =
    ap (λ (b : Bool). cond b (read (reading_of list)) (unchanged Ans.Range s names)) ranges
    ∙ ap read whole
    ∙ ap (λ (b : Bool). cond b (cond (leb (length skips) (length names)) did (unchanged Ans.Names s names)) (unchanged Ans.NotTaken s names)) taken
    ∙ ap (λ (b : Bool). cond b did (unchanged Ans.Names s names)) (le-leb _ _ roomy)
    ∙ ap (finished skips names) (perform-all kind w period room preview list (items_of list) 0 s 0 0 without)
  where
    skips : List ℕ
    skips = names_of skip (kept_in preview list)

    read : Reading → Out A
    read r = read_out kind takes skip w period preview room list s names r

    did : Out A
    did = finished skips names (perform_all kind w period room preview list 0 (items_of list) (going s 0 0))

-- the f32 run on a list that the row form takes
pub window-call : (w : Window) (set : Settings) (room : Room) (list : List ℕ) (s : List Float) (names : List ℕ) (m : ℕ)
    → in_range w set.period ≡ true → reading_of list ≡ Ok m → takes_rows (kept_in set.preview list) ≡ true
    → length (names_of skipped (kept_in set.preview list)) ≤ length names
    → f32_out w set room list s names ≡ run_done skipped set.preview list names (each (on_window w (length s) (rules_of w set.scale set.preview list)) s)
unfolding on_window
window-call w set room list s names m ranges whole taken roomy =
    window-run kind takes_all skipped w set.period set.preview room list s names m ranges whole refl (rows-no-repair (kept_in
    set.preview list) taken) roomy
    ∙ ap (run_done skipped set.preview list names)
    (each-agree _ _ s
    (λ j v q.
    ap (λ (u : Float). cond (in_window w j) u v)
    (applied-all kind (quiet (frame_of w set.scale)) list (kept_in set.preview list) taken
    (whole_pixel w.planes (length s) j) (w.y0 + row_of w j) (w.x0 + column_of w j) (plane_of w j) v)))
  where
    kind : Kind Float
    kind = f32_kind (frame_of w set.scale)
