-- Demand 3, the row form: every row once, in any order, under its own number, equals the whole-window run. Document 01, 'Taken and left'.
use Prim.Native.Nat.{ℕ, ◌+◌, ◌≤◌, ◌<◌}
use mathlib.Core.Path.{◌≡◌, refl, sym, ap, ◌∙◌}
use mathlib.Core.List.{List, [], ◌∷◌}
use native.Mathlib.Omega.{arith}
use lib.Ieee.{Float}
use lib.ListN.{length}
use Rattle.pointwise.specs.Points.{each}
use Rattle.pointwise.proofs.Each.{length-each}
use Rattle.dng.specs.declared.Window.{Window}
use Rattle.dng.specs.declared.Settings.{Settings}
use Rattle.dng.specs.Select.{on_row}
use Rattle.dng.specs.Answer.{Out, RowOut, row_out}
use Rattle.law_rows.specs.RowForm.{occurs, row_part, row_put, row_window_of, one_row, all_rows, RowFormIf, RowFormHolds}
use Rattle.law_rows.proofs.Place.{Laid}
use Rattle.law_rows.proofs.Rows.{only_row, row-length, row-run}
use Rattle.law_rows.proofs.Calls.{rules_of, row_done, ranged, row-ranged, row-call, window-call}
use Rattle.law_rows.proofs.Tests.{only, in_turn}
use Rattle.law_rows.proofs.Order.{on_rows, on-rows-once, once-below, occurs-head, occurs-tail}

module _ (w : Window) (set : Settings) (list names ys : List ℕ) (h : RowFormIf w set list names ys) where
  laid : Laid w
  laid = record { some = (ranged w set.period h.ranges).some; wide = h.wide; strided = h.strided }

  -- what a row call gives on a row of the window
  pub on-row-y : (y : ℕ) (t : List Float) → y < w.height
      → row_out (row_window_of w) set.scale set.preview (w.y0 + y) list (row_part w y t)
      ≡ row_done set.preview list (each (on_row w.x0 w.planes (w.y0 + y) (length (row_part w y t)) (rules_of w set.scale set.preview list))
      (row_part w y t))
  on-row-y y t high =
      row-call (row_window_of w) set.scale set.preview (w.y0 + y) list (row_part w y t) h.opcodes
      (row-ranged w set.period y (length (row_part w y t)) (ranged w set.period h.ranges) high (omega (arith, row-length w y t)))
      h.whole
      h.taken

  -- a row call on a row of the window, put back: the list's rule on that row alone
  pub one-row : (y : ℕ) (s : List Float) → y < w.height
      → one_row w set.scale set.preview list y s ≡ each (only_row w (length s) y (rules_of w set.scale set.preview list)) s
  one-row y s high =
      ap (λ (o : RowOut). row_put w y o.row s) (on-row-y y s high)
      ∙ row-run w laid y high (rules_of w set.scale set.preview list) s

  -- row call after row call
  pub all-rows : (zs : List ℕ) (s : List Float) → ((y : ℕ) → 1 ≤ occurs y zs → y < w.height)
      → all_rows w set.scale set.preview list zs s ≡ on_rows w (length s) (rules_of w set.scale set.preview list) zs s
  unfolding all_rows in_turn only only_row
  all-rows [] s below = refl
  all-rows (y ∷ zs) s below =
      ap (all_rows w set.scale set.preview list zs) (one-row y s (below y (occurs-head y zs)))
      ∙ all-rows zs (each F s) (λ z q. below z (occurs-tail z y zs q))
      ∙ ap (λ (n : ℕ). on_rows w n (rules_of w set.scale set.preview list) zs (each F s)) (length-each F s)
    where
      F : ℕ → Float → Float
      F = only_row w (length s) y (rules_of w set.scale set.preview list)

pub row-form : RowFormHolds
row-form w set room list s names ys h =
    let ran = window-call w set room list s names h.opcodes h.ranges h.whole h.taken h.roomy in
    record {
      calls = λ y t high. ap (λ (o : RowOut). o.answer) (on-row-y w set list names ys h y t high);
      run = ap (λ (o : Out Float). o.answer) ran;
      samples = all-rows w set list names ys h ys s (once-below w.height ys h.once)
          ∙ on-rows-once w (length s) (rules_of w set.scale set.preview list) ys s h.once
          ∙ sym (ap (λ (o : Out Float). o.samples) ran);
    }
