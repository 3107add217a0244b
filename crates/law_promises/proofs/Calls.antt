-- Demand 3 of the calls: what each call did is what the definitions say, so the theorems on the definitions are theorems on the calls. Assumes nothing.
use Prim.Native.Nat.{ℕ, ◌+◌, ◌≤◌, ◌<◌}
use mathlib.Core.List.{List, ◌∷◌}
use mathlib.Core.Path.{◌≡◌, refl, sym, ap, ap₂, ◌∙◌}
use lib.Ieee.{Float}
use lib.ListN.{length, replicate}
use Rattle.dng.specs.declared.Window.{Window}
use Rattle.dng.specs.declared.RowAnswer.{RowAnswer}
use Rattle.dng.specs.declared.RowAnswer.TheVariants as Row
use mathlib.Core.Bool.{Bool}
use Rattle.dng.specs.Run.{kept_in, names_of, skipped, skipped16}
use Rattle.dng.specs.Answer.{row_out}
use Rattle.law_rows.specs.RowForm.{occurs, row_part, row_put, row_window_of, all_rows}
use Rattle.law_rows.proofs.Order.{once-below, occurs-head, occurs-tail}
use Rattle.law_rows.proofs.Theorem.{row-form}
use Rattle.law_wholes.specs.WholeForm.{widened, narrowed, without_tables, at_one}
use Rattle.law_wholes.specs.Together.{renamed}
use Rattle.law_wholes.proofs.Names.{names-without}
use Rattle.law_wholes.proofs.Theorem.{whole-form, same-scratch}
use Rattle.law_promises.specs.Promises.{f32_call, u16_call, RowCalls, done, call, RowCallsHold, WholeCalls, WholeCallsAlike}
use Rattle.law_promises.proofs.Answers.{kept}

-- ---- rows

module _ (w : Window) (scale : Float) (preview : Bool) (list : List ℕ) (n : ℕ)
    (answers : (y : ℕ) (t : List Float) → y < w.height → (row_out (row_window_of w) scale preview (w.y0 + y) list (row_part w y t)).answer ≡ Row.Done n) where
  row-by-row : {ys : List ℕ} {rs : List RowAnswer} {s t : List Float} → RowCalls w scale preview list ys rs s t → ((y : ℕ) → 1 ≤ occurs y ys → y < w.height)
      → (rs ≡ replicate (length ys) (Row.Done n)) × (t ≡ all_rows w scale preview list ys s)
  unfolding all_rows
  row-by-row done below = (refl, refl)
  row-by-row (call {y = y} {ys = ys} {r = r} {rs = rs} {s = s} {row = row} {t = t} ran more) below =
      let rest = row-by-row more (λ z q. below z (occurs-tail z y ys q)) in (
        ap₂ (λ (q : RowAnswer) (qs : List RowAnswer). q ∷ qs) (ran.answered ∙ answers y s (below y (occurs-head y ys))) rest.0,
        rest.1 ∙ ap (λ (q : List Float). all_rows w scale preview list ys (row_put w y q s)) ran.left,
      )

pub row-calls : RowCallsHold
row-calls w set room list s names ys rs t e h ran calls =
    let form = row-form w set room list s names ys h in
    let rows = row-by-row w set.scale set.preview list (length (names_of skipped (kept_in set.preview list))) form.calls calls (once-below
    w.height ys h.once) in
    record {
      calls = rows.0;
      run = ran.answered ∙ form.run;
      samples = rows.1 ∙ form.samples ∙ sym ran.left;
    }

-- ---- whole numbers

pub whole-calls : WholeCalls
whole-calls w period preview room room' list s names names' e e' h ran ran' =
    let form = whole-form w period preview room room' list s names names' h in
    let answer16 = ran.answered ∙ form.run16 in
    let answer32 = ran'.answered ∙ form.run32 in
    let front16 = (kept (u16_call w period preview room list s names) e ran).written _ _ _ answer16 in
    let front32 = (kept (f32_call w (at_one period preview) room' list (widened s) names') e' ran').written _ _ _ answer32 in
    record {
      skips16 = length (names_of skipped16 (kept_in preview list));
      skips32 = length (names_of skipped (kept_in preview list));
      repaired = form.repaired;
      left = form.left;
      run16 = answer16;
      run32 = answer32;
      samples = ran.left ∙ form.samples ∙ sym (ap narrowed ran'.left);
      named = front16 ∙ form.named ∙ sym (ap without_tables front32);
    }

pub whole-calls-alike : WholeCallsAlike
whole-calls-alike w period preview room list s names names' e e' h ran ran' =
    let form = same-scratch w period preview room list s names names' h in
    let m : ℕ = length (names_of skipped (kept_in preview list)) in
    let answers : e'.answer ≡ renamed m e.answer = ran'.answered ∙ form.answers ∙ ap (renamed m) (sym ran.answered) in
    record {
      answers = answers;
      samples = ran.left ∙ form.samples ∙ sym (ap narrowed ran'.left);
      named = λ n r l p.
          (kept (u16_call w period preview room list s names) e ran).written n r l p
          ∙ names-without (kept_in preview list)
          ∙ sym (ap without_tables ((kept (f32_call w (at_one period preview) room list (widened s) names') e' ran').written m r l (answers ∙ ap (renamed m) p)));
    }
