-- What a plan makes of a run, over any sample kind, which lists a form takes and which opcodes it skips. Assumes nothing.
use mathlib.Core.Path.{◌≡◌, refl, sym, ap, ◌∙◌}
use mathlib.Core.Bool.{Bool, true}
use mathlib.Core.List.{List}
use Prim.Native.Nat.{ℕ, ◌≤◌}
use lib.ListN.{length, replicate}
use lib.Seq.{sets}
use Rattle.std.specs.Prelude.{Result, Ok, Err, IsErrAnd}
use Rattle.dng.specs.declared.Class.{Class}
use Rattle.dng.specs.declared.Window.{Window}
use Rattle.dng.specs.declared.Answer.{Answer}
use Rattle.dng.specs.declared.Answer.TheVariants as Ans
use Rattle.dng.specs.List.{Item, items_of}
use Rattle.dng.specs.Run.{kept_in, Kind, names_of, going, Room, perform_all}
use Rattle.dng.specs.Answer.{in_range, Out, finished, run_out, Ran}
use Rattle.list_names.proofs.Laws.{with-room}
use Rattle.run_refuse.specs.Plans.{plan_of}
use Rattle.run_refuse.proofs.Laws.{Settled, refuses, performs, settled}
use Rattle.run_opcodes.specs.declared.Totals.{Totals}
use Rattle.run_opcodes.specs.declared.Full.{Full}
use Rattle.run_opcodes.specs.Performs.{progress_of}
use Rattle.run_window.specs.Runs.{answer_of, Is}

-- the answer, the samples and the names of an output that is known
is : {A : Type 0} {o : Out A} (p : Out A) {a : Answer} → o ≡ p → a ≡ p.answer → Is o a p.samples p.names
is p e h =
    record {
      answered = h ∙ sym (ap (λ (x : Out _). x.answer) e);
      left = sym (ap (λ (x : Out _). x.samples) e);
      named = sym (ap (λ (x : Out _). x.names) e);
    }

-- what an error makes of an attempt
pub told : {a : Answer} (r : Result Answer Answer) → IsErrAnd r (λ b. b ≡ a) → answer_of r ≡ a
told (Ok b) h = absurd h
told (Err b) h = h

module _ {A : Type 0} (kind : Kind A) (takes : List Item → Bool) (skip : Class → Bool) (w : Window) (period : ℕ) (preview : Bool)
    (room : Room) (list : List ℕ) (s : List A) (names : List ℕ) {p : Result ℕ Answer}
    (plan : p ≡ plan_of takes skip list w period preview (length names)) where
  -- a refusal leaves everything
  pub refused : {a b : Answer} → p ≡ Err a → b ≡ a → Is (run_out kind takes skip w period preview room list s names) b s names
  refused q = is _ (refuses kind takes skip w period preview room list s names (sym plan ∙ q))

  module _ {n : ℕ} (q : p ≡ Ok n) where
    known : Settled takes skip list w period preview (length names) n
    known = settled takes skip list w period preview (length names) (sym plan ∙ q)

    pub goes : in_range w period ≡ true
    goes = known.in-range

    module _ {d : Result Totals Full} (s' : List A)
        (e : progress_of d s' ≡ perform_all kind w period room preview list 0 (items_of list) (going s 0 0)) where
      ran-out :
          {e' : Result Totals Full} → d ≡ e'
          → run_out kind takes skip w period preview room list s names ≡ finished (names_of skip (kept_in preview list)) names (progress_of e' s')
      ran-out z =
          performs kind takes skip w period preview room list s names (sym plan ∙ q)
          ∙ ap (finished (names_of skip (kept_in preview list)) names) (sym e ∙ ap (λ (d : Result Totals Full). progress_of d s') z)

      -- stopped, and nothing named
      pub stopped : {f : Full} {b : Answer} → d ≡ Err f → b ≡ Ans.Marks f.opcode → Is (run_out kind takes skip w period preview room list s names) b s' names
      stopped z = is _ (ran-out z)

      -- all performed and then named
      pub ended :
          {t : Totals} {names' : List ℕ} → d ≡ Ok t → names' ≡ sets names 0 (names_of skip (kept_in preview list))
          → Is (run_out kind takes skip w period preview room list s names) (Ans.Done n t.repaired t.left) s' names'
      ended {t} z h =
          let i = is _ (ran-out z) refl in
          let fits : length (names_of skip (kept_in preview list)) ≤ length names = rw (sym known.many) known.fits in
          record {
            answered = ap (λ (m : ℕ). Ans.Done m t.repaired t.left) known.many ∙ i.answered;
            left = i.left;
            named = h ∙ with-room (names_of skip (kept_in preview list)) names fits ∙ i.named;
          }

-- the scratch cleared after it, which kept its length
pub ran :
    {A : Type 0} {o : Out A} {r : Answer} {s : List A} {names : List ℕ} (m : ℕ) {m' : ℕ} {marks : List ℕ}
    → m' ≡ m → Is o r s names → marks ≡ replicate m' 0 → Ran o (record { marks = m }) r s names marks
ran m e i c =
    record { answered = i.answered; left = i.left; named = i.named; marks_clear = rw (sym e) c }
