-- What follows from the definition of mending: a refusal before the first opcode leaves samples and names as they were, and two results that
-- keep the promise are the same. Assumes nothing.
use Prim.Native.Nat.{ℕ}
use mathlib.Core.Path.{◌≡◌, refl, sym, ap, ◌∙◌}
use mathlib.Core.Bool.{Bool, true, false, cond}
use mathlib.Core.List.{List}
use lib.Dec.{leb}
use lib.Ieee.{Float}
use lib.ListN.{length}
use Rattle.dng.specs.declared.Window.{Window}
use Rattle.dng.specs.Run.{Room, f32_kind, u16_kind, skipped, skipped16, takes16}
use Rattle.dng.specs.Value.{one}
use Rattle.dng.specs.Answer.{f32_out, u16_out, takes_all, frame_of}
use Rattle.law_wholes.specs.WholeForm.{Below, widened, narrowed, at_one}
use Rattle.law_wholes.proofs.Near.{exact-near}
use Rattle.law_wholes.proofs.Pairs.{pairs-widened, pairs-narrowed, pairs-weaken}
use Rattle.std.specs.Prelude.{Result}
use Rattle.run_stored.specs.declared.Mended.{Mended}
use Rattle.run_stored.specs.declared.NoRoom.{NoRoom}
use Rattle.run_stored.specs.Mend.{not_taken, early_mended, MendOut, whole_out, rounded_out, mend_out, MendsClear}
use Rattle.run_stored.proofs.Laws.{run-keeps}

-- there and back again: a u16 sample is its own f32, rounded
pub back : (s : List ℕ) → Below 65536 s → narrowed (widened s) ≡ s
back s h = sym (pairs-narrowed s (widened s) (pairs-weaken (λ a v e. exact-near e) (pairs-widened s h)))

-- what is unchanged
pub record Unchanged (o : MendOut) (s names : List ℕ) : Type 0 where
  pub samples-are : o.samples ≡ s
  pub names-are : o.names ≡ names

module _ (w : Window) (period : ℕ) (preview : Bool) (room : Room) (wide : ℕ) (list s names : List ℕ) (below : Below 65536 s) where
  abbrev Keeps : MendOut → Type 0
  Keeps o = early_mended o.answer ≡ true → Unchanged o s names

  whole-keeps : Keeps (whole_out (u16_out w period preview room list s names))
  whole-keeps h =
      let k = run-keeps s names u16_kind takes16 skipped16 w period preview room list h in record { samples-are = k.samples-same; names-are = k.names_same }

  wide-keeps : Keeps (rounded_out (f32_out w (at_one period preview) room list (widened s) names))
  wide-keeps h =
      let k = run-keeps (widened s) names (f32_kind (frame_of w one)) takes_all skipped w period preview room list h in
      record { samples-are = ap narrowed k.samples-same ∙ back s below; names-are = k.names_same }

  either : (b : Bool) (x y : MendOut) → Keeps x → Keeps y → Keeps (cond b x y)
  either true x y p q = p
  either false x y p q = q

  pub kept : early_mended (mend_out w period preview room wide list s names).answer ≡ true → Unchanged (mend_out w period preview room wide list s names) s names
  unfolding mend_out
  kept =
      either (not_taken (u16_out w period preview room list s names).answer) _ _
      (either (leb (length s) wide) _ _ wide-keeps (λ h. record { samples-are = refl; names-are = refl }))
      whole-keeps

-- two results that keep the promise are the same
pub record Equal (r r' : Result Mended NoRoom) (s s' : List ℕ) (l l' : List Float) (names names' marks marks' : List ℕ) : Type 0 where
  pub answers : r ≡ r'
  pub samples-equal : s ≡ s'
  pub wide-equal : l ≡ l'
  pub names-equal : names ≡ names'
  pub marks-equal : marks ≡ marks'

pub determined :
    {o : MendOut} {room : Room} {n : ℕ} {r r' : Result Mended NoRoom} {s s' : List ℕ} {l l' : List Float} {names names' marks marks' : List ℕ}
    → MendsClear o room n r s l names marks → MendsClear o room n r' s' l' names' marks'
    → Equal r r' s s' l l' names names' marks marks'
determined p q =
    record {
      answers = p.mended.answered ∙ sym q.mended.answered;
      samples-equal = p.mended.left ∙ sym q.mended.left;
      wide-equal = p.wide_clear ∙ sym q.wide_clear;
      names-equal = p.mended.named ∙ sym q.mended.named;
      marks-equal = p.mended.marks_clear ∙ sym q.mended.marks_clear;
    }
