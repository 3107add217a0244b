-- Demand 3 for the whole-number form: it equals widen, run at scale 1, round once and hold; on every answer where both have the same scratch.
-- Assumes nothing.
use Prim.Native.Nat.{ℕ, ◌≤◌, ◌<◌}
use mathlib.Core.Path.{◌≡◌, refl, sym, ap, ap₂, ◌∙◌}
use mathlib.Core.Bool.{Bool, true, false, cond}
use mathlib.Core.List.{List}
use borrow.Author.Tests.{leb-true, le-leb}
use lib.Dec.{leb}
use lib.Ieee.{Float}
use lib.ListN.{length}
use Rattle.dng.specs.declared.Window.{Window}
use Rattle.dng.specs.declared.Answer.TheVariants as Ans
use Rattle.std.specs.Prelude.{Ok, Err}
use Rattle.dng.specs.List.{Item, Reading, reading_of, items_of}
use Rattle.dng.specs.Value.{one}
use Rattle.dng.specs.declared.Class.{Class}
use Rattle.dng.specs.Run.{kept_in, Kind, f32_kind, u16_kind, skipped, skipped16, takes16, names_of, Progress, going, Room, perform_all}
use Rattle.dng.specs.Answer.{Out, in_range, unchanged, finished, ran_on, read_out, run_out, takes_all, frame_of, u16_out}
use Rattle.law_wholes.specs.WholeForm.{Below, Enough, WholeFormHolds, widened, narrowed, at_one}
use Rattle.law_wholes.specs.Together.{renamed, TogetherIf, SameScratch}
use Rattle.law_wholes.proofs.Near.{Near, exact-near}
use Rattle.law_wholes.proofs.Pairs.{Pairs, pairs-weaken, pairs-widened, pairs-narrowed}
use Rattle.law_wholes.proofs.Marks.{and_first, and_second}
use Rattle.law_wholes.proofs.Run.{kind32, Ends, ended, ended_marks, tests_same, tests-enough, runs}
use Rattle.law_wholes.proofs.Names.{names-without}

some-planes : (w : Window) (period : ℕ) → in_range w period ≡ true → 0 < w.planes
unfolding in_range
some-planes w period e =
    leb-true 1 w.planes
    (and_first (leb 1 w.planes) _
    (and_second (leb w.stride 65536) _ (and_second (leb w.height 65536) _ (and_second (leb w.width 65536) _ e))))

at_one_lem : (period : ℕ) (preview : Bool) → (at_one period preview).scale ≡ one
at_one_lem period preview = refl

-- a run that nothing refuses, in either form
run_is : {A : Type 0} (kind : Kind A) (takes : List Item → Bool) (skip : Class → Bool) (w : Window) (period : ℕ) (preview : Bool)
    (room : Room) (list : List ℕ) (s : List A) (names : List ℕ) (n : ℕ)
    → in_range w period ≡ true → reading_of list ≡ Ok n → takes (kept_in preview list) ≡ true
    → length (names_of skip (kept_in preview list)) ≤ length names
    → run_out kind takes skip w period preview room list s names
    ≡ finished (names_of skip (kept_in preview list)) names (perform_all kind w period room preview list 0 (items_of list) (going s 0 0))
unfolding run_out ran_on
run_is {A} kind takes skip w period preview room list s names n ranges whole taken roomy =
    ap₂ (λ (z : Bool) (r : Reading). cond z (read_out kind takes skip w period preview room list s names r) (unchanged Ans.Range s names))
    ranges whole
    ∙ ap₂ (λ (y z : Bool). cond y (cond z done (unchanged Ans.Names s names)) (unchanged Ans.NotTaken s names))
    taken (le-leb (length (names_of skip (kept_in preview list))) (length names) roomy)
  where
    done : Out A
    done = finished (names_of skip (kept_in preview list)) names (perform_all kind w period room preview list 0 (items_of list) (going s 0 0))

-- with room for any repair both go on to the end
record Both (p : Progress ℕ) (q : Progress Float) : Type 0 where
  samples16 : List ℕ
  samples32 : List Float
  repaired : ℕ
  left : ℕ
  is16 : p ≡ going samples16 repaired left
  is32 : q ≡ going samples32 repaired left
  pairs : Pairs Near samples16 samples32

both : {w : Window} {room : Room} {p : Progress ℕ} {q : Progress Float} → Ends w room p q → Enough w room → Both p q
both (ended {s = s} {t = t} {r = r} {l = l} ps) enough =
    record { samples16 = s; samples32 = t; repaired = r; left = l; is16 = refl; is32 = refl; pairs = ps }
both (ended_marks short ps) enough = absurd (short enough)

pub whole-form : WholeFormHolds
whole-form w period preview room room' list s names names' h =
    let ends =
    both
    (runs w period room room' (some-planes w period h.ranges) (tests-enough w room room' h.enough h.enough') preview list h.bytes true
    (items_of list) 0 s (widened s) 0 0 h.taken (pairs-widened s h.words))
    h.enough in
    let out16 : run_out u16_kind takes16 skipped16 w period preview room list s names
    ≡ finished (names_of skipped16 (kept_in preview list)) names (going ends.samples16 ends.repaired ends.left) =
    run_is u16_kind takes16 skipped16 w period preview room list s names h.opcodes h.ranges h.whole h.taken h.roomy
    ∙ ap (finished (names_of skipped16 (kept_in preview list)) names) ends.is16 in
    let out32 : run_out (f32_kind (frame_of w (at_one period preview).scale)) takes_all skipped w period preview room' list (widened s) names'
    ≡ finished (names_of skipped (kept_in preview list)) names' (going ends.samples32 ends.repaired ends.left) =
    ap (λ (z : Float). run_out (f32_kind (frame_of w z)) takes_all skipped w period preview room' list (widened s) names') (at_one_lem period preview)
    ∙ run_is (kind32 w) takes_all skipped w period preview room' list (widened s) names' h.opcodes h.ranges h.whole refl h.roomy'
    ∙ ap (finished (names_of skipped (kept_in preview list)) names') ends.is32 in
    record {
      repaired = ends.repaired;
      left = ends.left;
      run16 = ap (λ (o : Out ℕ). o.answer) out16;
      run32 = ap (λ (o : Out Float). o.answer) out32;
      samples = ap (λ (o : Out ℕ). o.samples) out16 ∙ pairs-narrowed ends.samples16 ends.samples32 ends.pairs
          ∙ sym (ap (λ (o : Out Float). narrowed o.samples) out32);
      named = names-without (kept_in preview list);
    }

-- ---- with the same scratch

-- samples that nothing has touched
untouched : (s : List ℕ) → Below 65536 s → s ≡ narrowed (widened s)
untouched s h = pairs-narrowed s (widened s) (pairs-weaken (λ a v x. exact-near x) (pairs-widened s h))

module _ (w : Window) (period : ℕ) (preview : Bool) (room : Room) (list s names names' : List ℕ) (h : TogetherIf preview list s names names') where
  abbrev names16 : List ℕ
  names16 = names_of skipped16 (kept_in preview list)

  abbrev names32 : List ℕ
  names32 = names_of skipped (kept_in preview list)

  -- two outcomes that agree
  abbrev Alike : Out ℕ → Out Float → Type 0
  Alike o o' = (o'.answer ≡ renamed (length names32) o.answer) × (o.samples ≡ narrowed o'.samples)

  alike-ends : {p : Progress ℕ} {q : Progress Float} → Ends w room p q → Alike (finished names16 names p) (finished names32 names' q)
  alike-ends (ended {s = x} {t = y} ps) = (refl, pairs-narrowed x y ps)
  alike-ends (ended_marks {s = x} {t = y} short ps) = (refl, pairs-narrowed x y ps)

  alike-ran : in_range w period ≡ true
      → Alike (ran_on u16_kind takes16 skipped16 w period preview room list s names) (ran_on (kind32 w) takes_all skipped w period preview room list
      (widened s) names')
  unfolding ran_on
  alike-ran ranges =
      rw (h.taken, le-leb (length names16) (length names) h.roomy, le-leb (length names32) (length names') h.roomy')
      (alike-ends
      (runs w period room room (some-planes w period ranges) (tests_same w room) preview list h.bytes true (items_of list) 0 s (widened s) 0 0 h.taken
      (pairs-widened s h.words)))

  alike : Alike (u16_out w period preview room list s names) (run_out (kind32 w) takes_all skipped w period preview room list (widened s) names')
  unfolding run_out
  alike = go (in_range w period) (reading_of list) refl
    where
      go : (i : Bool) (r : Reading) → in_range w period ≡ i
          → Alike (cond i (read_out u16_kind takes16 skipped16 w period preview room list s names r) (unchanged Ans.Range s names))
          (cond i (read_out (kind32 w) takes_all skipped w period preview room list (widened s) names' r) (unchanged Ans.Range (widened s) names'))
      go true (Ok n) i = alike-ran i
      go true (Err m) i = (refl, untouched s h.words)
      go false r i = (refl, untouched s h.words)

pub same-scratch : SameScratch
same-scratch w period preview room list s names names' h =
    let a = alike w period preview room list s names names' h in
    record { answers = a.0; samples = a.1 }
