-- Samples turned into others place by place, how many are held, and what a run leaves that does not take its list. Assumes nothing.
use Prim.Native.Nat.{ℕ, suc, ◌+◌, ◌≤◌, ◌<◌, min}
use mathlib.Core.Path.{◌≡◌, refl, sym, ap, ap₂, subst, ◌∙◌}
use mathlib.Core.Bool.{Bool, true, false, cond}
use mathlib.Core.List.{List, [], ◌∷◌, map}
use native.Mathlib.Omega.{arith}
use native.Mathlib.Numerals.{add-one}
use borrow.Author.Tests.{le-leb, lt-leb, lt-ltb, le-ltb, eq-eqb, ne_eqb}
use lib.Dec.{leb, ltb, eqb}
use lib.Ieee.{Float, nan, inf, fin}
use lib.ListN.{length, get_or, drop, length-map, length-replicate, drop_of_length-le}
use lib.Seq.{ext_get_or, drop-cons}
use Rattle.pointwise.specs.Points.{each, between}
use Rattle.pointwise.proofs.Each.{length-each, get_or-each, below_or}
use Rattle.pointwise.proofs.Parts.{between_in}
use Rattle.num_round.specs.Whole.{round_held}
use Rattle.dng.specs.declared.Window.{Window}
use Rattle.dng.specs.declared.Settings.{Settings}
use Rattle.dng.specs.declared.Answer.{Answer}
use Rattle.dng.specs.declared.Answer.TheVariants as Ans
use Rattle.std.specs.Prelude.{Result, Ok, Err, count_by}
use Rattle.std.proofs.lemmas.List.Sums.{sum_by-cons}
use Rattle.dng.specs.List.{Item, Reading, reading_of, items_of}
use Rattle.dng.specs.declared.Class.{Class}
use Rattle.dng.specs.Run.{kept_in, Kind, u16_kind, Progress, going, marks_full, Room, perform_all, names_of, skipped16, takes16}
use Rattle.dng.specs.Answer.{Out, Ran, in_range, unchanged, finished, ran_on, read_out, run_out, f32_out, u16_out}
use Rattle.law_wholes.specs.WholeForm.{Below, widened, narrowed, at_one}
use Rattle.law_wholes.proofs.Pairs.{get_or-map-in}
use Rattle.say_pgm.specs.Pgm.{over}
use Rattle.run_stored.specs.declared.Mended.{Mended}
use Rattle.run_stored.specs.declared.Mended.TheVariants.{Whole, Widened}
use Rattle.run_stored.specs.declared.NoRoom.{NoRoom}
use Rattle.run_stored.specs.Mend.{not_taken, early, MendOut, whole_out, held_in, rounded_out, lacks_room, mend_out, Rounded, Mends, held_above, HeldAbove}

-- ---- turned

module _ {A B : Type 0} (F : A → B) (d : A) where
  -- each place of a list as long as s holds what F makes of s there
  abbrev pub turned : List A → ℕ → B → B
  turned s k v = F (get_or s k d)

  pub all-turned : (e : B) (s : List A) (l : List B) (i : ℕ) → length l ≡ length s → length s ≤ i → each (between 0 i (turned s)) l ≡ map F s
  all-turned e s l i same q =
      ext_get_or e (each (between 0 i (turned s)) l) (map F s) (length-each _ l ∙ same ∙ sym (length-map s F))
      (λ k h.
      let m : k < length l = subst (λ (n : ℕ). k < n) (length-each _ l) h in
      get_or-each _ l k e m ∙ between_in 0 i (turned s) k _ (omega arith) (omega arith) ∙ sym (get_or-map-in F s k d e (omega arith)))

-- ---- how many are held, in the library's word

pub held-counts : (s : List Float) → held_in s ≡ count_by (λ v. eqb (round_held 65536 v) 65536) s
unfolding held_in
held-counts [] = refl
held-counts (v ∷ s) =
    ap (λ (n : ℕ). cond (eqb (round_held 65536 v) 65536) 1 0 + n) (held-counts s)
    ∙ sym (sum_by-cons (λ (x : Float). cond (eqb (round_held 65536 x) 65536) 1 0) v s)

-- ---- above the largest value

-- holding to less is holding once more
lower : (v : Float) → round_held 65535 v ≡ min (round_held 65536 v) 65535
unfolding round_held
lower nan = refl
lower (inf true) = refl
lower (inf false) = refl
lower (fin true m e) = refl
lower (fin false m e) = omega arith

at_most : (v : Float) → round_held 65536 v ≤ 65536
unfolding round_held
at_most nan = omega arith
at_most (inf true) = omega arith
at_most (inf false) = omega arith
at_most (fin true m e) = omega arith
at_most (fin false m e) = omega arith

-- below 65535 it does not matter which of the two a value is held to
same_above : (m : ℕ) (v : Float) → m < 65535 → ltb m (round_held 65535 v) ≡ ltb m (round_held 65536 v)
same_above m v h =
    below_or m (round_held 65536 v) (λ q. lt-ltb m (round_held 65535 v) (omega (arith, lower v)) ∙ sym (lt-ltb m (round_held 65536 v) q))
    (λ q. le-ltb m (round_held 65535 v) (omega (arith, lower v)) ∙ sym (le-ltb m (round_held 65536 v) q))

above-last : (v : Float) → eqb (round_held 65536 v) 65536 ≡ ltb 65535 (round_held 65536 v)
above-last v =
    below_or 65535 (round_held 65536 v) (λ q. eq-eqb (round_held 65536 v) 65536 (omega (arith, at_most v)) ∙ sym (lt-ltb 65535 (round_held 65536 v) q))
    (λ q. ne_eqb (round_held 65536 v) 65536 (λ e. omega arith) ∙ sym (le-ltb 65535 (round_held 65536 v) q))

-- the encoder finds all of them where maxval is below 65535
over-narrowed : (m : ℕ) (s : List Float) → m < 65535 → over m (narrowed s) ≡ held_above m s
unfolding over held_above
over-narrowed m [] h = refl
over-narrowed m (v ∷ s) h = ap₂ (λ (b : Bool) (n : ℕ). cond b 1 0 + n) (same_above m v h) (over-narrowed m s h)

-- those that are held to 65535 are all where maxval is 65535
pub held-last : (s : List Float) → held_in s ≡ held_above 65535 s
unfolding held_in held_above
held-last [] = refl
held-last (v ∷ s) = ap₂ (λ (b : Bool) (n : ℕ). cond b 1 0 + n) (above-last v) (held-last s)

-- and the encoder finds none
none_over : (s : List ℕ) → Below 65536 s → 0 ≡ over 65535 s
unfolding over
none_over [] h = refl
none_over (v ∷ s) h =
    ap₂ (λ (b : Bool) (n : ℕ). cond b 1 0 + n) (sym (le-ltb 65535 v (let q = h 0 (omega arith) in omega arith))) (none_over s (λ i k. h (suc i) (omega arith)))

module _ (m wide above : ℕ) where
  pub by-encoder : m < 65535 → HeldAbove m wide above above
  by-encoder h = record { rounded = λ s l w e. e ∙ over-narrowed m s h; whole = λ s l b w e. e }

  pub by-rounding : 65535 ≤ m → HeldAbove m wide above wide
  by-rounding h =
      record {
        rounded = λ s l w e. let last : 65535 ≡ m = omega arith in w ∙ held-last s ∙ ap (λ (n : ℕ). held_above n s) last;
        whole = λ s l b w e. let last : 65535 ≡ m = omega arith in w ∙ none_over s b ∙ ap (λ (n : ℕ). over n s) last;
      }

-- ---- a run that is refused before its first opcode leaves all as it was

not-taken-early : (a : Answer) → not_taken a ≡ true → early a ≡ true
not-taken-early (Ans.Done n r l) h = h
not-taken-early Ans.Range h = refl
not-taken-early (Ans.Malformed k why) h = refl
not-taken-early Ans.NotTaken h = refl
not-taken-early Ans.Names h = refl
not-taken-early (Ans.Marks k) h = h

never : {C : Type 0} → false ≡ true → C
never z = let n : ◌≡◌ {A = ℕ} 0 1 = ap (λ (b : Bool). cond b 1 0) z in absurd (omega arith)

module _ {A : Type 0} (s : List A) (names : List ℕ) where
  pub record Same (o : Out A) : Type 0 where
    pub samples-same : o.samples ≡ s
    pub names_same : o.names ≡ names

  abbrev pub Keeps : Out A → Type 0
  Keeps o = early o.answer ≡ true → Same o

  as_it_was : (a : Answer) → Keeps (unchanged a s names)
  as_it_was a h = record { samples-same = refl; names_same = refl }

  either : (b : Bool) (x y : Out A) → Keeps x → Keeps y → Keeps (cond b x y)
  either true x y p q = p
  either false x y p q = q

  finished-keeps : (l : List ℕ) (g : Progress A) → Keeps (finished l names g)
  finished-keeps l (going t r k) h = never h
  finished-keeps l (marks_full t k) h = never h

  module _ (kind : Kind A) (takes : List Item → Bool) (skip : Class → Bool) (w : Window) (period : ℕ) (preview : Bool) (room : Room) (list : List ℕ) where
    ran-keeps : Keeps (ran_on kind takes skip w period preview room list s names)
    unfolding ran_on
    ran-keeps =
        either (takes (kept_in preview list)) _ _
        (either (leb (length (names_of skip (kept_in preview list))) (length names)) _ _
        (finished-keeps (names_of skip (kept_in preview list)) (perform_all kind w period room preview list 0 (items_of list) (going s 0 0))) (as_it_was Ans.Names))
        (as_it_was Ans.NotTaken)

    read_keeps : (g : Reading) → Keeps (read_out kind takes skip w period preview room list s names g)
    read_keeps (Ok n) = ran-keeps
    read_keeps (Err m) = as_it_was (Ans.Malformed m.after m.why)

    pub run-keeps : Keeps (run_out kind takes skip w period preview room list s names)
    unfolding run_out
    run-keeps = either (in_range w period) _ _ (read_keeps (reading_of list)) (as_it_was Ans.Range)

-- ---- the f32 run, rounded back

pub rounded : (w : Window) (set : Settings) (room : Room) (list names s : List ℕ) {s' names' marks : List ℕ} {l l' : List Float} {r : Answer} {n : ℕ}
    → l ≡ widened s → Ran (f32_out w set room list l names) room r l' names' marks → n ≡ held_in l' → s' ≡ narrowed l'
    → Rounded (f32_out w set room list (widened s) names) room r n s' names' marks
rounded w set room list names s {s'} {names'} {marks} {l} {l'} {r} e ran many back =
    let on = subst (λ (x : List Float). Ran (f32_out w set room list x names) room r l' names' marks) e ran in
    record {
      answered = on.answered;
      counted = many ∙ ap held_in on.left;
      left = back ∙ ap narrowed on.left;
      named = on.named;
      marks_clear = on.marks_clear;
    }

-- ---- both runs in turn

module _ (w : Window) (period wide : ℕ) (preview : Bool) (room : Room) (list s names : List ℕ) {a : Answer} {s' names' marks : List ℕ} {t : Bool}
    (ran : Ran (u16_out w period preview room list s names) room a s' names' marks) (is : t ≡ not_taken a) where
  told : not_taken (u16_out w period preview room list s names).answer ≡ t
  told = ap not_taken (sym ran.answered) ∙ sym is

  -- the record is one of the case that the tests pick
  pick : {r : Result Mended NoRoom} {s'' names'' marks'' : List ℕ} (o : MendOut) → mend_out w period preview room wide list s names ≡ o
      → Mends o room r s'' names'' marks'' → Mends (mend_out w period preview room wide list s names) room r s'' names'' marks''
  pick {r} {s''} {names''} {marks''} o e m = subst (λ (x : MendOut). Mends x room r s'' names'' marks'') (sym e) m

  pub by_whole : t ≡ false → Mends (mend_out w period preview room wide list s names) room (Ok (Whole a)) s' names' marks
  unfolding mend_out
  by_whole f =
      pick (whole_out (u16_out w period preview room list s names)) (simp (told ∙ f))
      (record {
        answered = ap (λ (x : Answer). Ok (Whole x)) ran.answered;
        left = ran.left;
        named = ran.named;
        marks_clear = ran.marks_clear;
      })

  kept : t ≡ true → Same s names (u16_out w period preview room list s names)
  kept f = run-keeps s names u16_kind takes16 skipped16 w period preview room list (not-taken-early (u16_out w period preview room list s names).answer (told
      ∙ f))

  same-samples : t ≡ true → s' ≡ s
  same-samples f = ran.left ∙ (kept f).samples-same

  same_names : t ≡ true → names' ≡ names
  same_names f = ran.named ∙ (kept f).names_same

  pub by-neither : t ≡ true → wide < length s' → Mends (mend_out w period preview room wide list s names) room (Err lacks_room) s' names' marks
  unfolding mend_out
  by-neither f h =
      let e : s' ≡ s = same-samples f in
      pick (record { answer = Err lacks_room; samples = s; names = names })
      (simp (told ∙ f, lt-leb (length s) wide (subst (λ (x : List ℕ). wide < length x) e h)))
      (record { answered = refl; left = e; named = same_names f; marks_clear = ran.marks_clear })

  -- the scratch is as long as it was
  same-room : ◌≡◌ {A = Room} (record { marks = length marks }) room
  same-room = ap (λ (m : ℕ). record { marks = m }) (ap length ran.marks_clear ∙ length-replicate room.marks _)

  pub by_wide : {r : Answer} {n : ℕ} {s'' names'' marks'' : List ℕ} → t ≡ true → length s' ≤ wide
      → Rounded (f32_out w (at_one period preview) (record { marks = length marks }) list (widened s') names')
      (record { marks = length marks }) r n s'' names'' marks''
      → Mends (mend_out w period preview room wide list s names) room (Ok (Widened r n)) s'' names'' marks''
  unfolding mend_out
  by_wide {r} {n} {s''} {names''} {marks''} f h q =
      let e : s' ≡ s = same-samples f in
      let q₁ = subst (λ (x : Room). Rounded (f32_out w (at_one period preview) x list (widened s') names') x r n s'' names'' marks'') same-room q in
      let q₂ = subst (λ (x : List ℕ). Rounded (f32_out w (at_one period preview) room list (widened x) names') room r n s'' names'' marks'') e q₁ in
      let on = subst (λ (x : List ℕ). Rounded (f32_out w (at_one period preview) room list (widened s) x) room r n s'' names'' marks'') (same_names f) q₂ in
      pick (rounded_out (f32_out w (at_one period preview) room list (widened s) names))
      (simp (told ∙ f, le-leb (length s) wide (subst (λ (x : List ℕ). length x ≤ wide) e h)))
      (record {
        answered = ap₂ (λ (x : Answer) (k : ℕ). Ok (Widened x k)) on.answered on.counted;
        left = on.left;
        named = on.named;
        marks_clear = on.marks_clear;
      })
