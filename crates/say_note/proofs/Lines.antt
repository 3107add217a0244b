-- The lines of a list that was read whole, the note by what was read, and that its contract leaves no choice. Assumes nothing.
use Prim.Native.Nat.{ℕ, ◌+◌, ◌≤◌, ◌<◌}
use mathlib.Core.Path.{◌≡◌, refl, sym, ap, ◌∙◌, subst}
use mathlib.Core.Bool.{true, false}
use mathlib.Core.List.{List, [], ◌∷◌, ◌++◌}
use native.Mathlib.Omega.{arith}
use borrow.Author.Tests.{lt-ltb, le-ltb}
use lib.Dec.{ltb}
use lib.ListN.{length, length-append, take, drop}
use Rattle.num_text.specs.Text.{text}
use Rattle.num_text.specs.Appended.{Appended}
use Rattle.num_text.proofs.Laws.{appended-as, appended_then, appended-whole}
use Rattle.dng.specs.declared.Refusal.{Refusal}
use Rattle.std.specs.Prelude.{Ok, Err}
use Rattle.dng.specs.List.{malformed, Reading, reading_of, items_of}
use Rattle.say_note.specs.Note.{about, applied, not_applied, lines, lines_of, malformed_after, note_on, note_of}
use Rattle.say_note.specs.Parts.{Noted}

empty : (l : List ℕ) → length l ≡ 0 → l ≡ []
empty [] h = refl
empty (x ∷ l) h = absurd (omega arith)

-- a first line is never empty
some : (n : ℕ) (ns : List ℕ) → 0 < length (about applied (n ∷ ns) (text "\n"))
unfolding about
some n ns = simp length-append (omega arith)

module _ (ps ss es : List ℕ) where
  one_line : length (about applied ps (text "\n")) ≡ 0 → about not_applied es (text " (no pixel opcodes)\n") ≡ lines ps ss es
  unfolding lines
  one_line h = go ps h
    where
      go :
          (ps : List ℕ) → length (about applied ps (text "\n")) ≡ 0
          → about not_applied es (text " (no pixel opcodes)\n") ≡ lines ps ss es
      go [] h = refl
      go (n ∷ ns) h = absurd (omega (arith, h, some n ns))

  two-lines :
      (length (about applied ps (text "\n")) ≡ 0 → ⊥)
      → about applied ps (text "\n") ++ about not_applied ss (text "\n") ≡ lines ps ss es
  unfolding lines about
  two-lines h = go ps h
    where
      go :
          (ps : List ℕ) → (length (about applied ps (text "\n")) ≡ 0 → ⊥)
          → about applied ps (text "\n") ++ about not_applied ss (text "\n") ≡ lines ps ss es
      go [] h = absurd (h refl)
      go (n ∷ ns) h = refl

  pub first_fits : (l : ℕ) → length (lines ps ss es) ≤ l → 0 + length (about applied ps (text "\n")) ≤ l
  unfolding lines about
  first_fits l h = go ps h
    where
      go : (ps : List ℕ) → length (lines ps ss es) ≤ l → 0 + length (about applied ps (text "\n")) ≤ l
      go [] h = omega arith
      go (n ∷ ns) h =
          omega (arith, h, length-append (about applied (n ∷ ns) (text "\n")) (about not_applied ss (text "\n")))

  module _ {b o : List ℕ} {e : ℕ} (h : Appended b 0 (about applied ps (text "\n")) e o) where
    pub one-fits :
        (l k : ℕ) → e ≡ 0 → k ≡ l → length (lines ps ss es) ≤ l
        → 0 + length (about not_applied es (text " (no pixel opcodes)\n")) ≤ k
    one-fits l k z q i =
        let n : length (about applied ps (text "\n")) ≡ 0 = omega (arith, h.ends, z) in omega (arith, q, i, ap length (one_line n))

    pub two_fits :
        (l k : ℕ) → (e ≡ 0 → ⊥) → k ≡ l → length (lines ps ss es) ≤ l → e + length (about not_applied ss (text "\n")) ≤ k
    two_fits l k z q i =
        let n : (length (about applied ps (text "\n")) ≡ 0 → ⊥) = λ y. z (omega (arith, h.ends, y)) in
        omega
        (arith, h.ends, q, i, ap length (two-lines n), length-append (about applied ps (text "\n")) (about not_applied ss (text "\n")))

    pub put_one :
        {r : ℕ} {o' : List ℕ} → e ≡ 0 → Appended o 0 (about not_applied es (text " (no pixel opcodes)\n")) r o'
        → Appended b 0 (lines ps ss es) r o'
    put_one z i =
        let n : length (about applied ps (text "\n")) ≡ 0 = omega (arith, h.ends, z) in
        let none : Appended b 0 [] 0 o = subst (λ (k : ℕ). Appended b 0 [] k o) z (appended-as (empty _ n) h) in
        appended-as (one_line n) (appended_then none i)

    pub put_two :
        {r : ℕ} {o' : List ℕ} → (e ≡ 0 → ⊥) → Appended o e (about not_applied ss (text "\n")) r o'
        → Appended b 0 (lines ps ss es) r o'
    put_two z i = appended-as (two-lines (λ y. z (omega (arith, h.ends, y)))) (appended_then h i)

-- ---- the note, by what was read

module _ (s : List ℕ) where
  pub note-long : {b o : List ℕ} {r : ℕ} → 65535 < length s → Appended b 0 (text "too long\n") r o → Appended b 0 (note_of s) r o
  unfolding note_of
  note-long h a = let t : ltb 65535 (length s) ≡ true = lt-ltb 65535 (length s) h in appended-as (simp t) a

  short : length s ≤ 65535 → ltb 65535 (length s) ≡ false
  short h = le-ltb 65535 (length s) h

  module _ (h : length s ≤ 65535) {g : Reading} (e : g ≡ reading_of s) {b o : List ℕ} {r : ℕ} where
    pub note-malformed : {k : ℕ} {why : Refusal} → g ≡ Err (malformed k why) → Appended b 0 (malformed_after k) r o → Appended b 0 (note_of s) r o
    unfolding note_of note_on
    note-malformed {k} q a = appended-as (sym (simp (short h) (ap (λ (x : Reading). note_on x (items_of s)) (sym e ∙ q)))) a

    pub note-whole : {n : ℕ} → g ≡ Ok n → Appended b 0 (lines_of (items_of s)) r o → Appended b 0 (note_of s) r o
    unfolding note_of note_on
    note-whole {n} q a = appended-as (sym (simp (short h) (ap (λ (x : Reading). note_on x (items_of s)) (sym e ∙ q)))) a

-- ---- two results that keep the contract of `say_note::note` on the same list and buffer are equal

pub determined : {s b : List ℕ} {r r' : ℕ} {o o' : List ℕ} → Noted s b r o → Noted s b r' o' → (r ≡ r') × (o ≡ o')
determined {s} {b} h i =
    let e = h.note.ends ∙ sym i.note.ends in
    (e, appended-whole h.note ∙ ap (λ (n : ℕ). (take 0 b ++ note_of s) ++ drop n b) e ∙ sym (appended-whole i.note))
