-- No note has more than 1,024 bytes: a line has each of the fourteen names at most once, with at most 28 bytes for each. Assumes nothing.
use Prim.Native.Nat.{ℕ, zero, suc, ◌+◌, ◌*◌, ◌≤◌, ◌<◌}
use mathlib.Core.Path.{◌≡◌, refl, ap, ◌∙◌}
use mathlib.Core.Bool.{Bool, true, false, ◌&&◌, cond}
use mathlib.Core.List.{List, [], ◌∷◌, ◌++◌, map}
use native.Mathlib.Omega.{arith}
use native.Mathlib.Nat.{le_trans}
use borrow.Author.Tests.{leb-true, eqb-true, eqb-false, eq-eqb, ne_eqb}
use lib.Dec.{eqb, leb, ltb}
use lib.ListN.{length, length-append, get_or}
use Rattle.num_text.specs.Text.{text, decimal}
use Rattle.num_text.proofs.Digits.{decimal-short}
use Rattle.dng.specs.declared.Refusal.{Refusal}
use Rattle.dng.specs.declared.Opcode.{Opcode}
use Rattle.dng.specs.declared.Opcode.TheVariants.{WarpRectilinear, WarpFisheye, FixVignetteRadial, FixBadPixelsConstant, FixBadPixelsList, TrimBounds, MapTable, MapPolynomial, GainMap, DeltaPerRow, DeltaPerColumn, ScalePerRow, ScalePerColumn, Other}
use Rattle.std.specs.Prelude.{Ok, Err}
use Rattle.dng.specs.List.{Item, malformed, Reading, reading_of, items_of}
use Rattle.dng.specs.declared.Class.{Class}
use Rattle.dng.specs.Run.{class_of, name_of, names_of, skipped}
use Rattle.list_read.proofs.Fold.{items-bound, refused}
use Rattle.say_name.specs.Name.{name_texts, name_text}
use Rattle.say_note.specs.Note.{occurs, item, firsts, behind, joined, names, about, pixel, every, applied, not_applied, lines, lines_of, malformed_after, note_on, note_of}
use Rattle.say_note.proofs.Parts.{occurs-append}
use Rattle.say_note.proofs.Names.{malformed-length}

-- ---- one name

shorts : List (List ℕ) → Bool
shorts [] = true
shorts (t ∷ ts) = leb (length t) 20 && shorts ts

both : (a b : Bool) → (a && b) ≡ true → (a ≡ true) × (b ≡ true)
both true true h = (refl, refl)
both true false h = (refl, h)
both false b h = (h, absurd (let z : ◌≡◌ {A = ℕ} 0 1 = cc in omega arith))

short : (ts : List (List ℕ)) (n : ℕ) → shorts ts ≡ true → leb (length (get_or ts n (text "Other"))) 20 ≡ true
unfolding shorts
short [] n h = refl
short (t ∷ ts) zero h = (both (leb (length t) 20) (shorts ts) h).0
short (t ∷ ts) (suc n) h = short ts n (both (leb (length t) 20) (shorts ts) h).1

name-short : (x : ℕ) → length (name_text x) ≤ 20
unfolding name_text shorts
name-short x = leb-true _ _ (short name_texts x refl)

occurs-most : (x : ℕ) (ns : List ℕ) → occurs x ns ≤ length ns
unfolding occurs
occurs-most x [] = omega arith
occurs-most x (n ∷ ns) = go (eqb n x) (occurs-most x ns)
  where
    go : (t : Bool) → occurs x ns ≤ length ns → cond t 1 0 + occurs x ns ≤ suc (length ns)
    go true h = omega arith
    go false h = omega arith

item-short : (ns : List ℕ) (x : ℕ) → length ns ≤ 4096 → length (item ns x) ≤ 26
unfolding item
item-short ns x h =
    simp length-append (go (ltb 1 (occurs x ns)) (decimal-short 3 (occurs x ns) (omega (arith, occurs-most x ns))) (name-short x))
  where
    go :
        (t : Bool) → length (decimal (occurs x ns)) ≤ 4 → length (name_text x) ≤ 20
        → length (name_text x) + length (cond t (text " x" ++ decimal (occurs x ns)) []) ≤ 26
    go true d n = omega arith
    go false d n = omega arith

-- ---- how many of the names below n do not occur in a list

absent : ℕ → List ℕ → ℕ
absent zero l = 0
absent (suc n) l = cond (eqb (occurs n l) 0) 1 0 + absent n l

one_fewer : (a b : ℕ) → a ≤ b → cond (eqb b 0) 1 0 ≤ cond (eqb a 0) 1 0
one_fewer a b h = go (eqb b 0) refl
  where
    go : (t : Bool) → eqb b 0 ≡ t → cond t 1 0 ≤ cond (eqb a 0) 1 0
    go true e = let z : eqb a 0 ≡ true = eq-eqb a 0 (omega (arith, eqb-true b 0 e)) in simp z (omega arith)
    go false e = omega arith

absent-fewer : (n : ℕ) (l m : List ℕ) → absent n (l ++ m) ≤ absent n l
unfolding absent
absent-fewer zero l m = omega arith
absent-fewer (suc n) l m =
    let h = absent-fewer n l m in
    let i = one_fewer (occurs n l) (occurs n (l ++ m)) (omega (arith, occurs-append n l m)) in
    omega arith

itself : (x : ℕ) → occurs x (x ∷ []) ≡ 1
unfolding occurs
itself x = simp (eq-eqb x x refl)

absent-one : (n x : ℕ) (l : List ℕ) → x < n → occurs x l ≡ 0 → absent n (l ++ (x ∷ [])) + 1 ≤ absent n l
unfolding absent
absent-one zero x l h e = absurd (omega arith)
absent-one (suc n) x l h e = go (eqb n x) refl (absent-one n x l)
  where
    go :
        (t : Bool) → eqb n x ≡ t → (x < n → occurs x l ≡ 0 → absent n (l ++ (x ∷ [])) + 1 ≤ absent n l)
        → cond (eqb (occurs n (l ++ (x ∷ []))) 0) 1 0 + absent n (l ++ (x ∷ [])) + 1 ≤ cond (eqb (occurs n l) 0) 1 0 + absent n l
    go true t f =
        let q : n ≡ x = eqb-true n x t in
        let z : eqb (occurs n l) 0 ≡ true = eq-eqb (occurs n l) 0 (ap (λ (y : ℕ). occurs y l) q ∙ e) in
        let k : eqb (occurs n (l ++ (x ∷ []))) 0 ≡ false =
        ne_eqb (occurs n (l ++ (x ∷ []))) 0 (λ y. omega (arith, y, ap (λ (j : ℕ). occurs j (l ++ (x ∷ []))) q, occurs-append x l (x ∷ []), itself x)) in
        let m = absent-fewer n l (x ∷ []) in
        simp (z, k) (omega arith)
    go false t f =
        let q = eqb-false n x t in
        let i = f (omega (arith, q)) e in
        let m = one_fewer (occurs n l) (occurs n (l ++ (x ∷ []))) (omega (arith, occurs-append n l (x ∷ []))) in
        omega arith

-- ---- names that are below 14

unfoldable pub Below : List ℕ → Type 0
Below [] = Unit
Below (n ∷ ns) = (n < 14) × Below ns

name_below : (op : Opcode) → name_of op < 14
name_below (WarpRectilinear n cx cy) = omega arith
name_below WarpFisheye = omega arith
name_below (FixVignetteRadial q) = omega arith
name_below (FixBadPixelsConstant c p) = omega arith
name_below (FixBadPixelsList p np nr) = omega arith
name_below (TrimBounds t l b r) = omega arith
name_below (MapTable r n) = omega arith
name_below (MapPolynomial r d) = omega arith
name_below (GainMap r v h g m) = omega arith
name_below (DeltaPerRow r n) = omega arith
name_below (DeltaPerColumn r n) = omega arith
name_below (ScalePerRow r n) = omega arith
name_below (ScalePerColumn r n) = omega arith
name_below (Other i) = omega arith

names-below : (p : Class → Bool) (is : List Item) → Below (names_of p is)
unfolding Below names_of
names-below p [] = tt
names-below p (i ∷ is) = go (p (class_of i.op)) (names-below p is)
  where
    go : (t : Bool) → Below (names_of p is) → Below (cond t (name_of i.op ∷ names_of p is) (names_of p is))
    go true h = (name_below i.op, h)
    go false h = h

names-most : (p : Class → Bool) (is : List Item) → length (names_of p is) ≤ length is
unfolding names_of
names-most p [] = omega arith
names-most p (i ∷ is) = go (p (class_of i.op)) (names-most p is)
  where
    go : (t : Bool) → length (names_of p is) ≤ length is → length (cond t (name_of i.op ∷ names_of p is) (names_of p is)) ≤ suc (length is)
    go true h = omega arith
    go false h = omega arith

pub names-bound : (p : Class → Bool) (s : List ℕ) → length (names_of p (items_of s)) ≤ 4096
names-bound p s = le_trans (names-most p (items_of s)) (items-bound s)

-- ---- a line

module _ (all : List ℕ) (few : length all ≤ 4096) where
  behind-short : (before ns : List ℕ) → Below ns → length (behind (map (item all) (firsts before ns))) ≤ 28 * absent 14 before
  unfolding Below firsts behind
  behind-short before [] h = omega arith
  behind-short before (n ∷ ns) h =
      go (eqb (occurs n before) 0) refl h.0 (item-short all n few) (behind-short (before ++ (n ∷ [])) ns h.1)
      (absent-fewer 14 before (n ∷ []))
    where
      go :
          (t : Bool) → eqb (occurs n before) 0 ≡ t → n < 14 → length (item all n) ≤ 26
          → length (behind (map (item all) (firsts (before ++ (n ∷ [])) ns))) ≤ 28 * absent 14 (before ++ (n ∷ []))
          → absent 14 (before ++ (n ∷ [])) ≤ absent 14 before
          → length (behind (map (item all) (cond t (n ∷ []) [] ++ firsts (before ++ (n ∷ [])) ns))) ≤ 28 * absent 14 before
      go true t b i f m =
          let a = absent-one 14 n before b (eqb-true _ _ t) in simp length-append (omega arith)
      go false t b i f m = omega arith

  joined-short : (ts : List (List ℕ)) → length (joined ts) ≤ length (behind ts)
  unfolding joined behind
  joined-short [] = omega arith
  joined-short (t ∷ ts) = simp length-append (omega arith)

names-short : (ns : List ℕ) → length ns ≤ 4096 → Below ns → length (names ns) ≤ 392
unfolding names absent occurs
names-short ns few b = le_trans (joined-short ns few (map (item ns) (firsts [] ns))) (behind-short ns few [] ns b)

about-short :
    (head ns end : List ℕ) → length ns ≤ 4096 → Below ns → length (about head ns end) ≤ length head + 392 + length end
unfolding about
about-short head [] end few b = omega arith
about-short head (n ∷ ns) end few b = let h = names-short (n ∷ ns) few b in simp length-append (omega arith)

-- ---- the lines, and the note

lines-short :
    (ps ss es : List ℕ) → length (about applied ps (text "\n")) ≤ 414 → length (about not_applied ss (text "\n")) ≤ 418
    → length (about not_applied es (text " (no pixel opcodes)\n")) ≤ 437 → length (lines ps ss es) ≤ 1024
unfolding lines
lines-short [] ss es p s a = omega arith
lines-short (n ∷ ns) ss es p s a = simp length-append (omega arith)

pub lines-bound : (s : List ℕ) → length (lines_of (items_of s)) ≤ 1024
lines-bound s =
    lines-short _ _ _ (part pixel applied (text "\n")) (part skipped not_applied (text "\n"))
    (part every not_applied (text " (no pixel opcodes)\n"))
  where
    part :
        (p : Class → Bool) (head end : List ℕ)
        → length (about head (names_of p (items_of s)) end) ≤ length head + 392 + length end
    part p head end = about-short head (names_of p (items_of s)) end (names-bound p s) (names-below p (items_of s))

pub malformed-bound : (s : List ℕ) {k : ℕ} {why : Refusal} → reading_of s ≡ Err (malformed k why) → length (malformed_after k) ≤ 1024
malformed-bound s {k} e =
    let h : k ≤ 4096 = omega (arith, (refused s e).0, items-bound s) in
    omega (arith, malformed-length k, decimal-short 3 k (omega arith))

note-on-bound : (s : List ℕ) (g : Reading) → reading_of s ≡ g → length (note_on g (items_of s)) ≤ 1024
unfolding note_on
note-on-bound s (Ok n) e = lines-bound s
note-on-bound s (Err m) e = malformed-bound s e

pub note-bound : (s : List ℕ) → length (note_of s) ≤ 1024
unfolding note_of
note-bound s = go (ltb 65535 (length s)) (note-on-bound s (reading_of s) refl)
  where
    go : (t : Bool) → length (note_on (reading_of s) (items_of s)) ≤ 1024 → length (cond t (text "too long\n") (note_on (reading_of s) (items_of s))) ≤ 1024
    go true h = omega arith
    go false h = h
