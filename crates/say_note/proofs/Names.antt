-- The text of the names, piece by piece. Assumes nothing.
use Prim.Native.Nat.{ℕ, suc, ◌+◌, ◌≤◌, ◌<◌}
use mathlib.Core.Path.{◌≡◌, refl, sym, ap, ◌∙◌}
use mathlib.Core.Bool.{Bool, true, false, cond}
use mathlib.Core.List.{List, [], ◌∷◌, ◌++◌, map, append_assoc, append-nil}
use native.Mathlib.Omega.{arith}
use native.Mathlib.Numerals.{add-one}
use borrow.Author.Tests.{eqb-true, eq-eqb, ne_eqb, lt-ltb, le-ltb, ltb-true, ltb-false}
use lib.Dec.{eqb, ltb}
use lib.ListN.{length, length-append, get_or, take, drop, drop_of_length-le}
use lib.Seq.{take-suc, drop-cons}
use Rattle.num_text.specs.Text.{text, decimal}
use Rattle.say_name.specs.Name.{name_text}
use Rattle.say_note.specs.Note.{occurs, item, firsts, behind, joined, names, about, malformed_after}
use Rattle.say_note.specs.Parts.{piece_at}

-- ---- a name and how often it occurs

module _ (ns : List ℕ) (x : ℕ) where
  pub name-in-item : length (name_text x) ≤ length (item ns x)
  unfolding item
  name-in-item = simp length-append (omega arith)

  module _ {m : ℕ} (e : m ≡ occurs x ns) where
    pub item-once : m ≤ 1 → name_text x ≡ item ns x
    unfolding item
    item-once h = let f : ltb 1 (occurs x ns) ≡ false = le-ltb 1 (occurs x ns) (omega (arith, e)) in simp f (sym (append-nil (name_text x)))

    pub item-times : 1 < m → name_text x ++ text " x" ++ decimal m ≡ item ns x
    unfolding item
    item-times h =
        let f : ltb 1 (occurs x ns) ≡ true = lt-ltb 1 (occurs x ns) (omega (arith, e)) in
        append_assoc (name_text x) (text " x") (decimal m) ∙ ap (λ (n : ℕ). name_text x ++ (text " x" ++ decimal n)) e ∙ simp f

    pub item-length : 1 < m → length (item ns x) ≡ length (name_text x) + 2 + length (decimal m)
    item-length h = ap length (sym (item-times h)) ∙ simp length-append

-- ---- what stands for the k-th name

module _ (ns : List ℕ) (k : ℕ) {again : Bool} (e : again ≡ ltb 0 (occurs (get_or ns k 0) (take k ns))) where
  pub piece-again : again ≡ true → [] ≡ piece_at ns k
  unfolding piece_at
  piece-again h =
      let n = occurs (get_or ns k 0) (take k ns) in
      let f : eqb n 0 ≡ false = ne_eqb n 0 (λ z. omega (arith, ltb-true 0 n (sym e ∙ h), z)) in simp f

  module _ (h : again ≡ false) where
    first : eqb (occurs (get_or ns k 0) (take k ns)) 0 ≡ true
    first = let n = occurs (get_or ns k 0) (take k ns) in eq-eqb n 0 (omega (arith, ltb-false 0 n (sym e ∙ h)))

    pub piece-first : k ≡ 0 → item ns (get_or ns k 0) ≡ piece_at ns k
    unfolding piece_at
    piece-first z = simp (first, eq-eqb k 0 z)

    pub piece-next : (k ≡ 0 → ⊥) → text ", " ++ item ns (get_or ns k 0) ≡ piece_at ns k
    unfolding piece_at
    piece-next z = simp (first, ne_eqb k 0 z)

    pub piece-length : (k ≡ 0 → ⊥) → length (piece_at ns k) ≡ 2 + length (item ns (get_or ns k 0))
    piece-length z = ap length (sym (piece-next z)) ∙ length-append (text ", ") (item ns (get_or ns k 0))

-- ---- the names piece by piece: what stands from the k-th name on

-- the first of them has no `, ` in front
unfoldable pub texts : (first : Bool) → List (List ℕ) → List ℕ
texts true ts = joined ts
texts false ts = behind ts

unfoldable pub from : List ℕ → ℕ → List ℕ
from ns k = texts (eqb k 0) (map (item ns) (firsts (take k ns) (drop k ns)))

by_first :
    (f : ℕ → List ℕ) (z t : Bool) (x : ℕ) (r : List ℕ) → (z ≡ true → t ≡ true)
    → texts z (map f (cond t (x ∷ []) [] ++ r)) ≡ cond t (cond z (f x) (text ", " ++ f x)) [] ++ behind (map f r)
unfolding texts joined behind
by_first f true true x r h = refl
by_first f true false x r h = absurd (let e : false ≡ true = h refl in let z : ◌≡◌ {A = ℕ} 0 1 = cc in omega arith)
by_first f false true x r h = refl
by_first f false false x r h = refl

module _ (ns : List ℕ) (k : ℕ) where
  first_more :
      k < length ns
      → firsts (take k ns) (drop k ns)
      ≡ cond (eqb (occurs (get_or ns k 0) (take k ns)) 0) (get_or ns k 0 ∷ []) [] ++ firsts (take (k + 1) ns) (drop (k + 1) ns)
  unfolding firsts
  first_more h =
      let x = get_or ns k 0 in
      let one = cond (eqb (occurs x (take k ns)) 0) (x ∷ []) [] in
      ap (firsts (take k ns)) (drop-cons ns k 0 h)
      ∙ ap (λ (l : List ℕ). one ++ firsts l (drop (suc k) ns)) (sym (take-suc ns k 0 h))
      ∙ ap (λ (n : ℕ). one ++ firsts (take n ns) (drop n ns)) (sym (add-one k))

  -- at the first name nothing was before
  none_before : eqb k 0 ≡ true → eqb (occurs (get_or ns k 0) (take k ns)) 0 ≡ true
  unfolding occurs
  none_before e = ap (λ (n : ℕ). eqb (occurs (get_or ns k 0) (take n ns)) 0) (eqb-true k 0 e)

  pub from_more : k < length ns → from ns k ≡ piece_at ns k ++ from ns (k + 1)
  unfolding from piece_at texts
  from_more h =
      let x = get_or ns k 0 in
      let r = firsts (take (k + 1) ns) (drop (k + 1) ns) in
      ap (λ (l : List ℕ). texts (eqb k 0) (map (item ns) l)) (first_more h)
      ∙ by_first (item ns) (eqb k 0) (eqb (occurs x (take k ns)) 0) x r none_before
      ∙ ap (λ (z : Bool). piece_at ns k ++ texts z (map (item ns) r)) (sym (ne_eqb (k + 1) 0 (λ e. omega arith)))

  no-texts : (z : Bool) → texts z [] ≡ []
  unfolding texts joined behind
  no-texts true = refl
  no-texts false = refl

  pub from_end : length ns ≤ k → from ns k ≡ []
  unfolding from firsts
  from_end h = ap (λ (l : List ℕ). texts (eqb k 0) (map (item ns) (firsts (take k ns) l))) (drop_of_length-le ns h) ∙ no-texts (eqb k 0)

pub from_start : (ns : List ℕ) → from ns 0 ≡ names ns
unfolding from names texts
from_start ns = refl

-- ---- a line

module _ (head : List ℕ) (ns : List ℕ) (end : List ℕ) where
  pub about-none : length ns ≡ 0 → [] ≡ about head ns end
  unfolding about
  about-none h = go ns h
    where
      go : (ns : List ℕ) → length ns ≡ 0 → [] ≡ about head ns end
      go [] h = refl
      go (n ∷ ns) h = absurd (omega arith)

  pub about-some : (length ns ≡ 0 → ⊥) → head ++ names ns ++ end ≡ about head ns end
  unfolding about
  about-some h = go ns h
    where
      go : (ns : List ℕ) → (length ns ≡ 0 → ⊥) → head ++ names ns ++ end ≡ about head ns end
      go [] h = absurd (h refl)
      go (n ∷ ns) h = refl

  pub about-length : (length ns ≡ 0 → ⊥) → length (about head ns end) ≡ length head + length (names ns) + length end
  about-length h = ap length (sym (about-some h)) ∙ simp length-append

pub malformed-length : (k : ℕ) → length (malformed_after k) ≡ 16 + length (decimal k) + 1
unfolding malformed_after
malformed-length k = simp length-append
