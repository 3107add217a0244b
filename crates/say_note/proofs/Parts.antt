-- What one opcode more means to the names of a part, and one name more to how often a name occurs. Assumes nothing.
use Prim.Native.Nat.{ℕ, ◌+◌, ◌≤◌}
use mathlib.Core.Path.{◌≡◌, refl, sym, ap, ◌∙◌}
use mathlib.Core.Bool.{Bool, true, false, cond}
use mathlib.Core.List.{List, [], ◌∷◌, ◌++◌}
use native.Mathlib.Omega.{arith}
use lib.Dec.{eqb}
use lib.ListN.{length}
use Rattle.num_text.specs.Appended.{Appended}
use Rattle.num_text.proofs.Laws.{appended-as, appended-none}
use Rattle.dng.specs.declared.Entry.{Entry}
use Rattle.dng.specs.declared.Opcode.{Opcode}
use Rattle.dng.specs.List.{Item}
use Rattle.dng.specs.declared.Class.{Class}
use Rattle.dng.specs.Run.{class_of, name_of, names_of}
use Rattle.std.specs.List.{count_by}
use Rattle.std.proofs.lemmas.List.Sums.{sum_by-cons}
use Rattle.say_note.specs.Note.{occurs}

-- ---- a name that is kept, or not

pub kept_in :
    {b o : List ℕ} {at r x y : ℕ} {t k : Bool} → t ≡ k → t ≡ true → y ≡ x → Appended b at (y ∷ []) r o
    → Appended b at (cond k (x ∷ []) []) r o
kept_in {x = x} {k = k} h t e a = appended-as (ap (λ (z : ℕ). z ∷ []) e ∙ ap (λ (q : Bool). cond q (x ∷ []) []) (sym t ∙ h)) a

pub kept_out :
    (b : List ℕ) (at x : ℕ) {t k : Bool} → t ≡ k → t ≡ false → Appended b at (cond k (x ∷ []) []) at b
kept_out b at x h t = appended-as (ap (λ (q : Bool). cond q (x ∷ []) []) (sym t ∙ h)) (appended-none b at)

pub one_name : (k : Bool) (x : ℕ) → length (cond k (x ∷ []) []) ≤ 1
one_name true x = omega arith
one_name false x = omega arith

-- ---- the names of the items from one on

by : (k : Bool) (x : ℕ) (r : List ℕ) → cond k (x ∷ r) r ≡ cond k (x ∷ []) [] ++ r
by true x r = refl
by false x r = refl

pub names_more :
    (p : Class → Bool) {e : Entry} {op : Opcode} {is rest : List Item} → is ≡ record { entry = e; op = op } ∷ rest
    → names_of p is ≡ cond (p (class_of op)) (name_of op ∷ []) [] ++ names_of p rest
unfolding names_of
names_more p {op = op} {rest = rest} h = ap (names_of p) h ∙ by (p (class_of op)) (name_of op) (names_of p rest)

pub names-none : (p : Class → Bool) {is : List Item} → is ≡ [] → names_of p is ≡ []
unfolding names_of
names-none p h = ap (names_of p) h

-- ---- how often a name occurs

pub occurs-append : (x : ℕ) (l m : List ℕ) → occurs x (l ++ m) ≡ occurs x l + occurs x m
unfolding occurs
occurs-append x [] m = omega arith
occurs-append x (n ∷ l) m = let h = occurs-append x l m in omega arith

-- in the library's word
pub occurs-count : (x : ℕ) (ns : List ℕ) → occurs x ns ≡ count_by (λ n. eqb n x) ns
unfolding occurs
occurs-count x [] = refl
occurs-count x (n ∷ ns) =
    ap (λ (k : ℕ). cond (eqb n x) 1 0 + k) (occurs-count x ns) ∙ sym (sum_by-cons (λ (m : ℕ). cond (eqb m x) 1 0) n ns)
