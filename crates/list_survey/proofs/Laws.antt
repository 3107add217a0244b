-- What the pass over a list has counted is what the definitions say of its entries: fact by fact over any entries, and at each way out.
-- Assumes nothing.
use Prim.Native.Nat.{ℕ, ◌+◌, ◌≤◌}
use mathlib.Core.Path.{◌≡◌, refl, sym, ap, ap₂, ◌∙◌}
use mathlib.Core.Bool.{Bool, true, false, not, ◌&&◌, ◌||◌, cond}
use mathlib.Core.List.{List, [], ◌∷◌}
use native.Mathlib.Omega.{arith}
use lib.ListN.{length}
use Rattle.dng.specs.declared.Entry.{Entry}
use Rattle.dng.specs.declared.Opcode.{Opcode}
use Rattle.dng.specs.declared.Refusal.{Refusal}
use Rattle.std.specs.Prelude.{Result, Ok, Err}
use Rattle.dng.specs.List.{Item, preview_of, read_from, items_of, malformed, Reading}
use Rattle.dng.specs.declared.Class.{Class}
use Rattle.dng.specs.declared.Class.TheVariants.{Table, Empty, Local, Repair, Unapplied}
use Rattle.dng.specs.Run.{drops, kept_of, kept_in, class_of, name_of, skipped, skipped16, takes16_on, takes16_from, row_takes, takes_rows, names_of}
use Rattle.list_classes.specs.declared.Facts.{Facts}
use Rattle.list_classes.specs.Classes.{is_local, is_repair, facts_of}
use Rattle.list_read.specs.Count.{entries_of, reading_from}
use Rattle.list_read.proofs.Fold.{start, items-start, read-bound, count-bound, refused}
use Rattle.list_read.proofs.Laws.{count-is, reading-is, reading-none}
use Rattle.list_survey.specs.declared.Surveyed.{Surveyed}
use Rattle.list_survey.specs.declared.Tally.{Tally}
use Rattle.list_survey.specs.Survey.{begun, turn_on, survey_on, survey_from, survey_of, surveyed_by}

-- one turn, from what was asked of the opcode
pub turned :
    (t : Tally) (k : Class) {f : Facts} {a b : ℕ} → f ≡ facts_of k → a ≡ cond f.skipped 1 0 → b ≡ cond f.skipped16 1 0
    → record {
      free = t.free && not f.repair;
      takes16 = t.takes16 && (not f.local && (t.free || not f.repair));
      takes_rows = t.takes_rows && f.by_row;
      skips = t.skips + a;
      skips16 = t.skips16 + b;
    } ≡ turn_on (facts_of k) t
unfolding turn_on
turned t k e p q = simp (p, q) (ap (λ (g : Facts). turn_on g t) e)

-- ---- the turns one after another

unfoldable pub tally_from : Tally → List Item → Tally
tally_from t [] = t
tally_from t (i ∷ is) = tally_from (turn_on (facts_of (class_of i.op)) t) is

one : (k : Bool) (x : ℕ) (r : List ℕ) (m : ℕ) → m + cond k 1 0 + length r ≡ m + length (cond k (x ∷ r) r)
one true x r m = omega arith
one false x r m = omega arith

pub skips-all : (t : Tally) (is : List Item) → (tally_from t is).skips ≡ t.skips + length (names_of skipped is)
unfolding tally_from turn_on names_of
skips-all t [] = omega arith
skips-all t (i ∷ is) =
    skips-all (turn_on (facts_of (class_of i.op)) t) is ∙ one (skipped (class_of i.op)) (name_of i.op) (names_of skipped is) t.skips

pub skips16-all : (t : Tally) (is : List Item) → (tally_from t is).skips16 ≡ t.skips16 + length (names_of skipped16 is)
unfolding tally_from turn_on names_of
skips16-all t [] = omega arith
skips16-all t (i ∷ is) =
    skips16-all (turn_on (facts_of (class_of i.op)) t) is
    ∙ one (skipped16 (class_of i.op)) (name_of i.op) (names_of skipped16 is) t.skips16

and-true : (a : Bool) → a ≡ (a && true)
and-true true = refl
and-true false = refl

and-and : (a b c : Bool) → ((a && b) && c) ≡ (a && (b && c))
and-and true b c = refl
and-and false b c = refl

pub rows_all : (t : Tally) (is : List Item) → (tally_from t is).takes_rows ≡ (t.takes_rows && takes_rows is)
unfolding tally_from turn_on takes_rows
rows_all t [] = and-true t.takes_rows
rows_all t (i ∷ is) =
    rows_all (turn_on (facts_of (class_of i.op)) t) is ∙ and-and t.takes_rows (row_takes (class_of i.op)) (takes_rows is)

-- one opcode's part in what the whole-number form takes
on16 :
    (k : Class) (w free : Bool) (rest : Bool → Bool)
    → ((w && (not (is_local k) && (free || not (is_repair k)))) && rest (free && not (is_repair k))) ≡ (w && takes16_on k free rest)
unfolding takes16_on
on16 Table true true rest = refl
on16 Table true false rest = refl
on16 Empty true true rest = refl
on16 Empty true false rest = refl
on16 Local true free rest = refl
on16 Repair true true rest = refl
on16 Repair true false rest = refl
on16 Unapplied true true rest = refl
on16 Unapplied true false rest = refl
on16 k false free rest = refl

pub takes_all : (t : Tally) (is : List Item) → (tally_from t is).takes16 ≡ (t.takes16 && takes16_from t.free is)
unfolding tally_from turn_on takes16_from
takes_all t [] = and-true t.takes16
takes_all t (i ∷ is) =
    takes_all (turn_on (facts_of (class_of i.op)) t) is
    ∙ on16 (class_of i.op) t.takes16 t.free (λ (f : Bool). takes16_from f is)

-- ---- the loop: one entry more, no entry more, and that no count wraps

-- an entry is dropped, or it is the first of those that are left
one_kept :
    (d : Bool) (t : Tally) (i : Item) (rest : List Item)
    → tally_from (cond d t (turn_on (facts_of (class_of i.op)) t)) rest ≡ tally_from t (cond d rest (i ∷ rest))
unfolding tally_from
one_kept true t i rest = refl
one_kept false t i rest = refl

pub more :
    (preview : Bool) (t : Tally) {u : Tally} {is rest : List Item} {e : Entry} {op : Opcode} {d : Bool} → is ≡ record { entry = e; op = op } ∷ rest
    → d ≡ (preview && preview_of e) → u ≡ cond d t (turn_on (facts_of (class_of op)) t)
    → tally_from u (kept_of preview rest) ≡ tally_from t (kept_of preview is)
unfolding kept_of
more preview t {rest = rest} {e = e} {op} p h q =
    ap (λ (v : Tally). tally_from v (kept_of preview rest)) (q ∙ ap (λ (d : Bool). cond d t (turn_on (facts_of (class_of op)) t)) h)
    ∙ one_kept (preview && preview_of e) t (record { entry = e; op = op }) (kept_of preview rest)
    ∙ sym (ap (λ (l : List Item). tally_from t (kept_of preview l)) p)

pub no_more : (preview : Bool) (t : Tally) {is : List Item} → is ≡ [] → t ≡ tally_from t (kept_of preview is)
unfolding tally_from kept_of
no_more preview t p = sym (ap (λ (l : List Item). tally_from t (kept_of preview l)) p)

kept-bound : (preview : Bool) (is : List Item) → length (kept_of preview is) ≤ length is
unfolding kept_of
kept-bound preview [] = omega arith
kept-bound preview (i ∷ is) = go (drops preview i) (kept-bound preview is)
  where
    go : (b : Bool) → length (kept_of preview is) ≤ length is → length (cond b (kept_of preview is) (i ∷ kept_of preview is)) ≤ length (i ∷ is)
    go true h = omega arith
    go false h = omega arith

names-bound : (skip : Class → Bool) (is : List Item) → length (names_of skip is) ≤ length is
unfolding names_of
names-bound skip [] = omega arith
names-bound skip (i ∷ is) = go (skip (class_of i.op)) (names-bound skip is)
  where
    go : (b : Bool) → length (names_of skip is) ≤ length is → length (cond b (name_of i.op ∷ names_of skip is) (names_of skip is)) ≤ length (i ∷ is)
    go true h = omega arith
    go false h = omega arith

pub small :
    (preview : Bool) (s : List ℕ) (n : ℕ) (t : Tally) (is : List Item) → n ≤ 4096
    → tally_from t is ≡ tally_from begun (kept_of preview (read_from s n start)) → (t.skips ≤ 4096) × (t.skips16 ≤ 4096)
small preview s n t is h e =
    let all = kept_of preview (read_from s n start) in
    let few = kept-bound preview (read_from s n start) in
    let a = ap (λ (u : Tally). u.skips) e ∙ skips-all begun all in
    let b = ap (λ (u : Tally). u.skips16) e ∙ skips16-all begun all in (
      omega (arith, a, skips-all t is, names-bound skipped all, few, read-bound s n start),
      omega (arith, b, skips16-all t is, names-bound skipped16 all, few, read-bound s n start),
    )

-- ---- the ways out

zero-plus : (n : ℕ) → 0 + n ≡ n
zero-plus n = omega arith

found :
    (m : ℕ) (is : List Item) (t : Tally) {v : Surveyed} {r : Reading} {n : ℕ} → v ≡ surveyed_by r n t → n ≡ m → t ≡ tally_from begun is
    → v ≡ record { reading = r; survey = survey_on m is }
unfolding survey_on
found m is t {r = r} {n = n} h q e =
    h
    ∙ ap (λ (u : Tally). surveyed_by r n u) e
    ∙ simp (
      q,
      takes_all begun is,
      rows_all begun is,
      skips-all begun is ∙ zero-plus _,
      skips16-all begun is ∙ zero-plus _,
    )

pub known :
    (preview : Bool) (s : List ℕ) (n : ℕ) (t : Tally) {v : Surveyed} {r : Reading} {m : ℕ} → v ≡ surveyed_by r m t → r ≡ reading_from s n
    → m ≡ length (read_from s n start) → t ≡ tally_from begun (kept_of preview (read_from s n start)) → v ≡ survey_from preview s n
unfolding survey_from
known preview s n t h p q e =
    found (length (read_from s n start)) (kept_of preview (read_from s n start)) t h q e
    ∙ ap (λ (r : Reading). record { reading = r; survey = survey_on (length (read_from s n start)) (kept_of preview (read_from s n start)) }) p

empty-list : (is : List Item) → length is ≡ 0 → is ≡ []
empty-list [] h = refl
empty-list (i ∷ is) h = absurd (omega (arith, h))

pub few : (s : List ℕ) {x : Result ℕ Refusal} {n : ℕ} → x ≡ entries_of s → x ≡ Ok n → n ≤ 4096
few s e f = omega (arith, count-is s e f, count-bound s)

module _ (preview : Bool) (s : List ℕ) {x : Result ℕ Refusal} (e : x ≡ entries_of s) where
  pub none :
      {why : Refusal} {t : Tally} {v : Surveyed} → x ≡ Err why → t ≡ begun → v ≡ surveyed_by (Err (malformed 0 why)) 0 t
      → v ≡ survey_of preview s
  unfolding survey_of
  none f b h =
      let bad = reading-none s e f in
      let z = (refused s (sym bad)).0 in
      found (length (items_of s)) (kept_in preview s) _ h (sym z) (b ∙ no_more preview begun (empty-list (items_of s) z))
      ∙ ap (λ (r : Reading). record { reading = r; survey = survey_on (length (items_of s)) (kept_in preview s) }) bad

  module _ {n : ℕ} (f : x ≡ Ok n) where
    pub all : survey_from preview s n ≡ survey_of preview s
    unfolding survey_from survey_of
    all =
        ap₂ (λ (r : Reading) (is : List Item). record { reading = r; survey = survey_on (length is) (kept_of preview is) }) (reading-is s e f)
        (ap (λ (m : ℕ). read_from s m start) (count-is s e f) ∙ sym (items-start s))
