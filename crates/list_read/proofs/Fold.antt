-- The fold over the entries of a list, as a loop over k < n with a cursor takes it: what is left to read from the cursor on is one item and the
-- rest, or nothing. A loop keeps `F (read_from s (n - k) c)` for its own function F of a list of items, and `ap F` of these laws is its turn.
-- Assumes nothing.
use mathlib.Core.Path.{◌≡◌, refl, sym, ap, ◌∙◌}
use mathlib.Core.Bool.{Bool, true, false, ◌&&◌, cond}
use mathlib.Core.List.{List, [], ◌∷◌}
use Prim.Native.Nat.{ℕ, zero, suc, ◌+◌, ◌-◌, ◌≤◌, ◌<◌, zero-le, suc-le-suc}
use native.Mathlib.Nat.{le_trans}
use native.Mathlib.Omega.{arith}
use borrow.Author.Tests.{eqb-true, leb-true}
use lib.Dec.{leb, eqb}
use lib.ListN.{length}
use Rattle.dng.specs.declared.Cursor.{Cursor}
use Rattle.dng.specs.declared.Refusal.{Refusal}
use Rattle.dng.specs.declared.Step.{Step}
use Rattle.dng.specs.declared.Malformed.{Malformed}
use Rattle.std.specs.Prelude.{Result, Ok, Err}
use Rattle.dng.specs.List.{Item, item_of, u32_at, step_at, read_on, read_from, counted, items_of, why_from, why_of, malformed, reading_of}
use Rattle.list_read.specs.Count.{count_of}

abbrev pub All : (Item → Type 0) → List Item → Type 0
All p [] = Unit
All p (i ∷ is) = p i × All p is

-- where a loop starts
abbrev pub start : Cursor
start = record { at = 4 }

-- before the first turn
pub none_yet : (n : ℕ) → n - 0 ≡ n
none_yet n = omega arith

module _ (s : List ℕ) where
  pub items-start : items_of s ≡ read_from s (count_of s) start
  unfolding items_of count_of read_from
  items-start = go (counted s)
    where
      go : (b : Bool) → cond b (read_from s (u32_at s 0) start) [] ≡ read_from s (cond b (u32_at s 0) 0) start
      go true = refl
      go false = refl

  -- before the first turn, of as many as were counted
  pub begin : {n : ℕ} → n ≡ count_of s → read_from s (n - 0) start ≡ items_of s
  begin {n} e = ap (λ (m : ℕ). read_from s m start) (none_yet n ∙ e) ∙ sym items-start

  module _ (n k : ℕ) (c : Cursor) where
    -- one entry more
    pub item :
        {r : Result Step Refusal} {i : Step} → k < n → r ≡ step_at s c → r ≡ Ok i
        → read_from s (n - k) c ≡ item_of i ∷ read_from s (n - (k + 1)) i.next
    unfolding read_from
    item h p q = let m : n - k ≡ suc (n - (k + 1)) = omega arith in simp (m, sym p ∙ q)

    -- a malformed entry
    pub stop : {r : Result Step Refusal} {why : Refusal} → k < n → r ≡ step_at s c → r ≡ Err why → read_from s (n - k) c ≡ []
    unfolding read_from
    stop h p q = let m : n - k ≡ suc (n - (k + 1)) = omega arith in simp (m, sym p ∙ q)

    -- no entry is left
    pub end : n ≤ k → read_from s (n - k) c ≡ []
    unfolding read_from
    end h = let m : n - k ≡ 0 = omega arith in simp m

    -- why the first malformed entry is refused: another entry's, or this one's
    pub why-item :
        {r : Result Step Refusal} {i : Step} → k < n → r ≡ step_at s c → r ≡ Ok i
        → why_from s (n - k) c ≡ why_from s (n - (k + 1)) i.next
    unfolding why_from
    why-item h p q = let m : n - k ≡ suc (n - (k + 1)) = omega arith in simp (m, sym p ∙ q)

    pub why-stop : {r : Result Step Refusal} {why : Refusal} → k < n → r ≡ step_at s c → r ≡ Err why → why_from s (n - k) c ≡ why
    unfolding why_from
    why-stop h p q = let m : n - k ≡ suc (n - (k + 1)) = omega arith in simp (m, sym p ∙ q)

    -- How many were read stays the same total; so in an accepted list, where it is n, no step before the n-th is malformed.
    pub total :
        (t : ℕ) {r : Result Step Refusal} {i : Step} → k < n → r ≡ step_at s c → r ≡ Ok i
        → k + length (read_from s (n - k) c) ≡ t → k + 1 + length (read_from s (n - (k + 1)) i.next) ≡ t
    total t h p q l = omega (arith, ap length (item h p q))

    pub never :
        {r : Result Step Refusal} {why : Refusal} → k < n → r ≡ step_at s c → r ≡ Err why → k + length (read_from s (n - k) c) ≡ n → ⊥
    never h p q l = omega (arith, ap length (stop h p q))

  -- ---- at most 4,096 turns, and no more items than turns

  pub count-bound : count_of s ≤ 4096
  unfolding count_of counted
  count-bound = go (leb 4 (length s)) (leb (u32_at s 0) 4096) (λ h. leb-true _ _ h)
    where
      go : (a b : Bool) → (b ≡ true → u32_at s 0 ≤ 4096) → cond (a && b) (u32_at s 0) 0 ≤ 4096
      go true true h = h refl
      go true false h = zero-le
      go false b h = zero-le

  read-on-bound :
      (n : ℕ) (rest : Cursor → List Item) → ((next : Cursor) → length (rest next) ≤ n) → (r : Result Step Refusal) → length (read_on rest r) ≤ suc n
  read-on-bound n rest h (Ok i) = suc-le-suc (h i.next)
  read-on-bound n rest h (Err why) = zero-le

  pub read-bound : (n : ℕ) (c : Cursor) → length (read_from s n c) ≤ n
  unfolding read_from
  read-bound zero c = zero-le
  read-bound (suc n) c = read-on-bound n (λ (next : Cursor). read_from s n next) (λ next. read-bound n next) (step_at s c)

  pub items-bound : length (items_of s) ≤ 4096
  items-bound = rw items-start (le_trans (read-bound (count_of s) start) count-bound)

  -- ---- what holds of every item that a step returns holds of every item of the list

  module _ (p : Item → Type 0)
      (step : (c : Cursor) (i : Step) → step_at s c ≡ Ok i → p (item_of i)) where
    every-on :
        (c : Cursor) (rest : Cursor → List Item) → ((next : Cursor) → All p (rest next)) → (r : Result Step Refusal) → step_at s c ≡ r
        → All p (read_on rest r)
    every-on c rest h (Ok i) q = (step c i q, h i.next)
    every-on c rest h (Err why) q = tt

    pub every : (n : ℕ) (c : Cursor) → All p (read_from s n c)
    unfolding read_from
    every zero c = tt
    every (suc n) c = every-on c (λ (next : Cursor). read_from s n next) (λ next. every n next) (step_at s c) refl

    pub every-item : All p (items_of s)
    every-item = rw items-start (every (count_of s) start)

-- ---- how many items an accepted list has, and a refused one

whole-if :
    (a : Bool) (l m : ℕ) (why : Refusal) {n : ℕ} → cond (a && eqb l m) (Ok m) (Err (malformed l why)) ≡ Ok n
    → (l ≡ n) × (n ≡ cond a m 0)
whole-if true l m why e = go (eqb l m) refl e
  where
    go : (b : Bool) → eqb l m ≡ b → {n : ℕ} → cond b (Ok m) (Err (malformed l why)) ≡ Ok n → (l ≡ n) × (n ≡ m)
    go true h e = let p : l ≡ m = eqb-true l m h in (cc, cc)
    go false h e = (cc, cc)
whole-if false l m why e = (cc, cc)

-- as many as its count says
pub accepted : (s : List ℕ) {n : ℕ} → reading_of s ≡ Ok n → (length (items_of s) ≡ n) × (n ≡ count_of s)
unfolding reading_of count_of
accepted s e = whole-if (counted s) (length (items_of s)) (u32_at s 0) (why_of s) e

-- as many as the answer says, and the reason of the first that could not be read
pub refused : (s : List ℕ) {k : ℕ} {why : Refusal} → reading_of s ≡ Err (malformed k why) → (length (items_of s) ≡ k) × (why_of s ≡ why)
unfolding reading_of
refused s {k} {why} e = go (counted s && eqb (length (items_of s)) (u32_at s 0)) e
  where
    go :
        (b : Bool) → cond b (Ok (u32_at s 0)) (Err (malformed (length (items_of s)) (why_of s))) ≡ Err (malformed k why)
        → (length (items_of s) ≡ k) × (why_of s ≡ why)
    go true e = absurd (let z : ◌≡◌ {A = ℕ} 0 1 = cc in omega arith)
    go false e =
        let m : malformed (length (items_of s)) (why_of s) ≡ malformed k why = cc in (
          ap (λ (x : Malformed). x.after) m,
          ap (λ (x : Malformed). x.why) m,
        )
