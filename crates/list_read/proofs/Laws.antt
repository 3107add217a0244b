-- The cases of a step, of the count and of a reading: one law for each way in which they return. Assumes nothing.
use mathlib.Core.Path.{◌≡◌, refl, sym, ap, subst, ◌∙◌}
use mathlib.Core.Bool.{Bool, true, false, ◌&&◌, cond}
use mathlib.Core.List.{List, []}
use Prim.Native.Nat.{ℕ, ◌≤◌, ◌<◌}
use native.Mathlib.Omega.{arith}
use borrow.Author.Tests.{le-leb, lt-leb, eq-eqb, ne_eqb}
use lib.Dec.{leb, eqb}
use lib.ListN.{length}
use Rattle.std.specs.Prelude.{Result, Ok, Err}
use Rattle.std.specs.Result.{result_unwrap_or}
use Rattle.num_words.specs.Words.{word_in}
use Rattle.num_words.specs.declared.Cut.{Cut}
use Rattle.num_words.proofs.Laws.{is_word, cut_word}
use Rattle.dng.specs.declared.Cursor.{Cursor}
use Rattle.dng.specs.declared.Opcode.{Opcode}
use Rattle.dng.specs.declared.Reason.TheVariants as Why
use Rattle.dng.specs.declared.Refusal.{Refusal}
use Rattle.dng.specs.declared.Found.{Found}
use Rattle.dng.specs.List.{u32_at, refusal, next_at, parsed_at, step_on, step_of, step_at, read_from, counted, items_of, why_from, why_of, malformed, reading_of}
use Rattle.list_read.specs.Count.{entries_of, count_of, reading_from}
use Rattle.list_read.proofs.Fold.{start}

-- ---- a step, from what was found and read

module _ (s : List ℕ) (c : Cursor) {n : Result Found Refusal} (h : n ≡ next_at s c) where
  pub step_cut : {why : Refusal} → n ≡ Err why → Err why ≡ step_at s c
  unfolding step_at
  step_cut e = sym (ap (step_of s) (sym h ∙ e))

  module _ {f : Found} (g : n ≡ Ok f) {p : Result Opcode Refusal} (i : p ≡ parsed_at s f.entry.id f.entry.at f.entry.len) where
    pub step-item : {op : Opcode} → p ≡ Ok op → Ok (record { entry = f.entry; op = op; next = f.next }) ≡ step_at s c
    unfolding step_at
    step-item q = sym (ap (step_of s) (sym h ∙ g) ∙ ap (step_on f) (sym i ∙ q))

    pub step-body : {why : Refusal} → p ≡ Err why → Err why ≡ step_at s c
    unfolding step_at
    step-body q = sym (ap (step_of s) (sym h ∙ g) ∙ ap (step_on f) (sym i ∙ q))

-- ---- the count, from the word that was read

module _ (s : List ℕ) {x : Result ℕ Cut} (e : x ≡ word_in s 0 (length s)) where
  pub count_cut : {d : Cut} → x ≡ Err d → Err (refusal Why.Ends 0) ≡ entries_of s
  unfolding entries_of
  count_cut q = let w = cut_word s 0 e q in simp (lt-leb _ _ w.0)

  module _ {v : ℕ} (q : x ≡ Ok v) where
    pub count-over : 4096 < v → Err (refusal Why.TooMany 0) ≡ entries_of s
    unfolding entries_of
    count-over h = let w = is_word s 0 e q in simp (le-leb _ _ w.0, sym w.1, lt-leb _ _ h)

    pub count_kept : v ≤ 4096 → Ok v ≡ entries_of s
    unfolding entries_of
    count_kept h = let w = is_word s 0 e q in simp (le-leb _ _ w.0, sym w.1, le-leb _ _ h)

-- ---- a reading, from the count

module _ (s : List ℕ) {x : Result ℕ Refusal} (e : x ≡ entries_of s) where
  pub or-none : result_unwrap_or x 0 ≡ count_of s
  unfolding entries_of count_of counted
  or-none = ap (λ (y : Result ℕ Refusal). result_unwrap_or y 0) e ∙ go (leb 4 (length s)) (leb (u32_at s 0) 4096)
    where
      go :
          (a b : Bool)
          → result_unwrap_or (cond a (cond b (Ok (u32_at s 0)) (Err (refusal Why.TooMany 0))) (Err (refusal Why.Ends 0))) 0
          ≡ cond (a && b) (u32_at s 0) 0
      go true true = refl
      go true false = refl
      go false b = refl

  module _ {n : ℕ} (f : x ≡ Ok n) where
    are :
        (P : Bool → Bool → Type 0) → (n ≡ u32_at s 0 → P true true) → P (leb 4 (length s)) (leb (u32_at s 0) 4096)
    unfolding entries_of
    are P h = go (leb 4 (length s)) (leb (u32_at s 0) 4096) (sym e ∙ f)
      where
        go :
            (a b : Bool)
            → cond a (cond b (Ok (u32_at s 0)) (Err (refusal Why.TooMany 0))) (Err (refusal Why.Ends 0)) ≡ Ok n → P a b
        go true true q = h cc
        go true false q = absurd (let z : ◌≡◌ {A = ℕ} 0 1 = cc in omega arith)
        go false b q = absurd (let z : ◌≡◌ {A = ℕ} 0 1 = cc in omega arith)

    pub count-is : n ≡ count_of s
    unfolding count_of counted
    count-is = are (λ (a b : Bool). n ≡ cond (a && b) (u32_at s 0) 0) (λ h. h)

    pub reading-is : reading_from s n ≡ reading_of s
    unfolding reading_from reading_of counted items_of why_of
    reading-is =
        are
        (λ (a b : Bool).
        let l = length (cond (a && b) (read_from s (u32_at s 0) start) []) in
        reading_from s n
        ≡ cond ((a && b) && eqb l (u32_at s 0)) (Ok (u32_at s 0))
        (Err (malformed l (cond a (cond b (why_from s (u32_at s 0) start) (refusal Why.TooMany 0)) (refusal Why.Ends 0)))))
        (λ h. rw h)

  module _ {why : Refusal} (f : x ≡ Err why) where
    none :
        (P : Bool → Bool → Refusal → Type 0) → P true false (refusal Why.TooMany 0) → ((b : Bool) → P false b (refusal Why.Ends 0))
        → P (leb 4 (length s)) (leb (u32_at s 0) 4096) why
    unfolding entries_of
    none P h i = go (leb 4 (length s)) (leb (u32_at s 0) 4096) (sym e ∙ f)
      where
        go :
            (a b : Bool)
            → cond a (cond b (Ok (u32_at s 0)) (Err (refusal Why.TooMany 0))) (Err (refusal Why.Ends 0)) ≡ Err why
            → P a b why
        go true true q = absurd (let z : ◌≡◌ {A = ℕ} 0 1 = cc in omega arith)
        go true false q = subst (λ (w : Refusal). P true false w) (cc) h
        go false b q = subst (λ (w : Refusal). P false b w) (cc) (i b)

    pub reading-none : Err (malformed 0 why) ≡ reading_of s
    unfolding reading_of counted items_of why_of
    reading-none =
        none
        (λ (a b : Bool) (w : Refusal).
        let l = length (cond (a && b) (read_from s (u32_at s 0) start) []) in
        Err (malformed 0 w)
        ≡ cond ((a && b) && eqb l (u32_at s 0)) (Ok (u32_at s 0))
        (Err (malformed l (cond a (cond b (why_from s (u32_at s 0) start) (refusal Why.TooMany 0)) (refusal Why.Ends 0)))))
        refl (λ b. refl)

-- ---- a reading, from how many entries were read

ne : (k n : ℕ) → k < n → k ≡ n → ⊥
ne k n l e = omega arith

module _ (s : List ℕ) (n : ℕ) where
  pub reading-stop :
      {k : ℕ} {why : Refusal} → k ≡ length (read_from s n start) → k < n → why_from s n start ≡ why → Err (malformed k why) ≡ reading_from s n
  unfolding reading_from
  reading-stop {k} h l w =
      let f : eqb (length (read_from s n start)) n ≡ false = ne_eqb _ _ (λ q. ne k n l (h ∙ q)) in
      simp (f, h, w)

  pub reading-whole : n ≡ length (read_from s n start) → Ok n ≡ reading_from s n
  unfolding reading_from
  reading-whole h =
      let f : eqb (length (read_from s n start)) n ≡ true = eq-eqb _ _ (sym h) in
      simp f
