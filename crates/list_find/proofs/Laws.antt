-- The cases of the walk: one law for each way in which its functions return or go on. Assumes nothing.
use Prim.Native.Nat.{ℕ, zero, suc, ◌+◌, ◌-◌, ◌*◌, ◌≤◌, ◌<◌}
use mathlib.Core.Path.{◌≡◌, refl, sym, ap, ◌∙◌}
use mathlib.Core.Bool.{Bool, true, false, cond}
use mathlib.Core.List.{List}
use native.Mathlib.Omega.{arith}
use native.Mathlib.Nat.{zero-add, add-zero, suc-add, mul-zero, sub-zero}
use native.Mathlib.Numerals.{add-one}
use borrow.Author.Tests.{le-leb, lt-leb, leb-true, eq-eqb, ne_eqb}
use lib.Dec.{leb}
use lib.ListN.{get_or}
use Rattle.num_words.specs.Words.{big, little}
use Rattle.num_zeros.specs.Zeros.{Zeros}
use Rattle.num_zeros.proofs.Laws.{zeros-part, big-zero, little-zero}
use Rattle.std.specs.declared.ops.ControlFlow.TheVariants.{Break, Continue}
use Rattle.std.specs.Prelude.{Err}
use Rattle.list_find.specs.declared.FindError.TheVariants.{Outside, TooMany}
use Rattle.list_find.specs.Walk.{Found, Looked, At, File, u32, size, entries_in, whole, value_at, inside, count_at, list_at, is_list, after, own_from, visit, sub_of, subs_from, subs_at, any_subs, is_subs, all_subs}
use Rattle.list_find.specs.Skips.{Skipped}

-- four bytes are two and two
pub halves : (s : List ℕ) (at : ℕ) → little 2 s at + little 2 s (at + 2) * 65536 ≡ little 4 s at
unfolding little
halves s at =
    let a : get_or s (at + 2 + 0) 0 ≡ get_or s (at + 2) 0 = ap (λ (k : ℕ). get_or s k 0) (omega arith) in
    let b : get_or s (at + 2 + 1) 0 ≡ get_or s (at + 3) 0 = ap (λ (k : ℕ). get_or s k 0) (omega arith) in
    omega (arith, a, b)

-- ---- inside the file

pub whole_is : (f : File) (at : ℕ) {n : ℕ} {b : Bool} → n ≡ entries_in f at → b ≡ leb (at + (n * 12 + 6)) (size f) → b ≡ whole f at
unfolding whole
whole_is f at {n} e h = h ∙ ap (λ (m : ℕ). leb m (size f)) (omega (arith, e))

-- ---- an entry

module _ (f : File) (e : ℕ) {n at : ℕ} {b : Bool} (i : n ≡ count_at f e) (j : at ≡ value_at f e n) (h : b ≡ leb (at + n) (size f)) where
  pub list-outside : b ≡ false → Err Outside ≡ list_at f e
  unfolding list_at inside
  list-outside t = simp (sym i, sym j, sym h ∙ t)

  pub list_inside : b ≡ true → At at n ≡ list_at f e
  unfolding list_at inside
  list_inside t = simp (sym i, sym j, sym h ∙ t)

-- ---- the own entries of a directory: at the list, at another entry, and past the last

-- the entry behind entry i
behind : (e i : ℕ) → e + 12 * i + 12 ≡ e + 12 * (i + 1)
behind e i = omega arith

module _ (f : File) (tag n k e i : ℕ) {b : Bool} (h : i < n) (r : b ≡ is_list f tag (e + 12 * i)) where
  pub own-here : b ≡ true → own_from f tag (n - i) (e + 12 * i) k ≡ Break (list_at f (e + 12 * i))
  unfolding own_from
  own-here t = let m : n - i ≡ suc (n - (i + 1)) = omega arith in simp (m, sym r ∙ t)

  pub own_on : b ≡ false → own_from f tag (n - i) (e + 12 * i) k ≡ own_from f tag (n - (i + 1)) (e + 12 * (i + 1)) k
  unfolding own_from
  own_on t =
      let m : n - i ≡ suc (n - (i + 1)) = omega arith in
      simp (m, sym r ∙ t) (ap (λ (a : ℕ). own_from f tag (n - (i + 1)) a k) (behind e i))

pub own-end : (f : File) (tag n k e i : ℕ) → n ≤ i → own_from f tag (n - i) e k ≡ Continue k
unfolding own_from
own-end f tag n k e i h = let m : n - i ≡ 0 = omega arith in simp m

pub own-begin : (f : File) (tag n e k : ℕ) → own_from f tag (n - 0) (e + 12 * 0) k ≡ own_from f tag n e k
own-begin f tag n e k = simp (sub-zero, mul-zero, add-zero)

-- ---- going to a directory

pub whole_room : (f : File) (at : ℕ) → whole f at ≡ true → at + 2 + 12 * entries_in f at + 4 ≤ size f
unfolding whole
whole_room f at h = leb-true _ _ h

-- of a directory that was found to be whole, with n entries
pub room : (f : File) (at : ℕ) {b : Bool} {n : ℕ} → b ≡ whole f at → b ≡ true → n ≡ entries_in f at → at + 2 + 12 * n + 4 ≤ size f
room f at h t e = omega (arith, whole_room f at (sym h ∙ t), e)

module _ (f : File) (tag at k : ℕ) where
  pub visit-many : 64 ≤ k → Break (Err TooMany) ≡ visit f tag at k
  unfolding visit
  visit-many h = simp (le-leb 64 k h)

  module _ (h : k < 64) {b : Bool} (w : b ≡ whole f at) where
    pub visit-outside : b ≡ false → Break (Err Outside) ≡ visit f tag at k
    unfolding visit
    visit-outside t = simp (lt-leb 64 k h, sym w ∙ t)

    pub visit-own : b ≡ true → {n : ℕ} {r : Looked} → n ≡ entries_in f at → r ≡ own_from f tag n (at + 2) (k + 1) → r ≡ visit f tag at k
    unfolding visit
    visit-own t e q = simp (lt-leb 64 k h, sym w ∙ t, sym e) (rw add-one at q)

-- ---- SubIFDs

module _ (f : File) (tag k : ℕ) where
  pub sub-none : {at : ℕ} → at ≡ 0 → Continue k ≡ sub_of f tag at k
  unfolding sub_of
  sub-none {at} h = simp (eq-eqb at 0 h)

  pub sub-gone : {at : ℕ} {r : Looked} → (at ≡ 0 → ⊥) → r ≡ visit f tag at k → r ≡ sub_of f tag at k
  unfolding sub_of
  sub-gone {at} h q = simp (ne_eqb at 0 h) q

-- offsets that are all 0
zero_word : (f : File) (o : ℕ) → Zeros f.bytes o (o + 4) → u32 f o ≡ 0
zero_word f o z = go f.most
  where
    go : (b : Bool) → cond b (big 4 f.bytes o) (little 4 f.bytes o) ≡ 0
    go true = big-zero f.bytes o 4 z
    go false = little-zero f.bytes o 4 z

subs-suc : (f : File) (tag n o k : ℕ) → subs_from f tag (suc n) o k ≡ after (sub_of f tag (u32 f o) k) (λ (j : ℕ). subs_from f tag n (o + 4) j)
unfolding subs_from
subs-suc f tag n o k = refl

pub subs-zeros : (f : File) (tag d m o k : ℕ) → Zeros f.bytes o (o + 4 * d) → subs_from f tag (d + m) o k ≡ subs_from f tag m (o + 4 * d) k
subs-zeros f tag zero m o k z = simp (zero-add, mul-zero, add-zero)
subs-zeros f tag (suc d) m o k z =
    let w : u32 f o ≡ 0 = zero_word f o (zeros-part (omega arith) (omega arith) z) in
    let y : Zeros f.bytes (o + 4) (o + 4 + 4 * d) = zeros-part (omega arith) (omega arith) z in
    ap (λ (p : ℕ). subs_from f tag p o k) (suc-add d m) ∙ subs-suc f tag (d + m) o k
    ∙ ap (λ (l : Looked). after l (λ (j : ℕ). subs_from f tag (d + m) (o + 4) j)) (sym (sub-none f tag k w))
    ∙ subs-zeros f tag d m (o + 4) k y ∙ ap (λ (p : ℕ). subs_from f tag m p k) (omega arith)

module _ (f : File) (tag n o k i : ℕ) (h : i < n) {r : Looked} {w : ℕ} (e : w ≡ u32 f (o + 4 * i)) (q : r ≡ sub_of f tag w k) where
  -- one offset
  subs-one : subs_from f tag (n - i) (o + 4 * i) k ≡ after r (λ (j : ℕ). subs_from f tag (n - (i + 1)) (o + 4 * i + 4) j)
  unfolding subs_from
  subs-one = let m : n - i ≡ suc (n - (i + 1)) = omega arith in rw m (rw (q, e))

  pub subs-stop : {a : Found} → r ≡ Break a → subs_from f tag (n - i) (o + 4 * i) k ≡ Break a
  subs-stop d = subs-one ∙ ap (λ (l : Looked). after l (λ (j : ℕ). subs_from f tag (n - (i + 1)) (o + 4 * i + 4) j)) d

  -- and those behind it that are 0
  pub subs-on : {j x : ℕ} → r ≡ Continue j → Skipped f.bytes n o i x → subs_from f tag (n - i) (o + 4 * i) k ≡ subs_from f tag (n - x) (o + 4 * x) j
  subs-on {j} {x} g s =
      let d : n - (i + 1) ≡ x - (i + 1) + (n - x) = omega (arith, s.from, s.most) in
      let a : o + 4 * i + 4 ≡ o + 4 * (i + 1) = omega arith in
      let b : o + 4 * x ≡ o + 4 * (i + 1) + 4 * (x - (i + 1)) = omega (arith, s.from) in
      let z : Zeros f.bytes (o + 4 * (i + 1)) (o + 4 * (i + 1) + 4 * (x - (i + 1))) = rw b at s.zeros in
      subs-one ∙ ap (λ (l : Looked). after l (λ (i' : ℕ). subs_from f tag (n - (i + 1)) (o + 4 * i + 4) i')) g
      ∙ simp (d, a) (subs-zeros f tag (x - (i + 1)) (n - x) (o + 4 * (i + 1)) j z)
      ∙ ap (λ (p : ℕ). subs_from f tag (n - x) p j) (sym b)

pub subs-end : (f : File) (tag n o i k : ℕ) → n ≤ i → subs_from f tag (n - i) (o + 4 * i) k ≡ Continue k
unfolding subs_from
subs-end f tag n o i k h = let m : n - i ≡ 0 = omega arith in simp m

module _ (f : File) (tag e k : ℕ) {n o : ℕ} {b : Bool} (i : n ≡ count_at f e) (j : o ≡ value_at f e (4 * n)) (h : b ≡ leb (o + 4 * n) (size f)) where
  pub subs-outside : b ≡ false → Break (Err Outside) ≡ subs_at f tag e k
  unfolding subs_at inside
  subs-outside t = simp (sym i, sym j, sym h ∙ t)

  pub subs-inside : b ≡ true → {r : Looked} → r ≡ subs_from f tag n o k → r ≡ subs_at f tag e k
  unfolding subs_at inside
  subs-inside t q = simp (sym i, sym j, sym h ∙ t) q

module _ (f : File) (tag e k : ℕ) {b : Bool} (h : b ≡ is_subs f e) where
  pub any_none : b ≡ false → Continue k ≡ any_subs f tag e k
  unfolding any_subs
  any_none t = simp (sym h ∙ t)

  pub any_some : b ≡ true → {r : Looked} → r ≡ subs_at f tag e k → r ≡ any_subs f tag e k
  unfolding any_subs
  any_some t q = simp (sym h ∙ t) q

-- ---- the entries of a directory once more, for SubIFDs

module _ (f : File) (tag n e k i : ℕ) (h : i < n) {r : Looked} (q : r ≡ any_subs f tag (e + 12 * i) k) where
  all_one : all_subs f tag (n - i) (e + 12 * i) k ≡ after r (λ (j : ℕ). all_subs f tag (n - (i + 1)) (e + 12 * i + 12) j)
  unfolding all_subs
  all_one = let m : n - i ≡ suc (n - (i + 1)) = omega arith in rw m (rw q)

  pub all-stop : {a : Found} → r ≡ Break a → all_subs f tag (n - i) (e + 12 * i) k ≡ Break a
  all-stop d = all_one ∙ ap (λ (l : Looked). after l (λ (j : ℕ). all_subs f tag (n - (i + 1)) (e + 12 * i + 12) j)) d

  pub all-on : {j : ℕ} → r ≡ Continue j → all_subs f tag (n - i) (e + 12 * i) k ≡ all_subs f tag (n - (i + 1)) (e + 12 * (i + 1)) j
  all-on {j} d =
      all_one ∙ ap (λ (l : Looked). after l (λ (j : ℕ). all_subs f tag (n - (i + 1)) (e + 12 * i + 12) j)) d
      ∙ ap (λ (a : ℕ). all_subs f tag (n - (i + 1)) a j) (behind e i)

pub all_end : (f : File) (tag n e i k : ℕ) → n ≤ i → all_subs f tag (n - i) e k ≡ Continue k
unfolding all_subs
all_end f tag n e i k h = let m : n - i ≡ 0 = omega arith in simp m
