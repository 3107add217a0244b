-- Stretches of zeros: put together, read as words, and kept in a table. Assumes nothing.
use Prim.Native.Nat.{ℕ, zero, suc, ◌+◌, ◌-◌, ◌*◌, ◌/◌, ◌≤◌, ◌<◌}
use mathlib.Core.Path.{◌≡◌, refl, sym, ◌∙◌}
use mathlib.Core.Bool.{Bool, true, false, ◌&&◌, cond}
use mathlib.Core.List.{List}
use native.Mathlib.Omega.{arith}
use native.Mathlib.Nat.{add-zero, add-suc, zero-mul, one-mul, add-mul, mul-le-mul_right, mul_comm, lt-mul-div-succ, lt_of_lt_of_le}
use native.Mathlib.Decide.{dec_lt}
use borrow.Author.Tests.{le-leb, lt-leb, eqb-true, eqb-false}
use lib.Dec.{leb, eqb}
use lib.ListN.{length, get_or, set, take, drop, replicate, length-replicate, get_or-replicate, get_or-eq_default}
use lib.Seq.{set_out, get_or-set_same, get_or-set_other}
use Rattle.num_words.specs.Words.{big, little}
use Rattle.num_words.proofs.Laws.{part}
use Rattle.num_zeros.specs.Zeros.{Zeros, Passed, Known, Counted, block_of, noted}

below_or : {C : Type 0} (a b : ℕ) → (a < b → C) → (b ≤ a → C) → C
below_or {C} a b lo hi = go (dec_lt a b)
  where
    go : Dec (a < b) → C
    go (yes p) = lo p
    go (no p) = hi (omega arith)

pub zeros-none : (s : List ℕ) {a b : ℕ} → b ≤ a → Zeros s a b
zeros-none s h = record { all = λ i l m. absurd (omega (arith, h, l, m)) }

-- two stretches that meet or overlap
pub zeros-then : {s : List ℕ} {a b c d : ℕ} → c ≤ b → Zeros s a b → Zeros s c d → Zeros s a d
zeros-then {s} {a} {b} {c} {d} h x y =
    record { all = λ i l m. below_or i b (λ n. x.all i l n) (λ n. y.all i (omega (arith, n, h)) m) }

-- a part of one
pub zeros-part : {s : List ℕ} {a b c d : ℕ} → a ≤ c → d ≤ b → Zeros s a b → Zeros s c d
zeros-part h k x = record { all = λ i l m. x.all i (omega (arith, h, l)) (omega (arith, k, m)) }

both : (a b : Bool) → (a && b) ≡ true → (a ≡ true) × (b ≡ true)
both true b h = (refl, h)
both false b h = (h, absurd (let z : ◌≡◌ {A = ℕ} 0 1 = cc in omega arith))

zeros-one : (s : List ℕ) (a : ℕ) → get_or s a 0 ≡ 0 → Zeros s a (suc a)
zeros-one s a e = record { all = λ i l m. let p : i ≡ a = omega (arith, l, m) in rw p e }

-- ---- words

pub zeros-word : (k : ℕ) (s : List ℕ) (a : ℕ) → big k s a ≡ 0 → Zeros s a (a + k)
unfolding big
zeros-word zero s a e = zeros-none s (omega arith)
zeros-word (suc k) s a e =
    rw add-suc (zeros-then (omega arith) (zeros-word k s a (omega (arith, e))) (zeros-one s (a + k) (omega (arith, e))))

module _ (s : List ℕ) (a : ℕ) where
  pub big-zero : (k : ℕ) → Zeros s a (a + k) → big k s a ≡ 0
  unfolding big
  big-zero zero z = refl
  big-zero (suc k) z =
      simp (big-zero k (zeros-part (omega arith) (omega arith) z), z.all (a + k) (omega arith) (omega arith))

  pub little-zero : (k : ℕ) → Zeros s a (a + k) → little k s a ≡ 0
  unfolding little
  little-zero zero z = refl
  little-zero (suc k) z =
      simp (little-zero k (zeros-part (omega arith) (omega arith) z), z.all (a + k) (omega arith) (omega arith), zero-mul)

-- four numbers of eight bytes, as a part of the list has them
module _ (s : List ℕ) (at : ℕ) where
  in-part : (k : ℕ) {x : ℕ} → k + 8 ≤ 32 → x ≡ big 8 (take (at + 32 - at) (drop at s)) k → eqb x 0 ≡ true → Zeros s (at + k) (at + k + 8)
  in-part k h e t = zeros-word 8 s (at + k) (sym (part 8 s (at + 32 - at) at k (omega arith)) ∙ sym e ∙ eqb-true _ 0 t)

  pub zeros-blank :
      {a b c d : ℕ} → a ≡ big 8 (take (at + 32 - at) (drop at s)) 0 → b ≡ big 8 (take (at + 32 - at) (drop at s)) 8
      → c ≡ big 8 (take (at + 32 - at) (drop at s)) 16 → d ≡ big 8 (take (at + 32 - at) (drop at s)) 24
      → ((eqb a 0 && eqb b 0) && (eqb c 0 && eqb d 0)) ≡ true → Zeros s at (at + 32)
  zeros-blank {a} {b} {c} {d} i j k l t =
      let x = both (eqb a 0 && eqb b 0) (eqb c 0 && eqb d 0) t in
      let y = both (eqb a 0) (eqb b 0) x.0 in
      let z = both (eqb c 0) (eqb d 0) x.1 in
      zeros-part (omega arith) (omega arith)
      (zeros-then (omega arith) (zeros-then (omega arith) (in-part 0 (omega arith) i y.0) (in-part 8 (omega arith) j y.1))
      (zeros-then (omega arith) (in-part 16 (omega arith) k z.0) (in-part 24 (omega arith) l z.1)))

-- ---- the table

module _ (t : List ℕ) (j m : ℕ) where
  pub noted_in : m ≤ 65535 → set t j m ≡ noted t j m
  unfolding noted
  noted_in h = simp (le-leb _ _ h)

  -- an entry that the table does not have
  pub noted-past : m ≤ 65535 → length t ≤ j → t ≡ noted t j m
  noted-past h k = sym (set_out t j m k) ∙ noted_in h

  pub noted-not : 65535 < m → t ≡ noted t j m
  unfolding noted
  noted-not h = simp (lt-leb _ _ h)

-- a table that knows nothing
pub known-none : (s : List ℕ) (n : ℕ) → Known s (replicate n 0)
known-none s n = record { each = λ j. zeros-none s (simp (nothing j, add-zero) (omega arith)) }
  where
    nothing : (j : ℕ) → get_or (replicate {A = ℕ} n 0) j 0 ≡ 0
    nothing j =
        below_or j n (λ h. get_or-replicate n j 0 0 h)
        (λ h. get_or-eq_default (replicate {A = ℕ} n 0) 0 (simp length-replicate h))

module _ {s t : List ℕ} (j m : ℕ) (k : Known s t) (z : Zeros s (j * block_of (length s)) ((j + m) * block_of (length s))) where
  set_known : Known s (set t j m)
  set_known = record { each = λ i. go i (eqb i j) refl }
    where
      go : (i : ℕ) (b : Bool) → eqb i j ≡ b → Zeros s (i * block_of (length s)) ((i + get_or (set t j m) i 0) * block_of (length s))
      go i true e =
          let p : i ≡ j = eqb-true i j e in
          rw p
          (below_or j (length t) (λ h. rw (get_or-set_same t j m 0 h) z) (λ h. rw (set_out t j m h) (k.each j)))
      go i false e = rw (get_or-set_other t j i m 0 (eqb-false i j e)) (k.each i)

  pub known-noted : Known s (noted t j m)
  unfolding noted
  known-noted = go (leb m 65535)
    where
      go : (b : Bool) → Known s (cond b (set t j m) t)
      go true = set_known
      go false = k

-- ---- blocks, of `size` bytes each

module _ {s t : List ℕ} (j : ℕ) (k : Known s t) where
  -- one block, which was read
  pub counted-one :
      {size p : ℕ} {o : List ℕ} → size ≡ block_of (length s) → Passed s (j * size) (j * size + size) p → j * size + size ≤ p
      → o ≡ noted t j 1 → Counted s j (j + 1) o
  counted-one {size} {p} e x l q =
      let z : Zeros s (j * size) ((j + 1) * size) = simp (add-mul, one-mul) (zeros-part (omega arith) l x.zeros) in
      let y : Zeros s (j * block_of (length s)) ((j + 1) * block_of (length s)) = rw e at z in
      record { from = omega arith; zeros = y; known = rw q (known-noted j 1 k y) }

-- the end is kept
pub counted-kept : {s t o : List ℕ} {j k : ℕ} → Counted s j k t → o ≡ noted t j (k - j) → Counted s j k o
counted-kept {s} {t} {o} {j} {k} x e =
    let p : k ≡ j + (k - j) = omega (arith, x.from) in
    let z : Zeros s (j * block_of (length s)) ((j + (k - j)) * block_of (length s)) = rw p at x.zeros in
    record { from = x.from; zeros = x.zeros; known = rw e (known-noted j (k - j) x.known z) }

-- ---- from a place to another, by the blocks of both

module _ (s : List ℕ) {size : ℕ} (e : size ≡ block_of (length s)) where
  pub block-behind : (n : ℕ) → n < (n / size + 1) * size
  block-behind n = rw mul_comm (lt-mul-div-succ n (omega (arith, e)))

  module _ {at j p k : ℕ} {t : List ℕ} (x : Passed s at (j * size) p) (h : j * size ≤ p) (y : Counted s j k t) where
    over : Zeros s at (k * size)
    over = zeros-then (omega arith) (zeros-part (omega arith) h x.zeros) (let z = y.zeros in rw (sym e) at z)

    pub passed-all : {end : ℕ} → at ≤ end → end / size < k → Passed s at end end
    passed-all {end} g l =
        let m : end < k * size = lt_of_lt_of_le (block-behind end) (mul-le-mul_right size (omega (arith, l))) in
        record { from = g; most = omega arith; zeros = zeros-part (omega arith) (omega (arith, m)) over }
