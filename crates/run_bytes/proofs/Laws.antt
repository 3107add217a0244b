-- The loops over samples in bytes, each once over the kind: a sample decoded, a sample put, a place cleared. Assumes nothing.
use Prim.Native.Nat.{ℕ, zero, suc, ◌+◌, ◌*◌, ◌/◌, ◌%◌, ◌^◌, ◌≤◌, ◌<◌}
use mathlib.Core.Path.{◌≡◌, refl, sym, ap, ap₂, subst, ◌∙◌}
use mathlib.Core.List.{List, [], ◌∷◌}
use native.Mathlib.Nat.{add-zero, suc-mul, mul-le-mul_right}
use native.Mathlib.Omega.{arith}
use lib.Arith.{digits_div, digits_mod}
use lib.ListN.{length, get_or, set, replicate, length-replicate}
use lib.Seq.{ext_get_or}
use Rattle.num_words.specs.Words.{put}
use Rattle.pointwise.specs.Points.{each, each_from, between}
use Rattle.pointwise.proofs.Each.{length-each, get_or-each, each-agree}
use Rattle.pointwise.proofs.Parts.{between_in, store}
use Rattle.run_bytes.specs.Samples.{decoded, byte_of, encoded, cleared}

module _ {A : Type 0} where
  -- a store at i, where the places before i are f's
  pub next : (d : A) (f : ℕ → A) (old now : List A) (i : ℕ) (v : A) → now ≡ each (between 0 i (λ j u. f j)) old → i < length now → v ≡ f i
      → set now i v ≡ each (between 0 (i + 1) (λ j u. f j)) old
  next d f old now i v t h e =
      store d (λ j u. f j) 0 i old now v t e (omega arith) (rw (sym (ap length t ∙ length-each _ old)) h)

  all : (f : ℕ → A) (old : List A) (i : ℕ) → length old ≤ i → each (between 0 i (λ j v. f j)) old ≡ each (λ j v. f j) old
  all f old i h =
      each-agree (between 0 i (λ j v. f j)) (λ j v. f j) old (λ j v q. between_in 0 i (λ j v. f j) j v (omega arith) (omega arith))

  -- the room is full: the samples
  pub decoded-all : (f : ℕ → A) (old now : List A) (i : ℕ) → now ≡ each (between 0 i (λ j v. f j)) old → length old ≤ i → now ≡ decoded f old
  unfolding decoded
  decoded-all f old now i t h = t ∙ all f old i h

  -- the room is clear
  pub cleared-all : (z : A) (old now : List A) (i : ℕ) → now ≡ each (between 0 i (λ j v. z)) old → length old ≤ i → now ≡ cleared z old
  unfolding each cleared
  cleared-all z old now i t h = t ∙ all (λ j. z) old i h ∙ from 0 old
    where
      from : (k : ℕ) (l : List A) → each_from (λ j v. z) k l ≡ replicate (length l) z
      from k [] = refl
      from k (x ∷ xs) = ap (◌∷◌ z) (from (suc k) xs)

  -- however the room was lent before, it is as long as it was
  pub cleared-whole : (z : A) (mid now : List A) (n : ℕ) → now ≡ cleared z mid → length now ≡ n → now ≡ replicate n z
  unfolding cleared
  cleared-whole z mid now n e l = e ∙ ap (λ (k : ℕ). replicate k z) (sym (length-replicate (length mid) z) ∙ sym (ap length e) ∙ l)

  -- what stood in the room does not matter
  pub decoded-any : (d : A) (f : ℕ → A) (l r : List A) → length l ≡ length r → decoded f l ≡ decoded f r
  unfolding decoded
  decoded-any d f l r e =
      ext_get_or d (each (λ i v. f i) l) (each (λ i v. f i) r) (length-each _ l ∙ e ∙ sym (length-each _ r))
      (λ i h.
      let q : i < length l = subst (λ (n : ℕ). i < n) (length-each _ l) h in
      get_or-each _ l i d q ∙ sym (get_or-each _ r i d (subst (λ (n : ℕ). i < n) e q)))

  pub length-decoded : (f : ℕ → A) (l : List A) → length (decoded f l) ≡ length l
  unfolding decoded
  length-decoded f l = length-each (λ i v. f i) l

  -- ---- samples put

  module _ (size : ℕ) (bits : A → ℕ) (none : A) (s : List A) where
    abbrev pub at : ℕ → ℕ → ℕ
    at j v = byte_of size bits none s j

    byte-is : (k m : ℕ) → m < size → bits (get_or s k none) / 256 ^ m % 256 ≡ byte_of size bits none s (k * size + m)
    unfolding byte_of
    byte-is k m h =
        ap₂ (λ (q r : ℕ). bits (get_or s q none) / 256 ^ r % 256) (sym (digits_div k h)) (sym (digits_mod k h))

    -- the low m bytes of sample k
    some : (old now : List ℕ) (k m : ℕ) → now ≡ each (between 0 (k * size) at) old → k * size + size ≤ length old → m ≤ size
        → put m now (k * size) (bits (get_or s k none)) ≡ each (between 0 (k * size + m) at) old
    unfolding put
    some old now k zero e fits le = e ∙ ap (λ (n : ℕ). each (between 0 n at) old) (sym (add-zero (k * size)))
    some old now k (suc m) e fits le =
        store 0 at 0 (k * size + m) old (put m now (k * size) (bits (get_or s k none))) _ (some old now k m e fits (omega arith))
        (byte-is k m (omega arith)) (omega arith) (omega arith)
        ∙ ap (λ (n : ℕ). each (between 0 n at) old) (omega arith)

    -- one sample more
    pub put_next : (old now : List ℕ) (k : ℕ) → now ≡ each (between 0 (k * size) at) old → length s * size ≤ length old → k < length s
        → put size now (k * size) (bits (get_or s k none)) ≡ each (between 0 ((k + 1) * size) at) old
    put_next old now k t room h =
        let le : suc k * size ≤ length s * size = mul-le-mul_right size h in
        let fits : k * size + size ≤ length old = omega (arith, suc-mul k size) in
        some old now k size t fits (omega arith)
        ∙ ap (λ (n : ℕ). each (between 0 n at) old) (sym (suc-mul k size) ∙ ap (λ (n : ℕ). n * size) (omega arith))

    pub encoded-all : (old now : List ℕ) (k : ℕ) → now ≡ each (between 0 (k * size) at) old → k ≡ length s → now ≡ encoded size bits none s old
    unfolding encoded
    encoded-all old now k t h = t ∙ ap (λ (n : ℕ). each (between 0 (n * size) at) old) h

    pub length-encoded : (old : List ℕ) → length (encoded size bits none s old) ≡ length old
    unfolding encoded
    length-encoded old = length-each (between 0 (length s * size) at) old
