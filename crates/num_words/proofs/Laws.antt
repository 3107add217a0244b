-- The laws of words, each once over the width, and of a float's bits, over the format. A word is its parts; it is bounded;
-- it depends on its own bytes only; what was put is read, and nothing else changes; one comparison tells a NaN's pattern.
-- Assumes nothing.
use Rattle.std.proofs.Common.{◌≡◌, ℕ, zero, suc, ◌+◌, ◌-◌, ◌*◌, ◌/◌, ◌%◌, ◌^◌, ◌<◌, ◌≤◌, Bool, true, false, cond, not, T, leb, ◌⊎◌, List, [], length, get_or, take, drop, set, sym, refl, ap, ◌∙◌, subst, ap₂, inl, inr, add-zero, add_assoc, add-suc, mod-eq_of_lt, zero-lt-suc, mul_assoc, mul_comm, add-mul, add_comm, mul-pos, pow-suc, zero-add, zero-mul, mul-one, div-one, mul-div_cancel, arith, length-drop, length-set, get_or-drop, take_all, get_or-set_other, get_or-take, get_or-set_same, pow_pos, pow-add, le-ltb, lt-ltb, le-leb, leb-false, leb-true}
use native.Mathlib.Nat.{pow-zero, one-le-pow, mul-mod_left, mod-one}
use lib.ListN.{get_or-eq_default}
use lib.Seq.{set_out}
use lib.Arith.{digits_lt, digits_div, digits_mod, mod-mul}
use lib.Ieee.{Float, nan, inf, fin, Format, binary32, binary64, prec, ones, hid, top, fits, of_bits, to_bits, nan_bits, is_nan, div, ne}
use lib.Ieee.Bits.{nan_bits_is, nan_bits_above, of_bits-to_bits, to_bits-lt}
use lib.Ieee.Compare.{differs_from_itself, nan_differs}
use borrow.Author.Tests.{lt-leb}
use Rattle.std.specs.Prelude.{Result, Ok, Err}
use Rattle.num_words.specs.declared.Cut.{Cut}
use Rattle.num_words.specs.Words.{big, little, put, cut, word_in}

-- ---- a word is its parts

pub split : (a b : ℕ) (s : List ℕ) (at : ℕ) → big (a + b) s at ≡ big a s at * 256 ^ b + big b s (at + a)
unfolding big
split a zero s at = simp (add-zero, pow-zero, mul-one)
split a (suc b) s at = simp (add-suc, split a b s at, add-mul, pow-suc, mul_assoc, add_assoc)

pub little-split : (a b : ℕ) (s : List ℕ) (at : ℕ) → little (a + b) s at ≡ little a s at + little b s (at + a) * 256 ^ a
unfolding little
little-split a zero s at = simp (add-zero, zero-mul)
little-split a (suc b) s at =
    simp (add-suc, little-split a b s at, add-mul, pow-add, mul_assoc, add_assoc, mul_comm (256 ^ a) (256 ^ b))

-- as code has it: the parts x and y were read, and their sum is the word
pub join : (a b : ℕ) (s : List ℕ) (at : ℕ) {x y : ℕ} → x ≡ big a s at → y ≡ big b s (at + a)
    → x * 256 ^ b + y ≡ big (a + b) s at
join a b s at p q = ap₂ (λ (x y : ℕ). x * 256 ^ b + y) p q ∙ sym (split a b s at)

pub little-join : (a b : ℕ) (s : List ℕ) (at : ℕ) {x y : ℕ} → x ≡ little a s at → y ≡ little b s (at + a)
    → x + y * 256 ^ a ≡ little (a + b) s at
little-join a b s at p q = ap₂ (λ (x y : ℕ). x + y * 256 ^ a) p q ∙ sym (little-split a b s at)

-- one byte, and one byte more
pub one : (s : List ℕ) (at : ℕ) {x : ℕ} → x ≡ get_or s at 0 → x ≡ big 1 s at
unfolding big
one s at e = simp (zero-add, add-zero) e

pub next : (k : ℕ) (s : List ℕ) (at : ℕ) {x y : ℕ} → x ≡ big k s at → y ≡ get_or s (at + k) 0 → x * 256 + y ≡ big (k + 1) s at
next k s at p q = join k 1 s at p (one s (at + k) q)

pub little-one : (s : List ℕ) (at : ℕ) {x : ℕ} → x ≡ get_or s at 0 → x ≡ little 1 s at
unfolding little
little-one s at e = simp (zero-add, add-zero, mul-one) e

pub little-next : (k : ℕ) (s : List ℕ) (at : ℕ) {x y : ℕ} → x ≡ little k s at → y ≡ get_or s (at + k) 0
    → x + y * 256 ^ k ≡ little (k + 1) s at
little-next k s at p q = little-join k 1 s at p (little-one s (at + k) q)

-- ---- a word of k bytes is below 256 ^ k, so that its first bytes are a quotient, or a remainder

-- every element is a byte: `λ i. (c.shared-slice-known.given i).fits` of a slice of u8
abbrev pub Bytes : List ℕ → Type 0
Bytes s = (i : ℕ) → get_or s i 0 < 256

pub bound : (s : List ℕ) → Bytes s → (k at : ℕ) → big k s at < 256 ^ k
unfolding big
bound s h zero at = simp pow-zero (omega arith)
bound s h (suc k) at = simp pow-suc (digits_lt (bound s h k at) (h (at + k)))

pub little-bound : (s : List ℕ) → Bytes s → (k at : ℕ) → little k s at < 256 ^ k
unfolding little
little-bound s h zero at = simp pow-zero (omega arith)
little-bound s h (suc k) at =
    simp (pow-suc, mul_comm (256 ^ k) 256, add_comm (little k s at)) (digits_lt (h (at + k)) (little-bound s h k at))

pub first : (s : List ℕ) → Bytes s → (a b at : ℕ) {x : ℕ} → x ≡ big (a + b) s at → x / 256 ^ b ≡ big a s at
first s h a b at e = ap (λ (x : ℕ). x / 256 ^ b) (e ∙ split a b s at) ∙ digits_div (big a s at) (bound s h b (at + a))

pub little-first : (s : List ℕ) → Bytes s → (a b at : ℕ) {x : ℕ} → x ≡ little (a + b) s at → x % 256 ^ a ≡ little a s at
little-first s h a b at e =
    ap (λ (x : ℕ). x % 256 ^ a) (e ∙ little-split a b s at ∙ add_comm (little a s at) (little b s (at + a) * 256 ^ a))
    ∙ digits_mod (little b s (at + a)) (little-bound s h a at)

-- ---- a word depends on its own bytes only

-- the k bytes of s from at on are those of t from bt on
abbrev pub Agree : ℕ → List ℕ → ℕ → List ℕ → ℕ → Type 0
Agree k s at t bt = (i : ℕ) → i < k → get_or s (at + i) 0 ≡ get_or t (bt + i) 0

pub same : (k : ℕ) (s : List ℕ) (at : ℕ) (t : List ℕ) (bt : ℕ) → Agree k s at t bt → big k s at ≡ big k t bt
unfolding big
same zero s at t bt h = refl
same (suc k) s at t bt h = simp (same k s at t bt (λ i l. h i (omega arith)), h k (omega arith))

pub little-same : (k : ℕ) (s : List ℕ) (at : ℕ) (t : List ℕ) (bt : ℕ) → Agree k s at t bt → little k s at ≡ little k t bt
unfolding little
little-same zero s at t bt h = refl
little-same (suc k) s at t bt h = simp (little-same k s at t bt (λ i l. h i (omega arith)), h k (omega arith))

-- inside a part of the list, as `&s[a..e]` lends it
in-part : (k : ℕ) (s : List ℕ) (n a at : ℕ) → at + k ≤ n → Agree k (take n (drop a s)) at s (a + at)
in-part k s n a at h i l = get_or-take n (drop a s) (at + i) 0 (omega arith) ∙ get_or-drop a s (at + i) 0 ∙ simp add_assoc

pub part : (k : ℕ) (s : List ℕ) (n a at : ℕ) → at + k ≤ n → big k (take n (drop a s)) at ≡ big k s (a + at)
part k s n a at h = same k (take n (drop a s)) at s (a + at) (in-part k s n a at h)

pub little-part : (k : ℕ) (s : List ℕ) (n a at : ℕ) → at + k ≤ n → little k (take n (drop a s)) at ≡ little k s (a + at)
little-part k s n a at h = little-same k (take n (drop a s)) at s (a + at) (in-part k s n a at h)

-- anywhere in what is left of the list, as `&s[a..]` lends it: past the end both are 0
in_tail : (k : ℕ) (s : List ℕ) (a at : ℕ) → Agree k (take (length s - a) (drop a s)) at s (a + at)
in_tail k s a at i l =
    ap (λ (t : List ℕ). get_or t (at + i) 0) (take_all (length s - a) (drop a s) (simp length-drop (omega arith)))
    ∙ get_or-drop a s (at + i) 0
    ∙ simp add_assoc

pub tail : (k : ℕ) (s : List ℕ) (a at : ℕ) → big k (take (length s - a) (drop a s)) at ≡ big k s (a + at)
tail k s a at = same k (take (length s - a) (drop a s)) at s (a + at) (in_tail k s a at)

pub little-tail : (k : ℕ) (s : List ℕ) (a at : ℕ) → little k (take (length s - a) (drop a s)) at ≡ little k s (a + at)
little-tail k s a at = little-same k (take (length s - a) (drop a s)) at s (a + at) (in_tail k s a at)

-- past the end
in-none : (k : ℕ) (s : List ℕ) (at : ℕ) → length s ≤ at → Agree k s at [] 0
in-none k s at h i l = get_or-eq_default s 0 (omega arith)

none : (k : ℕ) → big k [] 0 ≡ 0
unfolding big
none zero = refl
none (suc k) = simp (none k)

little-none : (k : ℕ) → little k [] 0 ≡ 0
unfolding little
little-none zero = refl
little-none (suc k) = simp (little-none k, zero-mul)

pub past : (k : ℕ) (s : List ℕ) (at : ℕ) → length s ≤ at → big k s at ≡ 0
past k s at h = same k s at [] 0 (in-none k s at h) ∙ none k

pub little-past : (k : ℕ) (s : List ℕ) (at : ℕ) → length s ≤ at → little k s at ≡ 0
little-past k s at h = little-same k s at [] 0 (in-none k s at h) ∙ little-none k

-- ---- what was put

-- as code has it: the first byte, and one byte more
pub put_one : (s : List ℕ) (at n : ℕ) → set s at (n % 256) ≡ put 1 s at n
unfolding put
put_one s at n = simp (add-zero, div-one)

pub put_next : (k : ℕ) (s : List ℕ) (at n : ℕ) {l : List ℕ} → l ≡ put k s at n
    → set l (at + k) (n / 256 ^ k % 256) ≡ put (suc k) s at n
unfolding put
put_next k s at n e = ap (λ (l : List ℕ). set l (at + k) (n / 256 ^ k % 256)) e

pub put-past : (k : ℕ) (s : List ℕ) (at n : ℕ) → length s ≤ at → put k s at n ≡ s
unfolding put
put-past zero s at n h = refl
put-past (suc k) s at n h = simp (put-past k s at n h) (set_out s (at + k) (n / 256 ^ k % 256) (omega arith))

pub length-put : (k : ℕ) (s : List ℕ) (at n : ℕ) → length (put k s at n) ≡ length s
unfolding put
length-put zero s at n = refl
length-put (suc k) s at n = length-set (put k s at n) (at + k) (n / 256 ^ k % 256) ∙ length-put k s at n

-- the other places are as they were, and so is a word that lies apart
pub put_other : (k : ℕ) (s : List ℕ) (at n i : ℕ) → (i < at) ⊎ (at + k ≤ i) → get_or (put k s at n) i 0 ≡ get_or s i 0
unfolding put
put_other zero s at n i h = refl
put_other (suc k) s at n i (inl h) =
    get_or-set_other (put k s at n) (at + k) i (n / 256 ^ k % 256) 0 (omega arith) ∙ put_other k s at n i (inl h)
put_other (suc k) s at n i (inr h) =
    get_or-set_other (put k s at n) (at + k) i (n / 256 ^ k % 256) 0 (omega arith) ∙ put_other k s at n i (inr (omega arith))

in-other : (j k : ℕ) (s : List ℕ) (at n bt : ℕ) → (bt + j ≤ at) ⊎ (at + k ≤ bt) → Agree j (put k s at n) bt s bt
in-other j k s at n bt (inl h) i l = put_other k s at n (bt + i) (inl (omega arith))
in-other j k s at n bt (inr h) i l = put_other k s at n (bt + i) (inr (omega arith))

pub put-apart : (j k : ℕ) (s : List ℕ) (at n bt : ℕ) → (bt + j ≤ at) ⊎ (at + k ≤ bt) → little j (put k s at n) bt ≡ little j s bt
put-apart j k s at n bt h = little-same j (put k s at n) bt s bt (in-other j k s at n bt h)

-- the word that was put is read back
pub put-read : (k : ℕ) (s : List ℕ) (at n : ℕ) → at + k ≤ length s → little k (put k s at n) at ≡ n % 256 ^ k
unfolding put little
put-read zero s at n h = simp (pow-zero, mod-one)
put-read (suc k) s at n h =
    let l = put k s at n in
    let d = n / 256 ^ k % 256 in
    let room : at + k < length l = rw length-put (omega arith) in
    let low = little-same k (set l (at + k) d) at l at (λ i m. get_or-set_other l (at + k) (at + i) d 0 (omega arith)) in
    ap₂ (λ (x y : ℕ). x + y * 256 ^ k) (low ∙ put-read k s at n (omega arith)) (get_or-set_same l (at + k) d 0 room)
    ∙ add_comm (n % 256 ^ k) (d * 256 ^ k)
    ∙ sym (mod-mul n (zero-lt-suc 255) (one-le-pow k 256 (zero-lt-suc 255)))
    ∙ ap (λ (x : ℕ). n % x) (mul_comm 256 (256 ^ k) ∙ sym (pow-suc 256 k))

-- and so is a float of the format; k bytes are the format's width
pub put-float : (f : Format) (k : ℕ) (s : List ℕ) (at : ℕ) (x : Float) → 256 ^ k ≡ 2 * top f → T (fits f x) → at + k ≤ length s
    → of_bits f (little k (put k s at (to_bits f x)) at) ≡ x
put-float f k s at x w t h =
    ap (of_bits f) (put-read k s at (to_bits f x) h ∙ mod-eq_of_lt (rw w (to_bits-lt f x t))) ∙ of_bits-to_bits f x t

-- ---- which patterns are a NaN's, over the format: twice the pattern, without the sign, is above twice the infinity's

doubled : (n c : ℕ) → 0 < c → (n + n) % (2 * c) ≡ 2 * (n % c)
doubled n c h =
    let e : n + n ≡ n * 2 = omega arith in
    simp (e, mul_comm 2 c, mod-mul (n * 2) h (zero-lt-suc 1), mul-div_cancel n (zero-lt-suc 1), mul-mod_left n 2, add-zero)
    (mul_comm (n % c) 2)

above : (m x y : ℕ) → x ≡ 2 * y → 2 * m < x → m < y
above m x y e h = omega arith

not-above : (m x y : ℕ) → x ≡ 2 * y → x ≤ 2 * m → y ≤ m
not-above m x y e h = omega arith

module _ (f : Format) (n : ℕ) {x : ℕ} (e : x ≡ (n + n) % (2 * top f)) where
  twice : x ≡ 2 * (n % top f)
  twice = e ∙ doubled n (top f) (mul-pos (pow_pos (prec f - 1)) (zero-lt-suc (ones f)))

  is-nan_bits : 2 * (ones f * hid f) < x → nan_bits f n ≡ true
  is-nan_bits h = nan_bits_above f n ∙ lt-ltb _ _ (above (ones f * hid f) x (n % top f) twice h)

  pub no_nan : x ≤ 2 * (ones f * hid f) → T (not (nan_bits f n))
  no_nan h =
      subst (λ (b : Bool). T (not b))
      (sym (nan_bits_above f n ∙ le-ltb _ _ (not-above (ones f * hid f) x (n % top f) twice h)))
      tt

only_nan : (x : Float) → is_nan x ≡ true → x ≡ nan
unfolding is_nan
only_nan nan e = refl
only_nan (inf s) e = absurd (subst (λ (b : Bool). T (not b)) e tt)
only_nan (fin s m k) e = absurd (subst (λ (b : Bool). T (not b)) e tt)

-- 0 / 0, which is how code makes the NaN
nought : (f : Format) → div f (of_bits f 0) (of_bits f 0) ≡ nan
unfolding div of_bits
nought binary32 = refl
nought binary64 = refl

pub is-nan : (f : Format) (n : ℕ) {x : ℕ} → x ≡ (n + n) % (2 * top f) → 2 * (ones f * hid f) < x
    → div f (of_bits f 0) (of_bits f 0) ≡ of_bits f n
is-nan f n e h = nought f ∙ sym (only_nan (of_bits f n) (sym (nan_bits_is f n) ∙ is-nan_bits f n e h))

-- ---- a float that differs from itself, as `x != x` tests it, is the NaN and has the fixed pattern; any other has one of its own

pub nan-bits : (f : Format) (x : Float) → ne x x ≡ true → to_bits f x ≡ ones f * hid f + hid f / 2
unfolding to_bits
nan-bits f x e = ap (to_bits f) (differs_from_itself x (subst T (sym e) tt))

pub own_bits : (x : Float) → ne x x ≡ false → T (not (is_nan x))
unfolding is_nan
own_bits nan e = subst (λ (b : Bool). T (not b)) (sym (sym nan_differs ∙ e)) tt
own_bits (inf s) e = tt
own_bits (fin s m k) e = tt

-- ---- a word of a part that may end inside it

module _ (s : List ℕ) (at : ℕ) {left : ℕ} where
  pub word_cut : left < 4 → Err (cut at) ≡ word_in s at left
  unfolding word_in
  word_cut h = simp (lt-leb _ _ h)

  pub word-is : {x : ℕ} → 4 ≤ left → x ≡ big 4 s at → Ok x ≡ word_in s at left
  unfolding word_in
  word-is h e = simp (le-leb _ _ h, e)

  -- back from what was read
  pub cut_word : {r : Result ℕ Cut} {d : Cut} → r ≡ word_in s at left → r ≡ Err d → (left < 4) × (d ≡ cut at)
  unfolding word_in
  cut_word {r} {d} e f = go (leb 4 left) refl (sym e ∙ f)
    where
      go : (b : Bool) → leb 4 left ≡ b → cond b (Ok (big 4 s at)) (Err (cut at)) ≡ Err d → (left < 4) × (d ≡ cut at)
      go true t q = absurd (let z : ◌≡◌ {A = ℕ} 0 1 = cc in omega arith)
      go false t q = (leb-false _ _ t, cc)

  pub is_word : {r : Result ℕ Cut} {x : ℕ} → r ≡ word_in s at left → r ≡ Ok x → (4 ≤ left) × (x ≡ big 4 s at)
  unfolding word_in
  is_word {r} {x} e f = go (leb 4 left) refl (sym e ∙ f)
    where
      go : (b : Bool) → leb 4 left ≡ b → cond b (Ok (big 4 s at)) (Err (cut at)) ≡ Ok x → (4 ≤ left) × (x ≡ big 4 s at)
      go true t q = (leb-true _ _ t, cc)
      go false t q = absurd (let z : ◌≡◌ {A = ℕ} 0 1 = cc in omega arith)
