-- The loops over the definitions of specs/Pgm, one turn each. Assumes nothing.
use Prim.Native.Nat.{ℕ, zero, suc, ◌+◌, ◌-◌, ◌*◌, ◌/◌, ◌%◌, ◌≤◌, ◌<◌, min}
use mathlib.Core.Path.{◌≡◌, refl, sym, ap, subst, ◌∙◌}
use mathlib.Core.Bool.{Bool, true, false, cond, ◌&&◌, and-false}
use mathlib.Core.List.{List, [], ◌∷◌}
use native.Mathlib.Nat.{mul-le-mul}
use native.Mathlib.Numerals.{add-one}
use native.Mathlib.Omega.{arith}
use borrow.Author.Tests.{leb-true, le-leb, lt-leb, lt-ltb, le-ltb, eq-eqb, ne_eqb}
use lib.Dec.{leb, ltb, eqb}
use lib.Ieee.{Float, binary32, nan, to_bits}
use lib.ListN.{length, get_or, drop, drop_of_length-le, get_or-eq_default}
use lib.Seq.{drop-cons}
use Rattle.std.proofs.lemmas.List.Sums.{sum_by-cons}
use Rattle.pointwise.specs.Points.{each, between}
use Rattle.pointwise.proofs.Each.{below_or, each-agree}
use Rattle.pointwise.proofs.Parts.{between_in}
use Rattle.num_text.specs.Text.{decimal}
use Rattle.num_text.proofs.Digits.{decimal-short}
use Rattle.std.specs.Int.{w32, to_le_bytes}
use Rattle.std.specs.Prelude.{Option, Some, None, Err, count_by}
use Rattle.say_pgm.specs.declared.Header.{Header}
use Rattle.say_pgm.specs.declared.Field.{Field}
use Rattle.say_pgm.specs.declared.FrameError.TheVariants.{Short}
use Rattle.say_pgm.specs.Pgm.{white, goes_on, inside, blanks, past, is_digit, digits_in, decimal_from, number_at, Held, sound, p5, field_at, is_header, headed, header_on, header_of, raster_len, whole, sized_on, InSizes, is_number, word_of, byte_at, over, nth_byte, float_byte_at}

-- ---- white space and comments

pub blanks-on : (s : List ℕ) (i : ℕ) (c : Bool) {r t : Bool} → i < length s → r ≡ goes_on c (get_or s i 0) → r ≡ true → t ≡ inside c (get_or s i 0)
    → i + 1 + blanks t (drop (i + 1) s) ≡ i + blanks c (drop i s)
unfolding blanks
blanks-on s i c h is on e = simp (drop-cons s i 0 h, sym is, on, e, add-one) (omega arith)

pub blanks-off : (s : List ℕ) (i : ℕ) (c : Bool) {r : Bool} → i < length s → r ≡ goes_on c (get_or s i 0) → r ≡ false → i ≡ i + blanks c (drop i s)
unfolding blanks
blanks-off s i c h is off = simp (drop-cons s i 0 h, sym is, off) (omega arith)

pub blanks-end : (c : Bool) (s : List ℕ) (i : ℕ) → length s ≤ i → i ≡ i + blanks c (drop i s)
unfolding blanks
blanks-end c s i h = simp (drop_of_length-le s h) (omega arith)

-- ---- digits

pub digits-on : (s : List ℕ) (i : ℕ) {r : Bool} → i < length s → r ≡ is_digit (get_or s i 0) → r ≡ true
    → i + 1 + digits_in (drop (i + 1) s) ≡ i + digits_in (drop i s)
unfolding digits_in
digits-on s i h is on = simp (drop-cons s i 0 h, sym is, on, add-one) (omega arith)

pub digits-off : (s : List ℕ) (i : ℕ) {r : Bool} → i < length s → r ≡ is_digit (get_or s i 0) → r ≡ false → i ≡ i + digits_in (drop i s)
unfolding digits_in
digits-off s i h is off = simp (drop-cons s i 0 h, sym is, off) (omega arith)

pub digits-end : (s : List ℕ) (i : ℕ) → length s ≤ i → i ≡ i + digits_in (drop i s)
unfolding digits_in
digits-end s i h = simp (drop_of_length-le s h) (omega arith)

-- more digits never say less
grows : (m v : ℕ) (s : List ℕ) → m ≤ v → m ≤ decimal_from v s
unfolding decimal_from
grows m v [] h = h
grows m v (b ∷ s) h = either (grows m (v * 10 + (b - 48)) s (omega arith)) (is_digit b)
  where
    either : {x : ℕ} → m ≤ x → (t : Bool) → m ≤ cond t x v
    either q true = q
    either q false = h

-- holding what was read so far changes nothing once all is held
pub held_on : (m v : ℕ) (s : List ℕ) → min m (decimal_from (min m v) s) ≡ min m (decimal_from v s)
held_on m v s =
    below_or v m (λ h. ap (λ (n : ℕ). min m (decimal_from n s)) (omega arith))
    (λ h. omega (arith, grows m (min m v) s (omega arith), grows m v s h))

decimal-next : (s : List ℕ) (i v d : ℕ) → i < length s → is_digit (get_or s i 0) ≡ true → d ≡ get_or s i 0 - 48
    → decimal_from v (drop i s) ≡ decimal_from (v * 10 + d) (drop (i + 1) s)
unfolding decimal_from
decimal-next s i v d h on e = simp (drop-cons s i 0 h, on, e, add-one)

-- one digit more, held: v' is what is said with it
pub decimal-on : (s : List ℕ) (i : ℕ) {r : Bool} (v v' d : ℕ) → i < length s → r ≡ is_digit (get_or s i 0) → r ≡ true → d ≡ get_or s i 0 - 48
    → v' ≡ min 65537 (v * 10 + d) → min 65537 (decimal_from v' (drop (i + 1) s)) ≡ min 65537 (decimal_from v (drop i s))
decimal-on s i v v' d h is on e held =
    ap (λ (n : ℕ). min 65537 (decimal_from n (drop (i + 1) s))) held
    ∙ held_on 65537 (v * 10 + d) (drop (i + 1) s) ∙ ap (min 65537) (sym (decimal-next s i v d h (sym is ∙ on) e))

pub decimal-off : (s : List ℕ) (i : ℕ) {r : Bool} (v : ℕ) → i < length s → r ≡ is_digit (get_or s i 0) → r ≡ false → v ≡ decimal_from v (drop i s)
unfolding decimal_from
decimal-off s i v h is off = simp (drop-cons s i 0 h, sym is, off)

pub decimal-end : (v : ℕ) (s : List ℕ) (i : ℕ) → length s ≤ i → v ≡ decimal_from v (drop i s)
unfolding decimal_from
decimal-end v s i h = simp (drop_of_length-le s h)

-- ---- the header

-- a chain of tests that holds, test by test
last-of-four : (a b c d : Bool) → (a && (b && (c && d))) ≡ true → d ≡ true
last-of-four true true true d h = h
last-of-four true true false d h = cc
last-of-four true false c d h = cc
last-of-four false b c d h = cc

pub record Five (b c d e : Bool) : Type 0 where
  pub second : b ≡ true
  pub third : c ≡ true
  pub fourth : d ≡ true
  pub fifth : e ≡ true

pub five : (a b c d e : Bool) → (a && (b && (c && (d && e)))) ≡ true → Five b c d e
five true true true true e h = record { second = refl; third = refl; fourth = refl; fifth = h }
five true true true false e h = record { second = cc; third = cc; fourth = cc; fifth = cc }
five true true false d e h = record { second = cc; third = cc; fourth = cc; fifth = cc }
five true false c d e h = record { second = cc; third = cc; fourth = cc; fifth = cc }
five false b c d e h = record { second = cc; third = cc; fourth = cc; fifth = cc }

-- a byte of white space is one of the list's
pub white-in : (s : List ℕ) (i : ℕ) → white (get_or s i 0) ≡ true → i < length s
white-in s i h = below_or i (length s) (λ q. q) (λ q. let z : false ≡ true = sym (ap white (get_or-eq_default s 0 q)) ∙ h in absurd (never z))
  where
    never : false ≡ true → ⊥
    never z = let n : ◌≡◌ {A = ℕ} 0 1 = ap (λ (b : Bool). cond b 1 0) z in omega arith

-- f is g, but that its value is held
record Near (f g : Field) : Type 0 where
  from_is : f.from ≡ g.from
  end_is : f.end ≡ g.end
  value-is : f.value ≡ min 65537 g.value

near : (s : List ℕ) (at : ℕ) (f : Field) → Held s (past s at) f → Near f (field_at s at)
unfolding field_at number_at
near s at f h = record { from_is = h.starts; end_is = h.ends; value-is = h.held }

sound-near : (at : ℕ) (f g : Field) (low high : ℕ) → high ≤ 65536 → Near f g → sound at f low high ≡ sound at g low high
unfolding sound
sound-near at f g low high room n =
    below_or g.value 65537
    (λ q. let e : f.value ≡ g.value = omega (arith, n.value-is) in simp (n.from_is, n.end_is, e))
    (λ q.
    simp
    (n.from_is, n.end_is, lt-leb f.value high (omega (arith, n.value-is)), lt-leb g.value high (omega arith), and-false))

value-near : (at : ℕ) (f g : Field) (low high : ℕ) → high ≤ 65536 → Near f g → sound at f low high ≡ true → f.value ≡ g.value
unfolding sound
value-near at f g low high room n h =
    omega (
      arith,
      n.value-is,
      leb-true f.value high
          (last-of-four (ltb at f.from) (ltb f.from f.end) (leb low f.value) (leb f.value high) h),
    )

module _ (s : List ℕ) (w h m g₁ g₂ g₃ : Field) (n₁ : Near w g₁) (n₂ : Near h g₂) (n₃ : Near m g₃) where
  ok_same : is_header s w h m ≡ is_header s g₁ g₂ g₃
  ok_same =
      simp (
        sound-near 2 w g₁ 0 65536 (omega arith) n₁,
        sound-near g₁.end h g₂ 0 65536 (omega arith) n₂,
        sound-near g₂.end m g₃ 1 65535 (omega arith) n₃,
        n₁.end_is,
        n₂.end_is,
        n₃.end_is,
      )

  header-near : header_on s w h m ≡ header_on s g₁ g₂ g₃
  header-near = on (is_header s w h m) refl
    where
      on : (b : Bool) → is_header s w h m ≡ b → header_on s w h m ≡ header_on s g₁ g₂ g₃
      on true e =
          let o = five (p5 s) (sound 2 w 0 65536) (sound w.end h 0 65536) (sound h.end m 1 65535) (white (get_or s m.end 0)) e in
          let e₁ = value-near 2 w g₁ 0 65536 (omega arith) n₁ o.second in
          let e₂ = value-near w.end h g₂ 0 65536 (omega arith) n₂ o.third in
          let e₃ = value-near h.end m g₃ 1 65535 (omega arith) n₃ o.fourth in
          let f = sym ok_same ∙ e in
          (ap (λ (b : Bool). cond b (headed w.value h.value m.value (m.end + 1)) None) e
          ∙ simp (e₁, e₂, e₃, n₃.end_is))
          ∙ sym (ap (λ (b : Bool). cond b (headed g₁.value g₂.value g₃.value (g₃.end + 1)) None) f)
      on false e =
          ap (λ (b : Bool). cond b (headed w.value h.value m.value (m.end + 1)) None) e
          ∙ sym (ap (λ (b : Bool). cond b (headed g₁.value g₂.value g₃.value (g₃.end + 1)) None) (sym ok_same ∙ e))

-- what the reader works with gives what the definition says
pub header_is : (s : List ℕ) (w h m : Field) → Held s (past s 2) w → Held s (past s w.end) h → Held s (past s h.end) m
    → header_on s w h m ≡ header_of s
unfolding header_of
header_is s w h m a b c =
    let n₁ = near s 2 w a in
    let n₂ = subst (λ (i : ℕ). Near h (field_at s i)) n₁.end_is (near s w.end h b) in
    let n₃ = subst (λ (i : ℕ). Near m (field_at s i)) n₂.end_is (near s h.end m c) in
    header-near s w h m _ _ _ n₁ n₂ n₃

-- the reader's tests a to e, and what it answers by them
module _ (s : List ℕ) (w h m : Field) {a b c d e : Bool}
    (hw : Held s (past s 2) w) (hh : Held s (past s w.end) h) (hm : Held s (past s h.end) m)
    (is-a : a ≡ p5 s) (is_b : b ≡ sound 2 w 0 65536) (is_c : c ≡ sound w.end h 0 65536) (is-d : d ≡ sound h.end m 1 65535)
    (is-e : e ≡ white (get_or s m.end 0)) where
  is_ok : (a && (b && (c && (d && e)))) ≡ is_header s w h m
  is_ok = simp (is-a, is_b, is_c, is-d, is-e)

  abbrev on-ok : Bool → Option Header
  on-ok t = cond t (headed w.value h.value m.value (m.end + 1)) None

  pub header-yes : (a && (b && (c && (d && e)))) ≡ true → headed w.value h.value m.value (m.end + 1) ≡ header_of s
  header-yes t = sym (ap on-ok (sym is_ok ∙ t)) ∙ header_is s w h m hw hh hm

  pub header-no : (a && (b && (c && (d && e)))) ≡ false → ◌≡◌ {A = Option Header} None (header_of s)
  header-no t = sym (ap on-ok (sym is_ok ∙ t)) ∙ header_is s w h m hw hh hm

-- ---- a frame in a file

sound-high : (at : ℕ) (f : Field) (low high : ℕ) → sound at f low high ≡ true → f.value ≤ high
unfolding sound
sound-high at f low high h =
    leb-true f.value high (last-of-four (ltb at f.from) (ltb f.from f.end) (leb low f.value) (leb f.value high) h)

in-sizes-on : (s : List ℕ) (w h m : Field) (head : Header) (t : Bool) → is_header s w h m ≡ t
    → cond t (headed w.value h.value m.value (m.end + 1)) None ≡ Some head → InSizes head.width head.height head.at (length s)
in-sizes-on s w h m head true e q =
    let o = five (p5 s) (sound 2 w 0 65536) (sound w.end h 0 65536) (sound h.end m 1 65535) (white (get_or s m.end 0)) e in
    let is = ap (from-some head) q in
    let e₁ = ap (λ (x : Header). x.width) is in
    let e₂ = ap (λ (x : Header). x.height) is in
    let e₃ = ap (λ (x : Header). x.at) is in
    record {
      narrow = omega (arith, e₁, sound-high 2 w 0 65536 o.second);
      low = omega (arith, e₂, sound-high w.end h 0 65536 o.third);
      inside-it = omega (arith, e₃, white-in s m.end o.fifth);
    }
  where
    from-some : Header → Option Header → Header
    from-some d (Some x) = x
    from-some d None = d
in-sizes-on s w h m head false e q = cc

pub in-sizes : (s : List ℕ) (head : Header) → header_of s ≡ Some head → InSizes head.width head.height head.at (length s)
unfolding header_of
in-sizes s head q = in-sizes-on s _ _ _ head (is_header s _ _ _) refl q

pub area : (w h : ℕ) → w ≤ 65536 → h ≤ 65536 → w * h ≤ 4294967296
area w h p q = mul-le-mul p q

-- the two ways on from a number of samples that there is room for
module _ (most len w h m at n : ℕ) {b : ℕ} (room : n ≤ most) (is : b ≡ raster_len n m) where
  pub too_short : len - at < b → Err Short ≡ sized_on most len w h m at n
  unfolding sized_on
  too_short q = simp (le-leb n most room, sym is, lt-leb b (len - at) q)

  pub all_there : b ≤ len - at → whole w h m n at (at + b) ≡ sized_on most len w h m at n
  unfolding sized_on
  all_there q = simp (le-leb n most room, sym is, le-leb b (len - at) q)

-- ---- a number by itself

leb-held : (v : ℕ) → leb (min 65537 v) 65536 ≡ leb v 65536
leb-held v =
    below_or v 65537 (λ h. let e : min 65537 v ≡ v = omega arith in ap (λ (n : ℕ). leb n 65536) e)
    (λ h. lt-leb (min 65537 v) 65536 (omega arith) ∙ sym (lt-leb v 65536 (omega arith)))

last-of-three : (a b c : Bool) → (a && (b && c)) ≡ true → c ≡ true
last-of-three true true c h = h
last-of-three true false c h = cc
last-of-three false b c h = cc

number_same : (s : List ℕ) (f : Field) → Held s 0 f → is_number s f ≡ is_number s (number_at s 0)
number_same s f n = simp (n.ends, n.held, leb-held (number_at s 0).value)

pub a-number : (s : List ℕ) (f : Field) → Held s 0 f → is_number s f ≡ true → Some f.value ≡ word_of s
unfolding word_of
a-number s f n h =
    let v = leb-true f.value 65536 (last-of-three (ltb 0 f.end) (eqb f.end (length s)) (leb f.value 65536) h) in
    let e : f.value ≡ (number_at s 0).value = omega (arith, n.held, v) in
    ap Some e ∙ sym (ap (λ (b : Bool). cond b (Some (number_at s 0).value) None) (sym (number_same s f n) ∙ h))

pub no_number : (s : List ℕ) (f : Field) → Held s 0 f → is_number s f ≡ false → ◌≡◌ {A = Option ℕ} None (word_of s)
unfolding word_of
no_number s f n h = sym (ap (λ (b : Bool). cond b (Some (number_at s 0).value) None) (sym (number_same s f n) ∙ h))

-- ---- the raster

-- a run over all places is done when its end has passed the list's
pub all_done : {A : Type 0} (f : ℕ → A → A) (l : List A) (e : ℕ) → length l ≤ e → each (between 0 e f) l ≡ each f l
all_done f l e q = each-agree (between 0 e f) f l (λ i v h. between_in 0 e f i v (omega arith) (omega arith))

-- in the library's word
pub over-counts : (m : ℕ) (s : List ℕ) → over m s ≡ count_by (ltb m) s
unfolding over
over-counts m [] = refl
over-counts m (v ∷ s) =
    ap (λ (n : ℕ). cond (ltb m v) 1 0 + n) (over-counts m s) ∙ sym (sum_by-cons (λ (x : ℕ). cond (ltb m x) 1 0) v s)

-- the raster's bytes, case by case
module _ (s : List ℕ) (maxval j : ℕ) where
  pub one_byte : {x y : ℕ} (v : ℕ) → maxval < 256 → j < length s → y ≡ min (get_or s j 0) maxval → x ≡ y % 256 → x ≡ byte_at s maxval j v
  unfolding byte_at
  one_byte v m h e q = simp (lt-ltb maxval 256 m, lt-ltb j (length s) h) (omega arith)

  pub no_byte : (v : ℕ) → maxval < 256 → length s ≤ j → v ≡ byte_at s maxval j v
  unfolding byte_at
  no_byte v m h = simp (lt-ltb maxval 256 m, le-ltb j (length s) h)

  pub high : {x y : ℕ} (v : ℕ) → 256 ≤ maxval → j / 2 < length s → j % 2 ≡ 0 → y ≡ min (get_or s (j / 2) 0) maxval → x ≡ y / 256 → x ≡ byte_at s maxval j v
  unfolding byte_at
  high v m h z e q = simp (le-ltb maxval 256 m, lt-ltb (j / 2) (length s) h, eq-eqb (j % 2) 0 z, q, e)

  pub low : {x y : ℕ} (v : ℕ) → 256 ≤ maxval → j / 2 < length s → (j % 2 ≡ 0 → ⊥) → y ≡ min (get_or s (j / 2) 0) maxval → x ≡ y % 256
      → x ≡ byte_at s maxval j v
  unfolding byte_at
  low v m h z e q = simp (le-ltb maxval 256 m, lt-ltb (j / 2) (length s) h, ne_eqb (j % 2) 0 z, q, e)

  pub past_all : (v : ℕ) → 256 ≤ maxval → length s ≤ j / 2 → v ≡ byte_at s maxval j v
  unfolding byte_at
  past_all v m h = simp (le-ltb maxval 256 m, le-ltb (j / 2) (length s) h)

-- ---- raw frames of f32

-- the library's bytes of a word
pub nth-of : (bits k : ℕ) → k < 4 → get_or (to_le_bytes w32 bits) k 0 ≡ nth_byte bits k
unfolding nth_byte
nth-of bits zero h = refl
nth-of bits (suc zero) h = refl
nth-of bits (suc (suc zero)) h = refl
nth-of bits (suc (suc (suc zero))) h = refl
nth-of bits (suc (suc (suc (suc k)))) h = absurd (omega (arith, h))

pub float_in : (s : List Float) (j : ℕ) {bits x : ℕ} (v : ℕ) → j / 4 < length s → bits ≡ to_bits binary32 (get_or s (j / 4) nan)
    → x ≡ nth_byte bits (j % 4) → x ≡ float_byte_at s j v
unfolding float_byte_at
float_in s j v h e q = simp (lt-ltb (j / 4) (length s) h, q, e)

pub float-past : (s : List Float) (j v : ℕ) → length s ≤ j / 4 → v ≡ float_byte_at s j v
unfolding float_byte_at
float-past s j v h = simp (le-ltb (j / 4) (length s) h)

-- ---- a header, written

-- no 64-bit number has more than 20 digits
pub few : (n : ℕ) → n < 18446744073709551616 → length (decimal n) ≤ 20
few n h = decimal-short 19 n (omega arith)
