-- A scan, over any marks: one position more, positions that are passed over, and when there are too many. Assumes nothing.
use Prim.Native.Nat.{ℕ, zero, suc, ◌+◌, ◌-◌, ◌*◌, ◌≤◌, ◌<◌, min}
use mathlib.Core.Path.{◌≡◌, refl, sym, ap, subst, ◌∙◌}
use mathlib.Core.Bool.{Bool, true, false, cond}
use mathlib.Core.List.{List, [], ◌∷◌, ◌++◌, append-nil}
use native.Mathlib.Nat.{add-zero, add-suc, suc-add, zero-add, suc-mul, mul_comm, mul-le-mul_right}
use native.Mathlib.Numerals.{add-one}
use native.Mathlib.Omega.{arith}
use lib.ListN.{length, get_or, take, drop, set, length-set, length-take, length-drop}
use lib.Seq.{take-suc-set, get_or-take, get_or-drop}
use Rattle.dng.specs.declared.Window.{Window}
use Rattle.dng.specs.Repair.{count_below, positions, bad_value}
use Rattle.std.specs.Prelude.{Some}
use Rattle.fix_scratch.specs.Marks.{chosen, Holds}
use Rattle.fix_constant.specs.Parts.{Whole, Part, Before, Clear, Keeps}
use Rattle.fix_constant.proofs.Places.{place_in, bad-read}

-- the last number looked at stands last
chosen-next : (m : ℕ → Bool) (a n : ℕ) → chosen m a (suc n) ≡ chosen m a n ++ cond (m (a + n)) ((a + n) ∷ []) []
unfolding chosen
chosen-next m a zero = rw add-zero refl
chosen-next m a (suc n) = go (m a) (chosen-next m (suc a) n ∙ rw (suc-add, ← add-suc) refl)
  where
    go : (b : Bool) → chosen m (suc a) (suc n) ≡ chosen m (suc a) n ++ cond (m (a + suc n)) ((a + suc n) ∷ []) []
        → cond b (a ∷ chosen m (suc a) (suc n)) (chosen m (suc a) (suc n))
        ≡ cond b (a ∷ chosen m (suc a) n) (chosen m (suc a) n) ++ cond (m (a + suc n)) ((a + suc n) ∷ []) []
    go true e = ap (λ (l : List ℕ). a ∷ l) e
    go false e = e

count-more : (m : ℕ → Bool) (a k : ℕ) → count_below a m ≤ count_below (a + k) m
unfolding count_below
count-more m a zero = rw add-zero (omega arith)
count-more m a (suc k) = rw add-suc (omega (arith, count-more m a k))

pub count-mono : (m : ℕ → Bool) (a b : ℕ) → a ≤ b → count_below a m ≤ count_below b m
count-mono m a b h = subst (λ (n : ℕ). count_below a m ≤ count_below n m) {x = a + (b - a)} (omega arith) (count-more m a (b - a))

pub hold-start : (m : ℕ → Bool) (s : List ℕ) → Holds 0 m s s 0
unfolding chosen count_below
hold-start m s = record { all = refl; fits = omega arith; front = refl }

module _ {p : ℕ} {m : ℕ → Bool} {s s' : List ℕ} {n : ℕ} (h : Holds p m s s' n) where
  -- a position that is not marked
  pub hold-past : m p ≡ false → Holds (p + 1) m s s' n
  unfolding count_below
  hold-past e =
      rw add-one
      (record {
        all = rw e (h.all ∙ omega arith);
        fits = h.fits;
        front = h.front ∙ sym (chosen-next m 0 p ∙ rw (zero-add, e, append-nil) refl);
      })

  -- a marked position, with room
  pub hold-more : m p ≡ true → length s' ≡ length s → n < length s → Holds (p + 1) m s (set s' n p) (n + 1)
  unfolding count_below
  hold-more e l r =
      rw (add-one p)
      (record {
        all = rw e (omega (arith, h.all));
        fits = omega arith;
        front = rw (add-one n)
            (take-suc-set s' n p (omega arith) ∙ ap (λ (t : List ℕ). t ++ (p ∷ [])) h.front
            ∙ sym (chosen-next m 0 p ∙ rw (zero-add, e) refl));
      })

  -- a marked position, with no room
  pub hold-full : (top : ℕ) → m p ≡ true → n ≡ length s → p < top → length s < count_below top m
  unfolding count_below
  hold-full top e f l =
      let one : count_below (suc p) m ≡ 1 + count_below p m = rw e refl in
      omega (arith, h.all, one, count-mono m (suc p) top l)

  -- another name for the position, and a scratch of the same length
  pub hold_at : (q : ℕ) → p ≡ q → Holds q m s s' n
  hold_at q e = subst (λ (z : ℕ). Holds z m s s' n) e h

  pub hold-base : (t : List ℕ) → length s ≡ length t → Holds p m t s' n
  hold-base t e = record { all = h.all; fits = omega (arith, h.fits); front = h.front }

-- positions that are all passed over
pub hold-skip : (k : ℕ) {p : ℕ} {m : ℕ → Bool} {s s' : List ℕ} {n : ℕ} → Holds p m s s' n → ((q : ℕ) → p ≤ q → q < p + k → m q ≡ false)
    → Holds (p + k) m s s' n
hold-skip zero h f = rw add-zero h
hold-skip (suc k) {p} h f =
    hold_at (hold-past (hold-skip k h (λ q a b. f q a (omega arith))) (f (p + k) (omega arith) (omega arith))) (p + suc k) (omega arith)

-- no position at all is marked
pub hold-none : (top : ℕ) (m : ℕ → Bool) (s : List ℕ) → ((q : ℕ) → q < top → m q ≡ false) → Holds top m s s 0
hold-none top m s f = hold_at (hold-skip top (hold-start m s) (λ q a b. f q (omega arith))) top (omega arith)

-- ---- a part of a row

-- while columns up to `end` of row y are scanned: those before x are gathered
pub record Scanned (w : Window) (m : ℕ → Bool) (y end : ℕ) (s s' : List ℕ) (n x : ℕ) : Type 0 where
  pub within : x ≤ end
  pub long : length s' ≡ length s
  pub held : Holds (y * w.width + x) m s s' n

module _ {w : Window} {m : ℕ → Bool} {y end : ℕ} {s s' : List ℕ} {n x : ℕ} (t : Scanned w m y end s s' n x) where
  pub scan-past : x < end → m (y * w.width + x) ≡ false → Scanned w m y end s s' n (x + 1)
  scan-past h e =
      record { within = omega arith; long = t.long; held = hold_at (hold-past t.held e) (y * w.width + (x + 1)) (omega arith) }

  pub scan-more : {s'' : List ℕ} {v k : ℕ} → x < end → m (y * w.width + x) ≡ true → v ≡ y * w.width + x → Keeps s' s'' n v (Some k)
      → Scanned w m y end s s'' k (x + 1)
  scan-more h e g k =
      rw (k.1, g, k.2)
      (record {
        within = omega arith;
        long = simp length-set t.long;
        held = hold_at (hold-more t.held e t.long (omega (arith, k.0, t.long))) (y * w.width + (x + 1)) (omega arith);
      })

  pub scan-full : x < end → m (y * w.width + x) ≡ true → length s' ≤ n → length s < count_below (y * w.width + end) m
  scan-full h e f = hold-full t.held (y * w.width + end) e (omega (arith, t.long, t.held.fits)) (omega arith)

  pub scan-end : end ≤ x → Holds (y * w.width + end) m s s' n
  scan-end h = hold_at t.held (y * w.width + end) (omega (arith, t.within))

  -- what was gathered, as a later part asks it
  pub scan-before : Before w m s' n y x
  scan-before = hold-base t.held s' (sym t.long)

  -- and what that part answers, of the whole row
  pub scan-join : {s'' : List ℕ} {k e : ℕ} → e ≤ end → length s'' ≡ length s' → Holds (y * w.width + e) m s' s'' k
      → Scanned w m y end s s'' k e
  scan-join h l g = record { within = h; long = l ∙ t.long; held = hold-base g s t.long }

  pub scan-over : (e : ℕ) → e ≤ end → length s' < count_below (y * w.width + e) m → length s < count_below (y * w.width + end) m
  scan-over e h g = omega (arith, t.long, count-mono m (y * w.width + e) (y * w.width + end) (omega arith))

  -- of 64 columns, or of what is left, one too many
  pub scan-many : (e : ℕ) → e ≡ min end (x + 64) → length s' < count_below (y * w.width + e) m → length s < count_below (y * w.width + end) m
  scan-many e b g = scan-over e (omega arith) g

-- a part that is clear
pub scan-clear : (w : Window) (y from end : ℕ) {m : ℕ → Bool} {s : List ℕ} {n : ℕ} → from ≤ end → Before w m s n y from
    → Clear w m y from end → Holds (y * w.width + end) m s s n
scan-clear w y from end {m} h b c = hold_at (hold-skip (end - from) b unmarked) (y * w.width + end) (omega arith)
  where
    unmarked : (q : ℕ) → y * w.width + from ≤ q → q < y * w.width + from + (end - from) → m q ≡ false
    unmarked q l k =
        let x : ℕ = q - y * w.width in
        subst (λ (z : ℕ). m z ≡ false) {x = y * w.width + x} (omega arith) (c x (omega arith) (omega arith))

-- ---- the rows

-- the rows before y are gathered
pub record Rows (w : Window) (m : ℕ → Bool) (s s' : List ℕ) (n y : ℕ) : Type 0 where
  pub within : y ≤ w.height
  pub long : length s' ≡ length s
  pub held : Holds (y * w.width + 0) m s s' n

pub rows_start : (w : Window) (m : ℕ → Bool) (s : List ℕ) → Rows w m s s 0 0
rows_start w m s = record { within = omega arith; long = refl; held = hold_at (hold-start m s) (0 * w.width + 0) (omega arith) }

row-top : (w : Window) (y : ℕ) → y < w.height → y * w.width + w.width ≤ positions w
row-top w y h = omega (arith, suc-mul y w.width, mul-le-mul_right w.width h, mul_comm w.width w.height)

module _ {w : Window} {m : ℕ → Bool} {s s' : List ℕ} {n y : ℕ} (t : Rows w m s s' n y) where
  pub rows_before : Before w m s' n y 0
  rows_before = hold-base t.held s' (sym t.long)

  pub rows_join : {s'' : List ℕ} {k : ℕ} → y < w.height → length s'' ≡ length s' → Holds (y * w.width + w.width) m s' s'' k
      → Rows w m s s'' k (y + 1)
  rows_join h l g =
      record {
        within = omega arith;
        long = l ∙ t.long;
        held = hold_at (hold-base g s t.long) ((y + 1) * w.width + 0) (rw add-one (omega (arith, suc-mul y w.width)));
      }

  pub rows-over : y < w.height → length s' < count_below (y * w.width + w.width) m → length s < count_below (positions w) m
  rows-over h g = omega (arith, t.long, count-mono m (y * w.width + w.width) (positions w) (row-top w y h))

  pub rows_end : w.height ≤ y → Holds (positions w) m s s' n
  rows_end h =
      let last : y ≡ w.height = omega (arith, t.within) in
      hold_at t.held (positions w) (rw last (omega (arith, mul_comm w.width w.height)))

-- ---- a test of many at once

-- of a window of one plane the samples of a part of a row lie side by side
module _ {A : Type 0} (d : A) (w : Window) (test : A → Bool) (s : List A) (y from end at past : ℕ) (g : Whole (length s) w)
    (p : Part w y from end) (h : from < end) (e : w.planes ≡ 1) (a : at ≡ (y * w.stride + from) * w.planes + 0) (b : past ≡ at + (end - from)) where
  side : (x : ℕ) → (y * w.stride + x) * w.planes + 0 ≡ y * w.stride + x
  side x = rw e (omega arith)

  pub part_in : past ≤ length s
  part_in =
      let last = place_in w (end - 1) y (omega (arith, p.edge)) p.row (length s) 0 g.fits.some g.full in
      omega (arith, b, a, side from, side (end - 1), last)

  pub part-clear : ((k : ℕ) → k < length (take (past - at) (drop at s)) → test (get_or (take (past - at) (drop at s)) k d) ≡ false)
      → Clear w (bad_value d w test s) y from end
  part-clear f x l k =
      bad-read d w test s x y (at + (x - from)) false (omega (arith, p.edge)) (omega (arith, a, side from, side x))
      (subst (λ (v : A). test v ≡ false) read (f (x - from) (subst (λ (n : ℕ). x - from < n) (sym long) (omega (arith, b)))))
    where
      long : length (take (past - at) (drop at s)) ≡ past - at
      long = simp (length-take, length-drop) (omega (arith, part_in, b))

      read : get_or (take (past - at) (drop at s)) (x - from) d ≡ get_or s (at + (x - from)) d
      read = get_or-take (past - at) (drop at s) (x - from) d (omega (arith, b)) ∙ get_or-drop at s (x - from) d
