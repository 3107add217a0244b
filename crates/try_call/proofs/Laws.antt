-- The parts and the calls of an input, one law for each way in which the readers return; and the digits of one more byte. Assumes nothing.
use Prim.Native.Nat.{ℕ, suc, ◌+◌, ◌-◌, ◌*◌, ◌≤◌, ◌<◌}
use mathlib.Core.Bool.{Bool, true, false, ◌&&◌}
use mathlib.Core.List.{List, [], ◌∷◌, ◌++◌, append_assoc}
use mathlib.Core.Path.{◌≡◌, refl, sym, ap, subst, ◌∙◌}
use native.Mathlib.Omega.{arith}
use native.Mathlib.Nat.{zero-add}
use native.Mathlib.Numerals.{add-one}
use borrow.Author.Tests.{le-leb, lt-leb, leb-true}
use lib.Dec.{leb}
use lib.ListN.{length, take, get_or, set, length-set}
use lib.Seq.{take-suc-set, paste, paste-suc}
use Rattle.num_words.specs.Words.{big}
use Rattle.std.specs.Prelude.{Option, Some, None}
use Rattle.try_call.specs.declared.Span.{Span}
use Rattle.try_call.specs.declared.Call.{Call}
use Rattle.try_call.specs.Calls.{
  Inside,
  pick,
  counted_in,
  part_in,
  Counted,
  fields_of,
  small_of,
  kept_of,
  with_samples,
  with_list,
  call_in,
  sound_in,
  Read,
}
use Rattle.try_call.specs.Hex.{pair_of, hex_to}

module _ (s : List ℕ) where
  -- ---- a part

  pub part_cut : (at : ℕ) → length s < at + 4 + big 4 s at → Counted s at None
  part_cut at h = record { is = simp (lt-leb _ _ h); inside = tt }

  pub part-whole :
      (at : ℕ) {n : ℕ} → n ≡ big 4 s at → at + 4 + n ≤ length s
      → Counted s at (Some (record { start = at + 4; end = at + 4 + n }))
  part-whole at e h =
      record { is = rw e (simp (le-leb _ _ (rw e at h))); inside = record { order = omega arith; held = h } }

  part-inside : (at : ℕ) → part_in s (counted_in s at)
  part-inside at = go (leb (at + 4 + big 4 s at) (length s)) (λ h. leb-true _ _ h)
    where
      go :
          (b : Bool) → (b ≡ true → at + 4 + big 4 s at ≤ length s)
          → part_in s (pick b (record { start = at + 4; end = at + 4 + big 4 s at }))
      go true h = record { order = omega arith; held = h refl }
      go false h = tt

  -- ---- a call

  kept-sound : (c : Call) → Inside s c.list → Inside s c.samples → sound_in s (kept_of c)
  unfolding small_of
  kept-sound c l p =
      go (leb c.form 7) (leb c.marks 64) (leb c.names 64) (leb (c.samples.end - c.samples.start) 256)
      (λ h. leb-true _ _ h) (λ h. leb-true _ _ h) (λ h. leb-true _ _ h)
    where
      go :
          (f m n d : Bool) → (m ≡ true → c.marks ≤ 64) → (n ≡ true → c.names ≤ 64)
          → (d ≡ true → c.samples.end - c.samples.start ≤ 256) → sound_in s (pick (f && m && n && d) c)
      go true true true true hm hn hd =
          record { list = l; samples = p; few = hd refl; marks = hm refl; names = hn refl }
      go true true true false hm hn hd = tt
      go true true false d hm hn hd = tt
      go true false n d hm hn hd = tt
      go false m n d hm hn hd = tt

  samples-sound : (at : ℕ) {l : Span} (q : Option Span) → Inside s l → part_in s q → sound_in s (with_samples s at l q)
  samples-sound at (Some p) i h = kept-sound _ i h
  samples-sound at None i h = tt

  list-sound : (at : ℕ) (q : Option Span) → part_in s q → sound_in s (with_list s at q)
  list-sound at (Some l) i = samples-sound at (counted_in s (l.end + 52)) i (part-inside (l.end + 52))
  list-sound at None i = tt

  -- the definition says enough: a call that is found may be run
  pub read_is : (at : ℕ) {r : Option Call} → r ≡ call_in s at → Read s at r
  read_is at e =
      record { is = e; sound = subst (sound_in s) (sym e) (list-sound at (counted_in s (at + 4)) (part-inside (at + 4))) }

  module _ (at : ℕ) {q : Option Span} where
    pub read-list : {l : Span} {r : Option Call} → Counted s (at + 4) q → q ≡ Some l → r ≡ with_list s at (Some l) → Read s at r
    read-list c e h = read_is at (h ∙ ap (with_list s at) (sym e ∙ c.is))

    pub list-whole :
        {l p : Span} {c : Call} {r : Option Call} → Counted s (l.end + 52) q → q ≡ Some p → c ≡ fields_of s at l p → r ≡ kept_of c
        → r ≡ with_list s at (Some l)
    list-whole {l} i e f h = h ∙ ap kept_of f ∙ ap (with_samples s at l) (sym e ∙ i.is)

-- ---- bytes

pub pair_put :
    (t : List ℕ) (at x y : ℕ) → at + 2 ≤ length t → take (at + 2) (set (set t at x) (at + 1) y) ≡ take at t ++ (x ∷ y ∷ [])
pair_put t at x y h =
    let two : at + 2 ≡ suc (at + 1) = omega arith in
    let first : take (at + 1) (set t at x) ≡ take at t ++ (x ∷ []) = rw add-one (take-suc-set t at x (omega arith)) in
    ap (λ (n : ℕ). take n (set (set t at x) (at + 1) y)) two
    ∙ take-suc-set (set t at x) (at + 1) y (simp length-set (omega arith))
    ∙ ap (λ (l : List ℕ). l ++ (y ∷ [])) first
    ∙ append_assoc (take at t) (x ∷ []) (y ∷ [])

pub hex-next :
    (s : List ℕ) (i : ℕ) (t t' : List ℕ) → take (i * 2) t ≡ hex_to s i → take (i * 2 + 2) t' ≡ take (i * 2) t ++ pair_of (get_or s i 0)
    → take ((i + 1) * 2) t' ≡ hex_to s (i + 1)
unfolding hex_to
hex-next s i t t' e h =
    let n : (i + 1) * 2 ≡ i * 2 + 2 = omega arith in
    ap (λ (k : ℕ). take k t') n ∙ h ∙ ap (λ (l : List ℕ). l ++ pair_of (get_or s i 0)) e ∙ rw add-one refl
