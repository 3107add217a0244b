-- The cases of an entry and of its body: one law for each way in which the readers return. Assumes nothing.
use mathlib.Core.Path.{◌≡◌, sym, ◌∙◌}
use mathlib.Core.List.{List}
use Prim.Native.Nat.{ℕ, ◌+◌, ◌-◌, ◌*◌, ◌/◌, ◌≤◌, ◌<◌}
use native.Mathlib.Nat.{add-sub_cancel_left}
use native.Mathlib.Omega.{arith}
use borrow.Author.Tests.{le-leb, lt-leb}
use lib.ListN.{length, take, drop, length-drop, drop_of_length-le}
use lib.Seq.{take_all, drop-length}
use Rattle.dng.specs.declared.Cursor.{Cursor}
use Rattle.dng.specs.declared.Entry.{Entry}
use Rattle.dng.specs.declared.Reason.TheVariants as Why
use Rattle.std.specs.Prelude.{Ok, Err}
use Rattle.dng.specs.List.{refusal, header_why, header_at, next_at}
use Rattle.dng.proofs.Cuts.{cut-same}

-- ---- an entry

module _ (s : List ℕ) (c : Cursor) where
  -- fewer than 16 bytes are left: the word that is not whole starts at the last multiple of four
  pub cut :
      length s < c.at + 16 → Err (refusal Why.Ends (c.at + (length s - c.at) / 4 * 4)) ≡ next_at s c
  unfolding next_at header_why
  cut h = simp (lt-leb _ _ h, cut-same 4 4 (length s - c.at) (omega arith) (omega arith))

  -- the body ends past the list
  pub long :
      {e : Entry} → e ≡ header_at s c.at → c.at + 16 ≤ length s → length s < c.at + 16 + e.len
      → Err (refusal Why.TooLong (c.at + 12)) ≡ next_at s c
  unfolding next_at header_why
  long p h l = simp (le-leb _ _ h, lt-leb _ _ (rw p at l))

  pub found : {e : Entry} → e ≡ header_at s c.at → c.at + 16 ≤ length s → c.at + 16 + e.len ≤ length s → Ok (record { entry = e; next = record { at = c.at + 16 + e.len } })
      ≡ next_at s c
  unfolding next_at
  found p h l = rw p (simp (le-leb _ _ h, le-leb _ _ (rw p at l)))

-- ---- a body, as the code takes its part of the list

-- what is left from a position on
rest : (s : List ℕ) (at n : ℕ) → length s ≤ at + n → take n (drop at s) ≡ drop at s
rest s at n h = take_all n (drop at s) (simp length-drop (omega arith))

module _ (s : List ℕ) (at len : ℕ) where
  -- nothing of the body stands in the list
  pub outside : length s ≤ at → take (length s - length s) (drop (length s) s) ≡ take len (drop at s)
  outside h = rest s (length s) (length s - length s) (omega arith) ∙ drop-length s ∙ sym (drop_of_length-le s h) ∙ sym (rest s at len (omega arith))

  -- the list ends inside the body
  pub across : length s ≤ at + len → take (length s - at) (drop at s) ≡ take len (drop at s)
  across h = rest s at (length s - at) (omega arith) ∙ sym (rest s at len h)

  pub inside : take (at + len - at) (drop at s) ≡ take len (drop at s)
  inside = simp add-sub_cancel_left
