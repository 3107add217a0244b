-- Appending: one byte, many bytes, nothing, and one text after another. Assumes nothing.
use Prim.Native.Nat.{ℕ, ◌+◌, ◌-◌, ◌≤◌, ◌<◌}
use mathlib.Core.Path.{◌≡◌, refl, sym, ap, ap₂, ◌∙◌}
use mathlib.Core.List.{List, [], ◌∷◌, ◌++◌, append_assoc, append-nil}
use native.Mathlib.Omega.{arith}
use native.Mathlib.Nat.{add-zero}
use native.Mathlib.Numerals.{add-one}
use lib.ListN.{length, take, drop, set, length-append, take-append-drop}
use lib.Seq.{take-suc-set, drop-set-lt, drop-drop}
use borrow.Rule.Slice.PartMut.{put_mid}
use Rattle.std.proofs.lemmas.Slice.{take-put_mid, drop-put_mid}
use Rattle.num_text.specs.Appended.{Appended}

pub appended-byte : (b : List ℕ) (at x : ℕ) → at < length b → Appended b at (x ∷ []) (at + 1) (set b at x)
appended-byte b at x h =
    record { ends = refl; written = rw add-one (take-suc-set b at x h); after = drop-set-lt (at + 1) b at x (omega arith) }

-- the part from `at` on was written over by p
pub appended-copied :
    (b : List ℕ) (at : ℕ) (p : List ℕ) {q : List ℕ} → at + length p ≤ length b → q ≡ p
    → Appended b at p (at + length p) (put_mid at (at + length p - at) b q)
appended-copied b at p {q} h e =
    let l : length q ≡ length p = ap length e in
    record {
      ends = refl;
      written = take-put_mid at (at + length p - at) b q (at + length p) (omega arith) (omega arith)
          ∙ ap (λ (l : List ℕ). take at b ++ l) e;
      after = drop-put_mid at (at + length p - at) b q (at + length p) (omega arith) (omega arith) (omega arith);
    }

pub appended-none : (b : List ℕ) (at : ℕ) → Appended b at [] at b
appended-none b at = record { ends = sym (add-zero at); written = sym (append-nil (take at b)); after = refl }

-- the same bytes, said otherwise
pub appended-as : {b p q : List ℕ} {at r : ℕ} {o : List ℕ} → p ≡ q → Appended b at p r o → Appended b at q r o
appended-as {b} {at = at} e h =
    record { ends = h.ends ∙ ap (λ (l : List ℕ). at + length l) e; written = h.written ∙ ap (λ (l : List ℕ). take at b ++ l) e; after = h.after }

-- what stands behind stays as it is, also behind a second text
pub after_more :
    (b : List ℕ) {q o o' : List ℕ} {r r' : ℕ} → drop r o ≡ drop r b → Appended o r q r' o' → drop r' o' ≡ drop r' b
after_more b {q} {o} {o'} {r} {r'} e a =
    a.after ∙ ap (λ (n : ℕ). drop n o) a.ends ∙ sym (drop-drop (length q) r o) ∙ ap (drop (length q)) e
    ∙ drop-drop (length q) r b ∙ ap (λ (n : ℕ). drop n b) (sym a.ends)

-- one text after another
pub appended_then :
    {b p q o o' : List ℕ} {at r r' : ℕ} → Appended b at p r o → Appended o r q r' o' → Appended b at (p ++ q) r' o'
appended_then {b} {p} {q} {o} {o'} {at} {r} {r'} h i =
    record {
      ends = omega (arith, h.ends, i.ends, length-append p q);
      written = i.written ∙ ap (λ (l : List ℕ). l ++ q) h.written ∙ append_assoc (take at b) p q;
      after = after_more b h.after i;
    }

-- the whole buffer, so that two buffers to which the same was appended are equal
pub appended-whole : {b p o : List ℕ} {at r : ℕ} → Appended b at p r o → o ≡ (take at b ++ p) ++ drop r b
appended-whole {b} {p} {o} {at} {r} h = sym (take-append-drop r o) ∙ ap₂ (λ (l m : List ℕ). l ++ m) h.written h.after
