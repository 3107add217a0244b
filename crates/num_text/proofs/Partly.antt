-- A text that a loop puts down piece by piece: what is written and what is left make up the whole. Assumes nothing.
use Prim.Native.Nat.{ℕ, ◌+◌}
use mathlib.Core.Path.{◌≡◌, refl, sym, ap, ◌∙◌}
use mathlib.Core.List.{List, [], ◌++◌, append_assoc, append-nil}
use native.Mathlib.Omega.{arith}
use lib.ListN.{length, take, drop, length-append}
use Rattle.num_text.specs.Appended.{Appended}
use Rattle.num_text.proofs.Laws.{after_more}

-- `left` is still to be put at r, where the whole text was to be put at `at` of the buffer b; the buffer is now o
pub record Partly (b : List ℕ) (at r : ℕ) (o left total : List ℕ) : Type 0 where
  pub ends : r + length left ≡ at + length total
  pub written : take r o ++ left ≡ take at b ++ total
  pub after : drop r o ≡ drop r b

pub partly-start : (b : List ℕ) (at : ℕ) {left total : List ℕ} → left ≡ total → Partly b at at b left total
partly-start b at e = record { ends = ap (λ (l : List ℕ). at + length l) e; written = ap (λ (l : List ℕ). take at b ++ l) e; after = refl }

-- one piece more
pub partly_more :
    {b o o' left total p rest : List ℕ} {at r r' : ℕ} → left ≡ p ++ rest → Partly b at r o left total → Appended o r p r' o'
    → Partly b at r' o' rest total
partly_more {b} {o} {o'} {left} {total} {p} {rest} {at} {r} {r'} e h a =
    record {
      ends = omega (arith, h.ends, a.ends, ap length e, length-append p rest);
      written =
          ap (λ (l : List ℕ). l ++ rest) a.written ∙ append_assoc (take r o) p rest ∙ ap (λ (l : List ℕ). take r o ++ l) (sym e)
          ∙ h.written;
      after = after_more b h.after a;
    }

-- nothing is left
pub partly-end : {b o left total : List ℕ} {at r : ℕ} → left ≡ [] → Partly b at r o left total → Appended b at total r o
partly-end {b} {o} {left} {total} {at} {r} e h =
    record {
      ends = omega (arith, h.ends, ap length e);
      written = sym (append-nil (take r o)) ∙ ap (λ (l : List ℕ). take r o ++ l) (sym e) ∙ h.written;
      after = h.after;
    }
