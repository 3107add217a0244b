-- Texts put one behind the other, each in few bytes. Assumes nothing.
use Prim.Native.Nat.{ℕ, ◌+◌, ◌≤◌, ◌<◌}
use mathlib.Core.Path.{◌≡◌, sym, ap}
use mathlib.Core.List.{List, [], ◌∷◌, ◌++◌}
use native.Mathlib.Omega.{arith}
use borrow.Author.Tests.{eq-eqb, ne_eqb}
use lib.ListN.{length}
use Rattle.num_text.specs.Text.{decimal}
use Rattle.num_text.specs.Appended.{Appended}
use Rattle.num_text.proofs.Laws.{appended-none, appended-as, appended_then}
use Rattle.num_text.proofs.Digits.{decimal-short}
use Rattle.dng.specs.declared.Reason.{Reason}
use Rattle.say_report.specs.Report.{line, line_if, Within, why_text}

-- no 64-bit number has more than 20 digits
pub few : (n : ℕ) → n < 18446744073709551616 → length (decimal n) ≤ 20
few n h = decimal-short 19 n (omega arith)

-- bytes that are the text p
pub within : {b q o : List ℕ} {at r : ℕ} (k : ℕ) (p : List ℕ) → length q ≤ k → q ≡ p → Appended b at q r o → Within k b at p r o
within k p h e a = let c = appended-as e a in record { appended = c; short = omega (arith, a.ends) }

-- one after the other
pub within-then : {b p q o o' : List ℕ} {at r r' : ℕ} (j k : ℕ) → Within j b at p r o → Within k o r q r' o' → Within (j + k) b at (p ++ q) r' o'
within-then j k x y = record { appended = appended_then x.appended y.appended; short = omega (arith, x.short, y.short) }

-- more bytes, and the same text said otherwise
pub within-as : {b p q o : List ℕ} {at r : ℕ} (j k : ℕ) → j ≤ k → p ≡ q → Within j b at p r o → Within k b at q r o
within-as j k h e x = record { appended = appended-as e x.appended; short = omega (arith, x.short) }

-- ---- lines

pub line-is : {b o o' o'' l : List ℕ} {at r r' r'' : ℕ} (n : ℕ) → n < 18446744073709551616 → Appended b at l r o → Appended o r (decimal n) r' o'
    → Appended o' r' (10 ∷ []) r'' o'' → Within (length l + 21) b at (line l n) r'' o''
unfolding line
line-is n h x y z =
    record { appended = appended_then (appended_then x y) z; short = omega (arith, x.ends, y.ends, z.ends, few n h) }

pub no_line : (k : ℕ) (b l : List ℕ) (at n : ℕ) → n ≡ 0 → Within k b at (line_if l n) at b
unfolding line_if
no_line k b l at n e =
    record { appended = appended-as (simp (eq-eqb n 0 e)) (appended-none b at); short = omega arith }

pub a-line : {b o : List ℕ} {at r : ℕ} (k n : ℕ) (l : List ℕ) → (n ≡ 0 → ⊥) → Within k b at (line l n) r o → Within k b at (line_if l n) r o
unfolding line_if
a-line k n l h x = record { appended = appended-as (simp (ne_eqb n 0 h)) x.appended; short = x.short }

pub counted : {b o : List ℕ} {at r n : ℕ} (k : ℕ) (l : List ℕ) (m : ℕ) → n ≡ m → Within k b at (line_if l n) r o → Within k b at (line_if l m) r o
counted k l m e x = record { appended = appended-as (ap (line_if l) e) x.appended; short = x.short }

-- what was wrong with a list, by its reason
pub said :
    {b o : List ℕ} {p q : Reason} {j at r : ℕ} (n : ℕ) → p ≡ q → j ≤ 200 → Within j b at (line (why_text q) n) r o
    → Within 200 b at (line (why_text p) n) r o
said {j = j} n e h x = within-as j 200 h (ap (λ (k : Reason). line (why_text k) n) (sym e)) x
