-- Texts put one behind the other, each in few bytes. Assumes nothing.
use Prim.Native.Nat.{ℕ, ◌+◌, ◌≤◌, ◌<◌}
use mathlib.Core.Path.{◌≡◌, sym}
use mathlib.Core.List.{List, ◌++◌}
use native.Mathlib.Omega.{arith}
use lib.ListN.{length}
use lib.Seq.{length-take-le}
use Rattle.num_text.specs.Text.{decimal}
use Rattle.num_text.specs.Appended.{Appended}
use Rattle.num_text.proofs.Laws.{appended-as, appended_then}
use Rattle.num_text.proofs.Digits.{decimal-short}
use Rattle.say_found.specs.Lines.{count, Within, Said}

-- no 64-bit number has more than 20 digits
pub few : (n : ℕ) → n < 18446744073709551616 → length (decimal n) ≤ 20
few n h = decimal-short 19 n (omega arith)

-- bytes that are the text p
pub within : {b q o : List ℕ} {at r : ℕ} (k : ℕ) (p : List ℕ) → length q ≤ k → q ≡ p → Appended b at q r o → Within k b at p r o
within k p h e a = let c = appended-as e a in record { appended = c; short = omega (arith, a.ends) }

-- one after the other
pub within-then : {b p q o o' : List ℕ} {at r r' : ℕ} (j k : ℕ) → Within j b at p r o → Within k o r q r' o' → Within (j + k) b at (p ++ q) r' o'
within-then j k x y = record { appended = appended_then x.appended y.appended; short = omega (arith, x.short, y.short) }

-- more bytes, and the same text said otherwise
pub within-as : {b p q o : List ℕ} {at r : ℕ} (j k : ℕ) → j ≤ k → p ≡ q → Within j b at p r o → Within k b at q r o
within-as j k h e x = record { appended = appended-as e x.appended; short = omega (arith, x.short) }

pub count-is : {b o o' l : List ℕ} {at r r' : ℕ} (n : ℕ) → n < 18446744073709551616 → Appended b at l r o → Appended o r (decimal n) r' o'
    → Within (length l + 20) b at (count l n) r' o'
unfolding count
count-is n h x y = record { appended = appended_then x y; short = omega (arith, x.ends, y.ends, few n h) }

-- a text at the start of a buffer that is long enough
pub said : {b p o : List ℕ} {r : ℕ} (k : ℕ) → Within k b 0 p r o → k ≤ length b → length o ≡ length b → Said p b r o
said {b} {p} {o} {r} k x h e =
    let fits : r ≤ length o = omega (arith, x.short) in
    record { said = x.appended; fits = fits; part = sym (length-take-le r o fits) }
