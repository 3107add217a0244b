-- The digits of a number: those of a tenth of it and one more, and how many there can be. Assumes nothing.
use Prim.Native.Nat.{ℕ, zero, suc, ◌+◌, ◌*◌, ◌/◌, ◌%◌, ◌^◌, ◌≤◌, ◌<◌}
use mathlib.Core.Path.{◌≡◌, refl, sym, ap, ◌∙◌}
use mathlib.Core.Bool.{Bool, true, false, cond}
use mathlib.Core.List.{List, [], ◌∷◌, ◌++◌}
use native.Mathlib.Omega.{arith}
use native.Mathlib.Nat.{pow-suc}
use borrow.Author.Tests.{lt-ltb, le-ltb, ltb-true, ltb-false}
use lib.Dec.{ltb}
use lib.ListN.{length, length-append}
use Rattle.num_text.specs.Text.{digits_in, decimal}
use Rattle.num_text.specs.Appended.{Appended}
use Rattle.num_text.proofs.Laws.{appended-as, appended_then}

-- more places than are needed change nothing
enough : (a b n : ℕ) → n < a → n < b → digits_in a n ≡ digits_in b n
unfolding digits_in
enough zero b n h i = absurd (omega arith)
enough (suc a) zero n h i = absurd (omega arith)
enough (suc a) (suc b) n h i = go (ltb n 10) refl (λ m j k. enough a b m j k)
  where
    go :
        (t : Bool) → ltb n 10 ≡ t → ((m : ℕ) → m < a → m < b → digits_in a m ≡ digits_in b m)
        → cond t ((48 + n) ∷ []) (digits_in a (n / 10) ++ ((48 + n % 10) ∷ []))
        ≡ cond t ((48 + n) ∷ []) (digits_in b (n / 10) ++ ((48 + n % 10) ∷ []))
    go true e f = refl
    go false e f =
        let l : 10 ≤ n = ltb-false n 10 e in
        ap (λ (l : List ℕ). l ++ ((48 + n % 10) ∷ [])) (f (n / 10) (omega arith) (omega arith))

pub decimal-one : (n : ℕ) → n < 10 → decimal n ≡ (48 + n) ∷ []
unfolding decimal digits_in
decimal-one n h = simp (lt-ltb n 10 h)

pub decimal-more : (n : ℕ) → 10 ≤ n → decimal n ≡ decimal (n / 10) ++ ((48 + n % 10) ∷ [])
unfolding decimal digits_in
decimal-more n h = simp (le-ltb n 10 h) (ap (λ (l : List ℕ). l ++ ((48 + n % 10) ∷ [])) (enough n (suc (n / 10)) (n / 10) (omega arith) (omega arith)))

pub length-one : (n : ℕ) → n < 10 → length (decimal n) ≡ 1
length-one n h = ap length (decimal-one n h)

pub length_more : (n : ℕ) → 10 ≤ n → length (decimal n) ≡ length (decimal (n / 10)) + 1
length_more n h = ap length (decimal-more n h) ∙ length-append (decimal (n / 10)) ((48 + n % 10) ∷ [])

-- below 10^(k+1) there are at most k+1
pub decimal-short : (k n : ℕ) → n < 10 ^ suc k → length (decimal n) ≤ suc k
decimal-short zero n h = omega (arith, length-one n (omega arith))
decimal-short (suc k) n h = go (ltb n 10) refl (decimal-short k (n / 10))
  where
    go : (t : Bool) → ltb n 10 ≡ t → (n / 10 < 10 ^ suc k → length (decimal (n / 10)) ≤ suc k) → length (decimal n) ≤ suc (suc k)
    go true e f = omega (arith, length-one n (ltb-true n 10 e))
    go false e f =
        let p : 10 ^ suc (suc k) ≡ 10 ^ suc k * 10 = pow-suc 10 (suc k) in
        let l = f (omega (arith, p)) in
        omega (arith, l, length_more n (ltb-false n 10 e))

-- ---- the digits put one behind the other

pub number-one :
    {b o : List ℕ} {at r d : ℕ} (n : ℕ) → n < 10 → d ≡ 48 + n → Appended b at (d ∷ []) r o → Appended b at (decimal n) r o
number-one n h e a = appended-as (ap (λ (x : ℕ). x ∷ []) e ∙ sym (decimal-one n h)) a

pub number_more :
    {b o o' : List ℕ} {at r r' d : ℕ} (n : ℕ) → 10 ≤ n → Appended b at (decimal (n / 10)) r o → d ≡ 48 + n % 10
    → Appended o r (d ∷ []) r' o' → Appended b at (decimal n) r' o'
number_more n h a e a' =
    appended-as (ap (λ (x : ℕ). decimal (n / 10) ++ (x ∷ [])) e ∙ sym (decimal-more n h)) (appended_then a a')
