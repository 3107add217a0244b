-- `say_name::name` meets its contract, name by name. Assumes nothing.
use Prim.Native.Nat.{ℕ, zero, suc, ◌≤◌, ◌<◌}
use mathlib.Core.Path.{◌≡◌, refl, sym, ap}
use mathlib.Core.Bool.{Bool, true, false}
use native.Mathlib.Omega.{arith}
use borrow.Author.Tests.{ltb-true, ltb-false}
use lib.Dec.{ltb}
use lib.ListN.{get_or-eq_default}
use Rattle.num_text.specs.Text.{text}
use Rattle.say_name.specs.Name.{name_texts, name_text}
use Rattle.say_name.proofs.name.Goals as goal

other : (code : ℕ) → (1 ≤ code → code < 14 → ⊥) → text "Other" ≡ name_text code
unfolding name_text
other zero h = refl
other (suc n) h = go (ltb (suc n) 14) refl
  where
    go : (b : Bool) → ltb (suc n) 14 ≡ b → text "Other" ≡ name_text (suc n)
    go true e = absurd (h (omega arith) (ltb-true (suc n) 14 e))
    go false e = sym (get_or-eq_default name_texts (text "Other") (ltb-false (suc n) 14 e))

pub returns-in-1 : goal.returns-in-1
unfolding name_text
returns-in-1 c = sym (ap name_text c.in-1.is)

pub returns-in-2 : goal.returns-in-2
unfolding name_text
returns-in-2 c = sym (ap name_text c.in-2.is)

pub returns-in-3 : goal.returns-in-3
unfolding name_text
returns-in-3 c = sym (ap name_text c.in-3.is)

pub returns-in-4 : goal.returns-in-4
unfolding name_text
returns-in-4 c = sym (ap name_text c.in-4.is)

pub returns-in-5 : goal.returns-in-5
unfolding name_text
returns-in-5 c = sym (ap name_text c.in-5.is)

pub returns-in-6 : goal.returns-in-6
unfolding name_text
returns-in-6 c = sym (ap name_text c.in-6.is)

pub returns-in-7 : goal.returns-in-7
unfolding name_text
returns-in-7 c = sym (ap name_text c.in-7.is)

pub returns-in-8 : goal.returns-in-8
unfolding name_text
returns-in-8 c = sym (ap name_text c.in-8.is)

pub returns-in-9 : goal.returns-in-9
unfolding name_text
returns-in-9 c = sym (ap name_text c.in-9.is)

pub returns-in-10 : goal.returns-in-10
unfolding name_text
returns-in-10 c = sym (ap name_text c.in-10.is)

pub returns-in-11 : goal.returns-in-11
unfolding name_text
returns-in-11 c = sym (ap name_text c.in-11.is)

pub returns-in-12 : goal.returns-in-12
unfolding name_text
returns-in-12 c = sym (ap name_text c.in-12.is)

pub returns-in-13 : goal.returns-in-13
unfolding name_text
returns-in-13 c = sym (ap name_text c.in-13.is)

pub returns-in_default : goal.returns-in_default
returns-in_default c = other c.args.code (λ low high. omega arith)
