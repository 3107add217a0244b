-- What holds of every step of the walk: an answer lies inside the file, and who goes on has gone to more directories, 64 at most; so 65 turns
-- are as good as more. Assumes nothing.
use Prim.Native.Nat.{ℕ, zero, suc, ◌+◌, ◌*◌, ◌≤◌}
use mathlib.Core.Path.{◌≡◌, refl, sym, ap, ◌∙◌}
use mathlib.Core.Bool.{Bool, true, false, ◌&&◌, cond}
use mathlib.Core.List.{List}
use native.Mathlib.Omega.{arith}
use borrow.Author.Tests.{leb-true, leb-false, eq-eqb, ne_eqb}
use lib.Dec.{leb, eqb}
use lib.ListN.{length}
use Rattle.std.specs.declared.ops.ControlFlow.TheVariants.{Break, Continue}
use Rattle.std.specs.Prelude.{Ok, Err}
use Rattle.list_find.specs.declared.FindError.TheVariants.{NotTiff, Outside, TooMany, Missing}
use Rattle.list_find.specs.declared.Which.{Which}
use Rattle.list_find.specs.Walk.{Found, Looked, At, File, size, file_of, u32, tag_of, entries_in, next_at, whole, count_at, value_at, inside, is_list, is_subs, after, list_at, own_from, visit, sub_of, subs_from, subs_at, any_subs, all_subs, directory, onward, chain, headed, found_in}

-- of an answer that the walk gives; it never says that the file is not TIFF
abbrev pub Lies : ℕ → Found → Type 0
Lies n (Ok place) = place.start + place.len ≤ n
Lies n (Err NotTiff) = ⊥
Lies n (Err Outside) = Unit
Lies n (Err TooMany) = Unit
Lies n (Err Missing) = Unit

abbrev pub Fine : File → ℕ → Looked → Type 0
Fine f k (Break a) = Lies (size f) a
Fine f k (Continue j) = (k ≤ j) × (j ≤ 64)

lower : (f : File) (i k : ℕ) (l : Looked) → i ≤ k → Fine f k l → Fine f i l
lower f i k (Break a) h x = x
lower f i k (Continue j) h x = (omega (arith, h, x.0), x.1)

list-lies : (f : File) (e : ℕ) → Lies (size f) (list_at f e)
unfolding list_at inside
list-lies f e = go (leb (value_at f e (count_at f e) + count_at f e) (size f)) refl
  where
    go :
        (b : Bool) → leb (value_at f e (count_at f e) + count_at f e) (size f) ≡ b
        → Lies (size f) (cond b (At (value_at f e (count_at f e)) (count_at f e)) (Err Outside))
    go true h = leb-true _ _ h
    go false h = tt

own-fine : (f : File) (tag n e k : ℕ) → k ≤ 64 → Fine f k (own_from f tag n e k)
unfolding own_from
own-fine f tag zero e k h = (omega arith, h)
own-fine f tag (suc n) e k h = go (is_list f tag e) (own-fine f tag n (e + 12) k h)
  where
    go : (b : Bool) → Fine f k (own_from f tag n (e + 12) k) → Fine f k (cond b (Break (list_at f e)) (own_from f tag n (e + 12) k))
    go true r = list-lies f e
    go false r = r

visit-fine : (f : File) (tag at k : ℕ) → Fine f (suc k) (visit f tag at k)
unfolding visit
visit-fine f tag at k = go (leb 64 k) refl (whole f at)
  where
    go :
        (b : Bool) → leb 64 k ≡ b → (w : Bool)
        → Fine f (suc k) (cond b (Break (Err TooMany)) (cond w (own_from f tag (entries_in f at) (at + 2) (suc k)) (Break (Err Outside))))
    go true h w = tt
    go false h true = own-fine f tag (entries_in f at) (at + 2) (suc k) (omega (arith, leb-false 64 k h))
    go false h false = tt

sub-fine : (f : File) (tag at k : ℕ) → k ≤ 64 → Fine f k (sub_of f tag at k)
unfolding sub_of
sub-fine f tag at k h = go (eqb at 0)
  where
    go : (b : Bool) → Fine f k (cond b (Continue k) (visit f tag at k))
    go true = (omega arith, h)
    go false = lower f k (suc k) (visit f tag at k) (omega arith) (visit-fine f tag at k)

-- and so on with what comes after
after-fine : (f : File) (k : ℕ) (l : Looked) (rest : ℕ → Looked) → Fine f k l → ((j : ℕ) → j ≤ 64 → Fine f j (rest j)) → Fine f k (after l rest)
after-fine f k (Break a) rest x y = x
after-fine f k (Continue j) rest x y = lower f k j (rest j) x.0 (y j x.1)

subs-fine : (f : File) (tag n o k : ℕ) → k ≤ 64 → Fine f k (subs_from f tag n o k)
unfolding subs_from
subs-fine f tag zero o k h = (omega arith, h)
subs-fine f tag (suc n) o k h =
    after-fine f k (sub_of f tag (u32 f o) k) (λ (j : ℕ). subs_from f tag n (o + 4) j) (sub-fine f tag (u32 f o) k h)
    (λ j l. subs-fine f tag n (o + 4) j l)

any-fine : (f : File) (tag e k : ℕ) → k ≤ 64 → Fine f k (any_subs f tag e k)
unfolding any_subs subs_at
any-fine f tag e k h =
    go (is_subs f e) (inside f e (4 * count_at f e))
    (subs-fine f tag (count_at f e) (value_at f e (4 * count_at f e)) k h)
  where
    go :
        (b c : Bool) → Fine f k (subs_from f tag (count_at f e) (value_at f e (4 * count_at f e)) k)
        → Fine f k (cond b (cond c (subs_from f tag (count_at f e) (value_at f e (4 * count_at f e)) k) (Break (Err Outside))) (Continue k))
    go true true x = x
    go true false x = tt
    go false c x = (omega arith, h)

all-fine : (f : File) (tag n e k : ℕ) → k ≤ 64 → Fine f k (all_subs f tag n e k)
unfolding all_subs
all-fine f tag zero e k h = (omega arith, h)
all-fine f tag (suc n) e k h =
    after-fine f k (any_subs f tag e k) (λ (j : ℕ). all_subs f tag n (e + 12) j) (any-fine f tag e k h) (λ j l. all-fine f tag n (e + 12) j l)

pub directory-fine : (f : File) (tag at k : ℕ) → Fine f (suc k) (directory f tag at k)
unfolding directory
directory-fine f tag at k =
    after-fine f (suc k) (visit f tag at k) (λ (j : ℕ). all_subs f tag (entries_in f at) (at + 2) j) (visit-fine f tag at k)
    (λ j l. all-fine f tag (entries_in f at) (at + 2) j l)

-- ---- the chain

module _ (f : File) (tag : ℕ) where
  chain-lies : (turns at k : ℕ) → Lies (size f) (chain f tag turns at k)
  unfolding chain
  chain-lies zero at k = tt
  chain-lies (suc turns) at k =
      go (eqb at 0) (directory f tag at k) (directory-fine f tag at k) (λ j. chain-lies turns (u32 f (next_at f at)) j)
    where
      go :
          (b : Bool) (l : Looked) → Fine f (suc k) l → ((j : ℕ) → Lies (size f) (chain f tag turns (u32 f (next_at f at)) j))
          → Lies (size f) (cond b (Err Missing) (onward (λ (j : ℕ). chain f tag turns (u32 f (next_at f at)) j) l))
      go true l x rest = tt
      go false (Break a) x rest = x
      go false (Continue j) x rest = rest j

  -- as many turns as there are directories left, or more, come to one answer
  pub enough : (m n at k : ℕ) → k ≤ 64 → 65 ≤ m + k → 65 ≤ n + k → chain f tag m at k ≡ chain f tag n at k
  unfolding chain
  enough zero n at k h p q = absurd (omega (arith, h, p))
  enough (suc m) zero at k h p q = absurd (omega (arith, h, q))
  enough (suc m) (suc n) at k h p q =
      go (directory f tag at k) (directory-fine f tag at k) (λ j. enough m n (u32 f (next_at f at)) j)
    where
      go :
          (l : Looked) → Fine f (suc k) l
          → ((j : ℕ) → j ≤ 64 → 65 ≤ m + j → 65 ≤ n + j → chain f tag m (u32 f (next_at f at)) j ≡ chain f tag n (u32 f (next_at f at)) j)
          → cond (eqb at 0) (Err Missing) (onward (λ (j : ℕ). chain f tag m (u32 f (next_at f at)) j) l)
          ≡ cond (eqb at 0) (Err Missing) (onward (λ (j : ℕ). chain f tag n (u32 f (next_at f at)) j) l)
      go (Break a) x rest = refl
      go (Continue j) x rest = ap (cond (eqb at 0) (Err Missing)) (rest j x.1 (omega (arith, p, x.0)) (omega (arith, q, x.0)))

-- ---- a turn of the chain

module _ (f : File) (tag at k : ℕ) where
  -- who goes on from a directory found it whole
  visit-whole : {j : ℕ} → visit f tag at k ≡ Continue j → whole f at ≡ true
  unfolding visit
  visit-whole {j} = go (leb 64 k) (whole f at) refl
    where
      go :
          (b w : Bool) → whole f at ≡ w
          → cond b (Break (Err TooMany)) (cond w (own_from f tag (entries_in f at) (at + 2) (suc k)) (Break (Err Outside))) ≡ Continue j → whole f at ≡ true
      go true w e q = cc
      go false true e q = e
      go false false e q = cc

  pub going-whole : {j : ℕ} {r : Looked} → r ≡ visit f tag at k → r ≡ Continue j → whole f at ≡ true
  going-whole h g = visit-whole (sym h ∙ g)

  directory-whole : {j : ℕ} → directory f tag at k ≡ Continue j → whole f at ≡ true
  unfolding directory
  directory-whole {j} = go (visit f tag at k) refl
    where
      go :
          (l : Looked) → visit f tag at k ≡ l → after l (λ (i : ℕ). all_subs f tag (entries_in f at) (at + 2) i) ≡ Continue j → whole f at ≡ true
      go (Break a) e q = cc
      go (Continue i) e q = visit-whole e

  pub dir-stop : {a : Found} {r : Looked} → r ≡ visit f tag at k → r ≡ Break a → Break a ≡ directory f tag at k
  unfolding directory
  dir-stop h g = ap (λ (l : Looked). after l (λ (i : ℕ). all_subs f tag (entries_in f at) (at + 2) i)) (sym (sym h ∙ g))

  pub dir-on : {j n : ℕ} {r q : Looked} → r ≡ visit f tag at k → r ≡ Continue j → n ≡ entries_in f at → q ≡ all_subs f tag n (at + 2) j
      → q ≡ directory f tag at k
  unfolding directory
  dir-on {j} h g e i =
      i ∙ ap (λ (m : ℕ). all_subs f tag m (at + 2) j) e
      ∙ ap (λ (l : Looked). after l (λ (i : ℕ). all_subs f tag (entries_in f at) (at + 2) i)) (sym (sym h ∙ g))

  module _ {r : Looked} (d : r ≡ directory f tag at k) where
    pub turn-whole : {j : ℕ} → r ≡ Continue j → whole f at ≡ true
    turn-whole g = directory-whole (sym d ∙ g)

    pub turn_more : {j : ℕ} → r ≡ Continue j → (suc k ≤ j) × (j ≤ 64)
    turn_more g = let x = directory-fine f tag at k in rw (sym d ∙ g) at x

    module _ (z : at ≡ 0 → ⊥) where
      one-turn : (m : ℕ) → chain f tag (suc m) at k ≡ onward (λ (j : ℕ). chain f tag m (u32 f (next_at f at)) j) r
      unfolding chain
      one-turn m = simp (ne_eqb at 0 z, d)

      pub chain-stop : {a : Found} → r ≡ Break a → chain f tag 65 at k ≡ a
      chain-stop g = one-turn 64 ∙ ap (onward (λ (j : ℕ). chain f tag 64 (u32 f (next_at f at)) j)) g

      pub chain-on : {j n : ℕ} → r ≡ Continue j → n ≡ u32 f (next_at f at) → chain f tag 65 at k ≡ chain f tag 65 n j
      chain-on {j} {n} g e =
          let m = turn_more g in
          one-turn 64 ∙ ap (onward (λ (i : ℕ). chain f tag 64 (u32 f (next_at f at)) i)) g
          ∙ enough f tag 64 65 (u32 f (next_at f at)) j m.1 (omega (arith, m.0)) (omega arith)
          ∙ ap (λ (i : ℕ). chain f tag 65 i j) (sym e)

pub chain-end : (f : File) (tag at k : ℕ) → at ≡ 0 → chain f tag 65 at k ≡ Err Missing
unfolding chain
chain-end f tag at k z = simp (eq-eqb at 0 z)

-- ---- the file

pub found_none : (s : List ℕ) (which : Which) {b : Bool} → b ≡ headed s → b ≡ false → Err NotTiff ≡ found_in s which
unfolding found_in
found_none s which h t = simp (sym h ∙ t)

pub found-walk : (s : List ℕ) (which : Which) {b : Bool} {a : Found} → b ≡ headed s → b ≡ true
    → a ≡ chain (file_of s) (tag_of which) 65 (u32 (file_of s) 4) 0 → a ≡ found_in s which
unfolding found_in
found-walk s which h t q = simp (sym h ∙ t) q

pub headed-room : (s : List ℕ) {b : Bool} → b ≡ headed s → b ≡ true → 8 ≤ length s
unfolding headed
headed-room s h t = go (leb 8 (length s)) _ refl (sym h ∙ t)
  where
    go : (b c : Bool) → leb 8 (length s) ≡ b → (b && c) ≡ true → 8 ≤ length s
    go true c e q = leb-true 8 (length s) e
    go false c e q = absurd (let z : ◌≡◌ {A = ℕ} 0 1 = cc in omega arith)

pub found-lies : (s : List ℕ) (which : Which) → headed s ≡ true → Lies (length s) (found_in s which)
unfolding found_in
found-lies s which h = simp h (chain-lies (file_of s) (tag_of which) 65 (u32 (file_of s) 4) 0)
