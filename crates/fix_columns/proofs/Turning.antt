-- Positions counted by columns and by rows: each is the other's, the marked ones of both are equally many, and turned marks in order are the
-- window's. Assumes nothing.
use Prim.Native.Nat.{ℕ, zero, suc, ◌+◌, ◌-◌, ◌*◌, ◌/◌, ◌%◌, ◌≤◌, ◌<◌}
use mathlib.Core.Path.{◌≡◌, refl, sym, ap, ap₂, subst, ◌∙◌}
use mathlib.Core.Bool.{Bool, true, cond}
use mathlib.Core.List.{List, ◌++◌}
use native.Mathlib.Nat.{div-add-mod', mod-lt, div-lt_iff_lt-mul, mul_comm, mul-le-mul, mul-le-mul_right, suc-mul, zero-mul}
use native.Mathlib.Omega.{arith}
use lib.Arith.{digits_div, digits_mod}
use lib.ListN.{length, get_or, take, length-append}
use lib.Seq.{take-append-le, length-take-le}
use Rattle.pointwise.specs.Points.{each, between}
use Rattle.pointwise.proofs.Each.{length-each, get_or-each}
use Rattle.pointwise.proofs.Parts.{between-high}
use Rattle.dng.specs.declared.Window.{Window}
use Rattle.dng.specs.Repair.{count_below, positions, listed}
use Rattle.num_sorted.specs.Sorts.{has, occ, Distinct}
use Rattle.num_sorted.proofs.Occ.{occ-at, occ-some, has-true, some-has}
use Rattle.fix_scratch.specs.Marks.{chosen, Holds, Fits}
use Rattle.fix_scratch.proofs.Chosen.{count_same, chosen-has, chosen-in, chosen-count, is-chosen-has}
use Rattle.fix_scratch.proofs.Joining.{iff-eq}
use Rattle.fix_listed.specs.Listed.{listed_at, listed_in}
use Rattle.fix_columns.specs.Columns.{turned, Turns}

-- ---- one position

again : (w h q p : ℕ) → p / w ≡ q % h → p % w ≡ q / h → turned h w p ≡ q
unfolding turned
again w h q p e d = rw (e, d) (div-add-mod' q h)

module _ (w h q : ℕ) (tall : 1 ≤ h) (l : q < w * h) where
  column : q / h < w
  column = (div-lt_iff_lt-mul {k = h} {x = q} {y = w} tall).1 l

  pub turned-row : turned w h q / w ≡ q % h
  unfolding turned
  turned-row = digits_div (q % h) column

  pub turned-column : turned w h q % w ≡ q / h
  unfolding turned
  turned-column = digits_mod (q % h) column

  pub turned-below : turned w h q < w * h
  unfolding turned
  turned-below =
      omega (arith, column, suc-mul (q % h) w, mul-le-mul_right {m = suc (q % h)} {n = h} w (mod-lt q tall), mul_comm w h)

  -- twice is not at all
  pub turned-twice : turned h w (turned w h q) ≡ q
  turned-twice = again w h q (turned w h q) turned-row turned-column

there : (w h x y : ℕ) → y < h → turned w h (x * h + y) ≡ y * w + x
unfolding turned
there w h x y k = rw (digits_div x k, digits_mod x k) refl

-- what the code works out
pub record Parts (w h q x : ℕ) : Type 0 where
  pub under : x * h ≤ q
  pub below : (q - x * h) * w + x < w * h
  pub is : (q - x * h) * w + x ≡ turned w h q

pub parts : (w h q x : ℕ) → 1 ≤ h → q < w * h → x ≡ q / h → Parts w h q x
unfolding turned
parts w h q x tall l e = record { under = omega (arith, whole); below = subst (λ (n : ℕ). n < w * h) (sym is) (turned-below w h q tall l); is = is }
  where
    whole : x * h + q % h ≡ q
    whole = subst (λ (n : ℕ). n * h + q % h ≡ q) (sym e) (div-add-mod' q h)

    rest : q - x * h ≡ q % h
    rest = omega (arith, whole)

    is : (q - x * h) * w + x ≡ turned w h q
    is = ap₂ (λ (y z : ℕ). y * w + z) rest e

-- ---- marks

module _ (w h : ℕ) (wide : 1 ≤ w) (tall : 1 ≤ h) where
  back : (p : ℕ) → p < w * h → turned w h (turned h w p) ≡ p
  back p l = turned-twice h w p wide (rw (mul_comm h w) l)

  -- what was held is held turned
  pub has-turned : (l : List ℕ) → ((q : ℕ) → has l q ≡ true → q < w * h) → (p : ℕ) → p < w * h
      → has (each (λ i q. turned w h q) l) p ≡ has l (turned h w p)
  has-turned l below p less = iff-eq _ _ to from
    where
      f : ℕ → ℕ → ℕ
      f i q = turned w h q

      to : has (each f l) p ≡ true → has l (turned h w p) ≡ true
      to e =
          let o = occ-some (each f l) p (has-true (each f l) p e) in
          let j : o.0 < length l = omega (arith, o.1, length-each f l) in
          let there : 1 ≤ occ l (get_or l o.0 0) = occ-at l o.0 j in
          let is : turned w h (get_or l o.0 0) ≡ p = sym (get_or-each f l o.0 0 j) ∙ o.2 in
          let same : get_or l o.0 0 ≡ turned h w p =
          sym (turned-twice w h (get_or l o.0 0) tall (below (get_or l o.0 0) (some-has l _ there))) ∙ ap (turned h w) is in
          subst (λ (x : ℕ). has l x ≡ true) same (some-has l (get_or l o.0 0) there)

      from : has l (turned h w p) ≡ true → has (each f l) p ≡ true
      from e =
          let o = occ-some l (turned h w p) (has-true l (turned h w p) e) in
          let j : o.0 < length (each f l) = omega (arith, o.1, length-each f l) in
          let is : get_or (each f l) o.0 0 ≡ p = get_or-each f l o.0 0 o.1 ∙ ap (turned w h) o.2 ∙ back p less in
          subst (λ (x : ℕ). has (each f l) x ≡ true) is (some-has (each f l) _ (occ-at (each f l) o.0 j))

  pub turned-held : (l : List ℕ) → ((q : ℕ) → has l q ≡ true → q < w * h) → (p : ℕ) → has (each (λ i q. turned w h q) l) p ≡ true → p < w * h
  turned-held l below p e =
      let f : ℕ → ℕ → ℕ = λ i q. turned w h q in
      let o = occ-some (each f l) p (has-true (each f l) p e) in
      let j : o.0 < length l = omega (arith, o.1, length-each f l) in
      let is : turned w h (get_or l o.0 0) ≡ p = sym (get_or-each f l o.0 0 j) ∙ o.2 in
      subst (λ (x : ℕ). x < w * h) is
      (turned-below w h (get_or l o.0 0) tall (below (get_or l o.0 0) (some-has l _ (occ-at l o.0 j))))

pub few : (w h : ℕ) (s : List ℕ) → Turns w h s → w * h ≤ 4294967296
few w h s v = mul-le-mul v.wide v.high

-- an entry that the loop has not come to
pub still-below : (w h : ℕ) (s₀ s : List ℕ) (i : ℕ) → Turns w h s₀ → s ≡ each (between 0 i (λ j q. turned w h q)) s₀ → i < length s₀
    → get_or s i 0 < w * h
still-below w h s₀ s i v e l =
    let same : get_or s i 0 ≡ get_or s₀ i 0 =
    ap (λ (x : List ℕ). get_or x i 0) e ∙ get_or-each (between 0 i (λ j q. turned w h q)) s₀ i 0 l
    ∙ between-high 0 i (λ j q. turned w h q) i (get_or s₀ i 0) (omega arith) in
    subst (λ (n : ℕ). n < w * h) (sym same) (v.below (get_or s₀ i 0) (some-has s₀ _ (occ-at s₀ i l)))

-- its parts, and that they are small
pub record Entry (w h q x : ℕ) : Type 0 where
  pub parts : Parts w h q x
  pub low : q < w * h
  pub small : w * h ≤ 4294967296

pub entry : (w h : ℕ) (s₀ s : List ℕ) (i x : ℕ) → Turns w h s₀ → s ≡ each (between 0 i (λ j q. turned w h q)) s₀ → i < length s₀
    → x ≡ get_or s i 0 / h → Entry w h (get_or s i 0) x
entry w h s₀ s i x v e l is =
    let low : get_or s i 0 < w * h = still-below w h s₀ s i v e l in
    record { parts = parts w h (get_or s i 0) x v.tall low is; low = low; small = few w h s₀ v }

-- ---- counts: a window's marks, row by row, and column by column

abbrev sum_below : ℕ → (ℕ → ℕ) → ℕ
sum_below zero f = 0
sum_below (suc n) f = f n + sum_below n f

sum_same : (n : ℕ) (f g : ℕ → ℕ) → ((i : ℕ) → i < n → f i ≡ g i) → sum_below n f ≡ sum_below n g
sum_same zero f g e = refl
sum_same (suc n) f g e = omega (arith, e n (omega arith), sum_same n f g (λ i l. e i (omega arith)))

sum-plus : (n : ℕ) (f g : ℕ → ℕ) → sum_below n (λ i. f i + g i) ≡ sum_below n f + sum_below n g
sum-plus zero f g = omega arith
sum-plus (suc n) f g = omega (arith, sum-plus n f g)

sum-none : (n : ℕ) → sum_below n (λ i. 0) ≡ 0
sum-none zero = refl
sum-none (suc n) = omega (arith, sum-none n)

count-sum : (n : ℕ) (m : ℕ → Bool) → count_below n m ≡ sum_below n (λ i. cond (m i) 1 0)
unfolding count_below
count-sum zero m = refl
count-sum (suc n) m = ap (λ (k : ℕ). cond (m n) 1 0 + k) (count-sum n m)

count-more : (a n : ℕ) (m : ℕ → Bool) → count_below (a + n) m ≡ count_below a m + count_below n (λ i. m (a + i))
unfolding count_below
count-more a zero m = let z : a + 0 ≡ a = omega arith in ap (λ (k : ℕ). count_below k m) z ∙ omega arith
count-more a (suc n) m =
    let z : a + suc n ≡ suc (a + n) = omega arith in
    ap (λ (k : ℕ). count_below k m) z ∙ omega (arith, count-more a n m)

-- the marks of h rows of w positions each
by_lines : (w h : ℕ) (m : ℕ → Bool) → count_below (h * w) m ≡ sum_below h (λ y. count_below w (λ x. m (y * w + x)))
unfolding count_below
by_lines w zero m = ap (λ (k : ℕ). count_below k m) (zero-mul w)
by_lines w (suc h) m =
    ap (λ (n : ℕ). count_below n m) (suc-mul h w) ∙ (count-more (h * w) w m ∙ omega (arith, by_lines w h m))

-- rows of columns are columns of rows
crosswise : (w h : ℕ) (g : ℕ → ℕ → Bool) → sum_below h (λ y. count_below w (λ x. g y x)) ≡ sum_below w (λ x. count_below h (λ y. g y x))
unfolding count_below
crosswise w zero g = sym (sum-none w)
crosswise w (suc h) g =
    ap (λ (n : ℕ). count_below w (λ x. g h x) + n) (crosswise w h g)
    ∙ (ap (λ (n : ℕ). n + sum_below w (λ x. count_below h (λ y. g y x))) (count-sum w (λ x. g h x))
    ∙ sym (sum-plus w (λ x. cond (g h x) 1 0) (λ x. count_below h (λ y. g y x))))

pub count-turned : (w h : ℕ) (m m' : ℕ → Bool) → 1 ≤ h → ((q : ℕ) → q < w * h → m' q ≡ m (turned w h q)) → count_below (w * h) m' ≡ count_below (w * h) m
count-turned w h m m' tall e =
    by_lines h w m'
    ∙ (sum_same w _ _ (λ x l. count_same h _ _ (λ y k. place x y l k))
    ∙ (sym (crosswise w h (λ y x. m (y * w + x)))
    ∙ (sym (by_lines w h m) ∙ ap (λ (n : ℕ). count_below n m) (mul_comm h w))))
  where
    place : (x y : ℕ) → x < w → y < h → m' (x * h + y) ≡ m (y * w + x)
    place x y l k =
        e (x * h + y) (omega (arith, suc-mul x h, mul-le-mul_right {m = suc x} {n = w} h l))
        ∙ ap m (there w h x y k)

-- ---- the window's marks

module _ (w : Window) (b : List ℕ) (np nr : ℕ) (f : Fits w) where
  abbrev W : ℕ
  W = w.width

  abbrev H : ℕ
  H = w.height

  by-columns : (q : ℕ) → q < W * H → listed_in true w b np nr q ≡ listed_at w b np nr (turned W H q)
  by-columns q l =
      sym (ap₂ (λ (y x : ℕ). listed b np nr (w.y0 + y) (w.x0 + x)) (turned-row W H q f.tall l) (turned-column W H q f.tall l))

  pub over-turned : (s : List ℕ) → length s < count_below (positions w) (listed_in true w b np nr)
      → length s < count_below (positions w) (listed_at w b np nr)
  over-turned s h =
      omega (arith, count-turned W H (listed_at w b np nr) (listed_in true w b np nr) f.tall by-columns)

  pub turns : (s s₁ : List ℕ) (n : ℕ) → Holds (positions w) (listed_in true w b np nr) s s₁ n → Turns W H (take n s₁)
  turns s s₁ n v =
      record {
        tall = f.tall;
        wide = f.width;
        high = f.height;
        below = λ q e.
            let o : 1 ≤ occ (chosen (listed_in true w b np nr) 0 (positions w)) q =
            has-true (chosen (listed_in true w b np nr) 0 (positions w)) q (ap (λ (l : List ℕ). has l q) (sym v.front) ∙ e) in
            omega (arith, (chosen-in (listed_in true w b np nr) 0 (positions w) q o).0);
      }

  pub turned-all : (s s₁ z d : List ℕ) (n k : ℕ) → Holds (positions w) (listed_in true w b np nr) s s₁ n
      → Distinct (each (λ i q. turned W H q) (take n s₁)) z k → length z ≡ length (take n s₁) → length s₁ ≡ length s
      → Holds (positions w) (listed_at w b np nr) s (z ++ d) k
  turned-all s s₁ z d n k v u e long =
      record {
        all = sym (length-take-le k (z ++ d) (omega (arith, short, length-append z d))) ∙ ap length front
            ∙ chosen-count (listed_at w b np nr) (positions w);
        fits = omega (arith, short, e, length-take-le n s₁ (omega (arith, v.fits)), v.fits);
        front = front;
      }
    where
      l : List ℕ
      l = take n s₁

      below : (q : ℕ) → has l q ≡ true → q < W * H
      below = (turns s s₁ n v).below

      short : k ≤ length z
      short = omega (arith, u.within, length-each (λ i q. turned W H q) l)

      first : take k (z ++ d) ≡ take k z
      first = take-append-le k z d short

      marks : (p : ℕ) → p < W * H → has (take k z) p ≡ listed_at w b np nr p
      marks p less =
          u.same p
          ∙ (has-turned W H f.wide f.tall l below p less
          ∙ (ap (λ (x : List ℕ). has x (turned H W p)) v.front
          ∙ (chosen-has (listed_in true w b np nr) (positions w) (turned H W p) inside
          ∙ (by-columns (turned H W p) inside
          ∙ ap (listed_at w b np nr) (turned-twice H W p f.wide (rw (mul_comm H W) less))))))
        where
          inside : turned H W p < W * H
          inside = rw (mul_comm W H) (turned-below H W p f.wide (rw (mul_comm H W) less))

      front : take k (z ++ d) ≡ chosen (listed_at w b np nr) 0 (positions w)
      front =
          first
          ∙ is-chosen-has (listed_at w b np nr) (positions w) (take k z) u.rises
          (λ q h. turned-held W H f.wide f.tall l below q (sym (u.same q) ∙ h)) marks
