-- `block_along` meets its contract: each turn is one sample of the walk, in a column of the table. Assumes nothing.
use Prim.Native.Nat.{ℕ, ◌+◌, ◌-◌, ◌*◌, ◌≤◌, ◌<◌, min}
use mathlib.Core.Path.{◌≡◌, ap, subst, ◌∙◌}
use mathlib.Core.List.{List}
use native.Mathlib.Nat.{mul-le-mul_left, mul-le-mul_right, lt_of_mul-lt-mul_right}
use native.Mathlib.Omega.{arith}
use lib.Ieee.{Float, nan, binary32, add, mul}
use lib.ListN.{length, get_or, set}
use Rattle.pointwise.proofs.Each.{below_or}
use Rattle.pointwise.proofs.Walk.{upto-end}
use Rattle.row_select.specs.declared.Walk.{Walk}
use Rattle.row_select.specs.Walks.{walked, Walks}
use Rattle.row_select.proofs.Going.{Going, next}
use Rattle.row_gain.specs.declared.Column.{Column}
use Rattle.row_gain.specs.declared.Pair.{Pair}
use Rattle.row_gain.specs.declared.Strip.{Strip}
use Rattle.row_gain.specs.Blocks.{within, Filled, Begins}
use Rattle.row_gain.specs.Strip.{PairIs, along_strip}
use Rattle.row_gain.proofs.Blocks.{within_low, within-high, upto_from, upto-past}
use Rattle.row_gain.proofs.Rows.{block-value}
use Rattle.row_gain.proofs.block_along.Goals as goal

-- in a turn, the column is one of the table's
numbered : (k : Walk) (from : ℕ) (cs : List Column) (e : ℕ) {stop : ℕ} → stop ≡ min e ((from + length cs * k.pitch) * k.planes)
    → (j : ℕ) {i : ℕ} → i ≡ (from + j * k.pitch) * k.planes + k.plane → i < stop → j < length cs
numbered k from cs e is j place h =
    let q : from + j * k.pitch < from + length cs * k.pitch = lt_of_mul-lt-mul_right k.planes (omega (arith, place, h, is)) in
    lt_of_mul-lt-mul_right k.pitch (omega (arith, q))

-- the walk in the block's columns, at the column of entry j
abbrev On : List ℕ → Strip → (ℕ → Float) → Walk → ℕ → List Column → List Float → List Float → (j i : ℕ) → Type 0
On b s f k from cs l row j i =
    Going k (within (k.x0 + from) (k.x0 + from + length cs * k.pitch) (along_strip b s f)) l row (from + j * k.pitch) i

module _ (b : List ℕ) (s : Strip) (f : ℕ → Float) (k : Walk) (from : ℕ) (cs : List Column) (l : List Float) {e stop : ℕ} (w : Walks k (length l))
    (begins : Begins k from (length cs)) (row-end : e ≡ min (length l) ((k.right - k.x0) * k.planes))
    (is : stop ≡ min e ((from + length cs * k.pitch) * k.planes)) where
  first : On b s f k from cs l l 0 (from * k.planes + k.plane)
  first =
      subst (λ (c : ℕ). Going k (within (k.x0 + from) (k.x0 + from + length cs * k.pitch) (along_strip b s f)) l l c (from * k.planes + k.plane))
      (omega arith)
      (upto_from begins.number w.some (begins.here ∙ ap (λ (q : ℕ). k.left + begins.number * q) (omega (arith, w.spaced)))
      (λ x p v h. within_low _ _ _ x p v h))

  module _ {row : List Float} (j : ℕ) {i : ℕ} (u : On b s f k from cs l row j i) where
    turn : {q : Pair} {v : Float} → i < stop → Filled f (k.x0 + from) k.pitch (length cs) cs → PairIs b s q
        → let c = get_or cs j (record { lower = 0; share = nan }) in
        q.h ≡ c.lower → v ≡ mul binary32 (get_or row i nan) (add binary32 q.a (mul binary32 q.d c.share))
        → On b s f k from cs l (set row i v) (j + 1) (i + k.pitch * k.planes)
    turn {q} {v} h filled pair at value =
        subst
        (λ (c : ℕ).
        Going k (within (k.x0 + from) (k.x0 + from + length cs * k.pitch) (along_strip b s f)) l (set row i v) c (i + k.pitch * k.planes))
        (omega arith)
        (next w u nan (omega (arith, h, is, row-end))
        (value ∙ block-value b s f (k.x0 + from) k.pitch (length cs) _ j k.plane _ pair filled w.spaced (numbered k from cs e is j u.place h) (omega arith) at))

    -- where the row goes on after the last turn, the block's columns are all done
    past : stop ≤ i → i < min (length l) ((k.right - k.x0) * k.planes) → (x : ℕ) → k.x0 + (from + j * k.pitch) ≤ x
        → k.x0 + from + length cs * k.pitch ≤ x
    past left h x q =
        below_or (from + j * k.pitch) (from + length cs * k.pitch)
        (λ r.
        let more : (from + j * k.pitch + 1) * k.planes ≤ (from + length cs * k.pitch) * k.planes = mul-le-mul_right k.planes (omega arith) in
        omega (arith, h, more, w.inside, u.place, left, is, row-end))
        (λ r. omega (arith, r, q))

    done : stop ≤ i → row ≡ walked k (within (k.x0 + from) (k.x0 + from + length cs * k.pitch) (along_strip b s f)) l
    unfolding walked
    done left =
        below_or i (min (length l) ((k.right - k.x0) * k.planes))
        (λ h. upto-past w.some u (λ x p v q. within-high _ _ _ x p v (past left h x q)))
        (λ h. upto-end w.inside u h)

pub loop-i-init : goal.loop-i-init
loop-i-init c =
    let a = c.args in (
      omega arith,
      λ f _. first a.body.now a.s f a.k a.from a.columns.now a.row.now c.requires.0 c.requires.1 c.stop_of.ensures c.min-stop.ensures,
      c.at-q.ensures.0,
    )

pub move_to-requires : goal.move_to-requires
move_to-requires c =
    let a = c.args in
    let j = numbered a.k a.from a.columns.now _ c.min-stop.ensures _ c.loop-i.invariant.0 c.loop-i-test.true in
    (c.requires.3, c.requires.2.lower_in c.loop-i.j j, c.loop-i.invariant.2)

pub loop-i-preserved : goal.loop-i-preserved
loop-i-preserved c =
    let a = c.args in
    let u = c.loop-i.invariant in
    let q = c.move_to.ensures in (
      omega (arith, u.0),
      λ f filled. turn a.body.now a.s f a.k a.from a.columns.now a.row.now c.requires.0 c.requires.1 c.stop_of.ensures c.min-stop.ensures _
          (u.1 f filled) c.loop-i-test.true filled q.0 q.1 c.raise.ensures,
      q.0,
    )

pub returns : goal.returns
returns c =
    let a = c.args in
    λ f filled. done a.body.now a.s f a.k a.from a.columns.now a.row.now c.requires.0 c.requires.1 c.stop_of.ensures c.min-stop.ensures _
    (c.loop-i.invariant.1 f filled) c.loop-i-test.false

pub loop-i-smaller : goal.loop-i-smaller
loop-i-smaller c =
    let w = c.requires.0 in
    omega (arith, c.loop-i-test.true, w.spaced, mul-le-mul_left c.args.k.pitch w.some)

pub offset_bounds-columns-j : goal.offset_bounds-columns-j
offset_bounds-columns-j c =
    let a = c.args in
    let j = numbered a.k a.from a.columns.now _ c.min-stop.ensures _ c.loop-i.invariant.0 c.loop-i-test.true in
    omega (arith, j, c.requires.1.few)

pub offset_bounds-columns-j-in-loop-i : goal.offset_bounds-columns-j-in-loop-i
offset_bounds-columns-j-in-loop-i c =
    let a = c.args in
    let j = numbered a.k a.from a.columns.now _ c.min-stop.ensures _ c.loop-i.invariant.0 c.loop-i-test.true in
    omega (arith, j, c.requires.1.few)

pub overflow_add-j : goal.overflow_add-j
overflow_add-j c =
    let a = c.args in
    let j = numbered a.k a.from a.columns.now _ c.min-stop.ensures _ c.loop-i.invariant.0 c.loop-i-test.true in
    omega (arith, j, c.requires.1.few)
