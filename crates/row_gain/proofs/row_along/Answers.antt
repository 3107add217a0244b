-- `row_along` meets its contract: each turn is one sample of the walk. Assumes nothing.
use Prim.Native.Nat.{ℕ, ◌+◌, ◌-◌, ◌*◌, ◌<◌, min}
use mathlib.Core.Path.{◌≡◌, refl, ap, ◌∙◌}
use mathlib.Core.List.{List}
use native.Mathlib.Nat.{mul-le-mul_left}
use native.Mathlib.Omega.{arith}
use lib.Ieee.{Float, nan, binary32, add, mul}
use lib.ListN.{length, get_or, set}
use Rattle.row_select.specs.declared.Walk.{Walk}
use Rattle.row_select.specs.Walks.{Walks}
use Rattle.row_select.proofs.Sizes.{begin-small, at_least}
use Rattle.row_select.proofs.Going.{Going, begin, next, end}
use Rattle.row_gain.specs.declared.Column.{Column}
use Rattle.row_gain.specs.declared.Pair.{Pair}
use Rattle.row_gain.specs.declared.Strip.{Strip}
use Rattle.row_gain.specs.Strip.{ColumnIs, PairIs, place_on, along_strip}
use Rattle.row_gain.proofs.Laws.{place-le}
use Rattle.row_gain.proofs.Rows.{raised_is}
use Rattle.row_gain.proofs.row_along.Goals as goal

-- one turn: sample i is raised
turn : (b : List ℕ) (s : Strip) (f : ℕ → Float) {k : Walk} {l row : List Float} {x c i : ℕ} {q : Pair} {p : Column} {v : Float} → Walks k (length l)
    → Going k (along_strip b s f) l row c i → x ≡ k.x0 + c → i < min (length l) ((k.right - k.x0) * k.planes)
    → ColumnIs (f x) p → PairIs b s q → q.h ≡ p.lower
    → v ≡ mul binary32 (get_or row i nan) (add binary32 q.a (mul binary32 q.d p.share))
    → Going k (along_strip b s f) l (set row i v) (c + k.pitch) (i + k.pitch * k.planes)
turn b s f {k} {l} {row} {x} {c} {i} w u at below on is h value =
    next w u nan below
    (value ∙ raised_is b s f x k.plane (get_or row i nan) is on h ∙ ap (λ (y : ℕ). along_strip b s f y k.plane (get_or row i nan)) at)

pub overflow_add-x : goal.overflow_add-x
overflow_add-x c = let w = c.requires.0 in omega (arith, w.column, begin-small w, at_least w c.args.k.col)

pub overflow_mul-i : goal.overflow_mul-i
overflow_mul-i c = omega (arith, begin-small c.requires.0)

pub loop-i-init : goal.loop-i-init
loop-i-init c = (_, begin c.requires.0, refl, c.at-q.ensures.0)

pub move_to-requires : goal.move_to-requires
move_to-requires c =
    let r = c.requires.1 in (
      r,
      omega (arith, c.column-c.ensures.lower-is, place-le c.args.along c.args.s.last c.loop-i.x c.requires.2 r.last32),
      c.loop-i.invariant.3,
    )

pub loop-i-preserved : goal.loop-i-preserved
loop-i-preserved c =
    let u = c.loop-i.invariant in
    let q = c.move_to.ensures in (
      u.0 + c.args.k.pitch,
      turn _ c.args.s (place_on c.args.along) c.requires.0 u.1 u.2 (omega (arith, c.loop-i-test.true, c.stop_of-stop.ensures)) c.column-c.ensures q.0 q.1
          c.raise.ensures,
      omega (arith, u.2),
      q.0,
    )

pub returns : goal.returns
returns c = end c.requires.0 c.loop-i.invariant.1 (omega (arith, c.loop-i-test.false, c.stop_of-stop.ensures))

pub loop-i-smaller : goal.loop-i-smaller
loop-i-smaller c =
    let w = c.requires.0 in
    omega (arith, c.loop-i-test.true, w.spaced, mul-le-mul_left c.args.k.pitch w.some)

pub overflow_add-i : goal.overflow_add-i
overflow_add-i c = omega (arith, begin-small c.requires.0)
