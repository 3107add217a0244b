-- `fix_scratch::grown` meets its contract: the front grows where all that is held ascends and the position is above it.
-- Assumes nothing.
use mathlib.Core.Path.{refl, sym, ◌∙◌}
use native.Mathlib.Omega.{arith}
use borrow.Author.Tests.{lt-leb, le-leb}
use lib.Seq.{length-take-le}
use Rattle.fix_scratch.proofs.grown.Goals as goal
use Rattle.fix_scratch.proofs.grown.Goals.{else-held-via-then-held+else-past, else-held-via-else-held}

pub slice_bounds-past-end : goal.slice_bounds-past-end
slice_bounds-past-end c = sym (length-take-le c.args.held.n c.args.s.now (omega arith))

pub returns-then-past : goal.returns-then-past
returns-then-past c =
    rw (le-leb c.args.held.t c.args.held.n c.if-held.true, sym c.past.ensures ∙ c.if-past.true) refl

pub returns-else-held : goal.returns-else-held
returns-else-held c =
    elim c.else-held.branch [
      | else-held-via-then-held+else-past w ↦ rw (le-leb c.args.held.t c.args.held.n w.if-held.true, sym w.past.ensures ∙ w.if-past.false) refl
      | else-held-via-else-held w ↦ rw (lt-leb c.args.held.t c.args.held.n w.if-held.false) refl
    ]
