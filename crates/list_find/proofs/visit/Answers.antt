-- `list_find::visit` meets its contract. Assumes nothing.
use native.Mathlib.Omega.{arith}
use Rattle.list_find.proofs.Laws.{room, visit-many, visit-outside, visit-own}
use Rattle.list_find.proofs.visit.Goals as goal

pub returns-then-k-ge-MAX_DIRECTORIES : goal.returns-then-k-ge-MAX_DIRECTORIES
returns-then-k-ge-MAX_DIRECTORIES c = visit-many _ _ _ _ c.if-k-ge-MAX_DIRECTORIES.true

pub returns-then-not-is_whole : goal.returns-then-not-is_whole
returns-then-not-is_whole c =
    visit-outside _ _ _ _ c.if-k-ge-MAX_DIRECTORIES.false c.is_whole.ensures c.if-not-is_whole.true

pub overflow_add-at : goal.overflow_add-at
overflow_add-at c =
    omega (arith, room _ _ c.is_whole.ensures c.if-not-is_whole.false c.half.ensures.0)

pub own-requires : goal.own-requires
own-requires c =
    omega (arith, room _ _ c.is_whole.ensures c.if-not-is_whole.false c.half.ensures.0)

pub returns : goal.returns
returns c =
    visit-own _ _ _ _ c.if-k-ge-MAX_DIRECTORIES.false c.is_whole.ensures c.if-not-is_whole.false c.half.ensures.0 c.own.ensures
