-- `answer` meets its contract: each way out is a case of `answer_of`, by the tests. Assumes nothing.
use mathlib.Core.Path.{refl, sym, ◌∙◌}
use Rattle.row_black.specs.Black.{answer_of}
use Rattle.row_black.proofs.Refusals.{ranged}
use Rattle.row_black.proofs.answer.Goals as goal

pub has_tables-requires : goal.has_tables-requires
has_tables-requires c = (ranged c.args.f (sym c.in_range.ensures ∙ c.if-not-in_range.false)).some

pub returns-then-not-in_range : goal.returns-then-not-in_range
unfolding answer_of
returns-then-not-in_range c = rw (sym c.in_range.ensures ∙ c.if-not-in_range.true) refl

pub returns-then-not-has_tables : goal.returns-then-not-has_tables
unfolding answer_of
returns-then-not-has_tables c =
    rw (sym c.in_range.ensures ∙ c.if-not-in_range.false, sym c.has_tables.ensures ∙ c.if-not-has_tables.true) refl

pub returns-then-not-has_samples : goal.returns-then-not-has_samples
unfolding answer_of
returns-then-not-has_samples c =
    rw (
      sym c.in_range.ensures ∙ c.if-not-in_range.false,
      sym c.has_tables.ensures ∙ c.if-not-has_tables.false,
      sym c.has_samples.ensures ∙ c.if-not-has_samples.true,
    ) refl

pub returns : goal.returns
unfolding answer_of
returns c =
    rw (
      sym c.in_range.ensures ∙ c.if-not-in_range.false,
      sym c.has_tables.ensures ∙ c.if-not-has_tables.false,
      sym c.has_samples.ensures ∙ c.if-not-has_samples.false,
    ) refl
