-- `samples_of` meets its contract: the product in range, else 0. Assumes nothing.
use mathlib.Core.Bool.{true}
use mathlib.Core.Path.{◌≡◌, refl, sym, ◌∙◌}
use Rattle.row_black.specs.Black.{field_in_range, samples_in}
use Rattle.row_black.proofs.samples_of.Lts as lts
use Rattle.row_black.proofs.samples_of.Reads as reads
use Rattle.row_black.proofs.samples_of.Tie as tie
use Rattle.row_black.proofs.samples_of.Goals as goal

in-range : (c : lts.Then1 tie.the-claims reads.Pre reads.Post) → field_in_range c.before.before.args.f ≡ true
in-range c = sym c.in_range.ensures ∙ c.if-in_range.true

pub returns-then-in_range : goal.returns-then-in_range
unfolding samples_in
returns-then-in_range c = rw (in-range c.before) c.total_of.ensures

pub returns-else-in_range : goal.returns-else-in_range
unfolding samples_in
returns-else-in_range c = rw (sym c.in_range.ensures ∙ c.if-in_range.false) refl

pub total_of-requires : goal.total_of-requires
total_of-requires c = in-range c
