-- `one_row` meets its contract: each way is the row's rule. Assumes nothing.
use Prim.Native.Nat.{◌+◌}
use mathlib.Core.Path.{sym, ◌∙◌}
use borrow.Author.Rules.{rules}
use Rattle.row_black.specs.Rows.{no_delta, own_delta}
use Rattle.row_black.proofs.Evens.{paired}
use Rattle.row_black.proofs.Bayer.{none-rule, own-rule, level-is}
use Rattle.row_black.proofs.one_row.Goals as goal

pub returns-then-columns-row : goal.returns-then-columns-row
returns-then-columns-row g c =
    let r = c.args.row in
    let t = r.lent in
    paired _ _ _ _ _ _ no_delta _ _ c.pairs.auto.out c.pairs.ensures (λ j b x h e. search rules)
    ∙ none-rule g.S.Sample.none g.S.Sample.to_float c.args.input.now t.pattern t.blacks.now t.scales.now t.rows.now t.columns.now r.planes r.x r.y
    (sym c.is_paired.ensures ∙ c.if-is_paired.true) r.placed.wide _ _ _ _ c.args.out.now c.if-columns-row.true
    (level-is t.pattern t.blacks.now t.scales.now t.rows.now r.y r.x r.placed.first c.level_at-even.ensures)
    (level-is t.pattern t.blacks.now t.scales.now t.rows.now r.y (r.x + 1) (c.after.ensures r.x r.placed.first) c.level_at-odd.ensures)
    c.settled-even.ensures c.settled-odd.ensures

pub returns-then-end-columns : goal.returns-then-end-columns
returns-then-end-columns g c =
    let r = c.args.row in
    let t = r.lent in
    paired _ _ _ _ _ _ (own_delta _) _ _ c.pairs-then-end-columns.auto.out c.pairs-then-end-columns.ensures (λ j b x h e. e)
    ∙ own-rule g.S.Sample.none g.S.Sample.to_float c.args.input.now t.pattern t.blacks.now t.scales.now t.rows.now t.columns.now r.planes r.x r.y
    (sym c.is_paired.ensures ∙ c.if-is_paired.true) r.placed.wide _ _ c.args.out.now c.if-end-columns.true
    (level-is t.pattern t.blacks.now t.scales.now t.rows.now r.y r.x r.placed.first c.level_at-even.ensures)
    (level-is t.pattern t.blacks.now t.scales.now t.rows.now r.y (r.x + 1) (c.after.ensures r.x r.placed.first) c.level_at-odd.ensures)
