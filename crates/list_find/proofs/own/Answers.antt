-- `list_find::own` meets its contract. The loop's invariant: what the entries from here on give is the whole. Assumes nothing.
use Rattle.std.proofs.Common.{sym, ap, ◌∙◌, Break}
use Rattle.list_find.specs.Walk.{Found, Looked}
use Rattle.list_find.proofs.Laws.{own-begin, own-here, own_on, own-end}
use Rattle.list_find.proofs.own.Goals as goal

pub loop-i-init : goal.loop-i-init
loop-i-init c = own-begin _ _ _ _ _

pub returns-then-is_list : goal.returns-then-is_list
returns-then-is_list c =
    let there : Found → Looked = λ r. Break r in
    ap there c.list_at.ensures ∙ sym (own-here _ _ _ _ _ _ c.loop-i-test.true c.is_list.ensures c.if-is_list.true) ∙ c.loop-i.invariant

pub loop-i-preserved : goal.loop-i-preserved
loop-i-preserved c =
    sym (own_on _ _ _ _ _ _ c.loop-i-test.true c.is_list.ensures c.if-is_list.false) ∙ c.loop-i.invariant

pub returns : goal.returns
returns c = sym (own-end _ _ _ _ _ _ c.loop-i-test.false) ∙ c.loop-i.invariant
