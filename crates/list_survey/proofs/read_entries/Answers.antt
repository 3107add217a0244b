-- `list_survey::read_entries` meets its contract, by the loop's invariant. Assumes nothing.
use Prim.Native.Nat.{◌-◌}
use mathlib.Core.Path.{◌≡◌, ap, sym, ◌∙◌}
use native.Mathlib.Omega.{arith}
use lib.ListN.{length}
use Rattle.dng.specs.List.{read_from, why_from}
use Rattle.dng.specs.Run.{kept_of}
use Rattle.list_read.proofs.Fold.{start, none_yet, item, stop, end, total, why-item, why-stop}
use Rattle.list_read.proofs.Laws.{reading-stop, reading-whole}
use Rattle.list_survey.specs.Survey.{begun}
use Rattle.list_survey.proofs.Laws.{tally_from, more, no_more, small, known}
use Rattle.list_survey.proofs.read_entries.Goals as goal

pub loop-k-init : goal.loop-k-init
loop-k-init c =
    let args = c.args in
    let z = none_yet args.n in (
      omega (arith, ap (λ n. length (read_from args.list.now n start)) z),
      ap (λ n. why_from args.list.now n start) z,
      ap (λ t. tally_from t (kept_of args.preview (read_from args.list.now (args.n - 0) start))) c.begin-t.ensures
          ∙ ap (λ n. tally_from begun (kept_of args.preview (read_from args.list.now n start))) z,
    )

pub turn-t-requires : goal.turn-t-requires
turn-t-requires c =
    small _ _ _ _ _ c.requires c.loop-k.invariant.2

pub loop-k-preserved : goal.loop-k-preserved
loop-k-preserved c =
    let taken = c.loop-k-test.true in
    let stepped = c.step.ensures in
    let told = c.in-Ok.is in
    let inv = c.loop-k.invariant in (
      total _ _ _ _ _ taken stepped told inv.0,
      sym (why-item _ _ _ _ taken stepped told) ∙ inv.1,
      more _ _ (item _ _ _ _ taken stepped told) c.dropped.ensures c.turn-t.ensures ∙ inv.2,
    )

pub returns-in-Err : goal.returns-in-Err
returns-in-Err c =
    let told = c.in-Err.is in
    let stepped = c.step.ensures in
    let taken = c.loop-k-test.true in
    let args = c.args in
    let nothing = stop _ _ _ _ taken stepped told in
    let entries : c.loop-k.k ≡ length (read_from args.list.now args.n start) = omega (arith, ap length nothing) in
    known _ _ _ _ c.made_of.ensures (reading-stop _ _ entries taken (sym c.loop-k.invariant.1 ∙ why-stop _ _ _ _ taken stepped told))
    entries (no_more _ _ nothing ∙ c.loop-k.invariant.2)

pub returns : goal.returns
returns c =
    let args = c.args in
    let nothing = end args.list.now args.n c.loop-k.k c.loop-k.c c.loop-k-test.false in
    let entries : args.n ≡ length (read_from args.list.now args.n start) = omega (arith, ap length nothing) in
    known _ _ _ _ c.made_of-2.ensures (reading-whole _ _ entries) entries (no_more _ _ nothing ∙ c.loop-k.invariant.2)
