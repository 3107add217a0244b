-- Tiles give the frame, of the calls: what each run left is what the definitions say, so the law of orders holds of the runs. Assumes nothing.
use Prim.Native.Nat.{ℕ, ◌≤◌}
use mathlib.Core.Path.{◌≡◌, refl, sym, ap, ap₂, ◌∙◌}
use mathlib.Core.List.{List, ◌∷◌}
use native.Mathlib.Omega.{arith}
use lib.ListN.{length, replicate}
use Rattle.pointwise.specs.Points.{each}
use Rattle.pointwise.proofs.Each.{length-each}
use Rattle.dng.specs.declared.Answer.{Answer}
use Rattle.dng.specs.declared.Answer.TheVariants as Ans
use Rattle.dng.specs.Answer.{Out}
use Rattle.law_rows.proofs.Place.{Laid}
use Rattle.law_rows.proofs.Calls.{other-period}
use Rattle.law_rows.proofs.Tests.{in_turn}
use Rattle.law_tiles.specs.Tiles.{Tile, tile_window, tile_part, tile_put, Lent, Fits, Suits}
use Rattle.law_tiles.proofs.Parts.{only_tile}
use Rattle.law_tiles.proofs.Order.{on_tiles, on-tiles-cut}
use Rattle.law_tiles.proofs.Theorem.{Inside, cut_inside, head-sits, tail-inside, cut-laid, rule, run_on, one-tile}
use Rattle.law_promises.specs.Promises.{Call, skips}
use Rattle.law_promises.specs.TileCalls.{form_of, TileCalls, done, call, TileRuns, TileCallsHold}

pub tile-runs : TileRuns
tile-runs =
    record {
      f32 = λ w set room list s names t u period own buffer. refl;
      u16 = λ w period preview room list s names t u q own buffer. refl;
    }

module _ {A : Type 0} (c : Call A) (h : Suits (form_of c) c.preview c.list c.names) (laid : Laid c.window) where
  -- the list finds room in any buffer that has it
  suits-in : (names : List ℕ) → skips c ≤ length names → Suits (form_of c) c.preview c.list names
  suits-in names roomy = record { opcodes = h.opcodes; whole = h.whole; taken = h.taken; without = h.without; roomy = roomy }

  tile-by-tile : {ts : List Tile} {rs : List Answer} {s u : List A} → TileCalls c ts rs s u → Fits c.window c.period ts
      → Inside c.window ts → Lent c.window (length s)
      → (rs ≡ replicate (length ts) (Ans.Done (skips c) 0 0)) × (u ≡ on_tiles c.window (length s) (rule (form_of c) c.preview c.list) ts s)
  unfolding in_turn
  tile-by-tile done fits inside full = (refl, refl)
  tile-by-tile (call {t = t} {ts = ts} {rs = rs} {s = s} {u = u} period room names e short roomy met more) fits inside full =
      let w = c.window in
      let f = rule (form_of c) c.preview c.list in
      let F : ℕ → A → A = only_tile w (length s) t f in
      let own = suits-in names roomy in
      let ranges = other-period (tile_window w t) c.period period fits.0.ranges short in
      let put : tile_put w t e.samples s ≡ each F s =
      ap (λ (v : List A). tile_put w t v s) met.left
      ∙ one-tile (form_of c) c.preview c.list w period room names t s laid ranges own (head-sits w c.period t ts fits.0 inside) full
      in
      let same : length (tile_put w t e.samples s) ≡ length s = ap length put ∙ length-each F s in
      let rest = tile-by-tile more fits.1 (tail-inside w t ts inside) (λ x y a b. omega (arith, full x y a b, same)) in (
        ap₂ ◌∷◌
            (met.answered ∙ ap (λ (o : Out A). o.answer) (run_on (form_of c) c.preview c.list (tile_window w t) period room names
            (tile_part w t s) ranges own))
            rest.0,
        rest.1 ∙ ap₂ (λ (n : ℕ) (v : List A). on_tiles w n f ts v) same put,
      )

pub tile-calls : TileCallsHold
tile-calls A c ts rs u e h q met calls =
    let w = c.window in
    let laid = cut-laid w c.period (length c.samples) ts q in
    let all = tile-by-tile c h laid calls q.fits (cut_inside w ts q.cut) q.full in
    let ran = run_on (form_of c) c.preview c.list w c.period c.room c.names c.samples q.ranges h in
    record {
      calls = all.0;
      run = met.answered ∙ ap (λ (o : Out A). o.answer) ran;
      samples = all.1
          ∙ on-tiles-cut w (length c.samples) (rule (form_of c) c.preview c.list) ts c.samples q.cut
          ∙ sym (met.left ∙ ap (λ (o : Out A). o.samples) ran);
    }
