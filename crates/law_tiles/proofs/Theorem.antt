-- Document 02, M-110: tiles give the frame. Assumes nothing.
use Prim.Native.Nat.{ℕ, ◌≤◌, ◌<◌}
use mathlib.Core.Path.{◌≡◌, refl, sym, ap, ◌∙◌}
use mathlib.Core.Bool.{Bool, true, ◌&&◌, cond, and-false}
use mathlib.Core.List.{List, [], ◌∷◌}
use native.Mathlib.Omega.{arith}
use borrow.Author.Tests.{le-ltb}
use lib.Dec.{ltb}
use lib.ListN.{length}
use Rattle.pointwise.specs.Points.{each}
use Rattle.pointwise.proofs.Each.{below_or, length-each}
use Rattle.dng.specs.declared.Window.{Window}
use Rattle.dng.specs.Select.{Rule, on_window}
use Rattle.dng.specs.Run.{kept_in, Room}
use Rattle.dng.specs.Answer.{in_range, Out}
use Rattle.law_rows.proofs.Place.{Laid}
use Rattle.law_rows.proofs.Fused.{rows-no-repair, applied_of}
use Rattle.law_rows.proofs.Calls.{ranged, run_done, window-run}
use Rattle.law_rows.proofs.Tests.{in_turn}
use Rattle.law_tiles.specs.Tiles.{Tile, tile_window, tile_part, tile_put, within, hits, Cut, Lent, Fit, Fits, Form, out_on, one_tile, all_tiles, Runs, Suits, SuitingLists, TilesIf, TilesGiveTheFrame}
use Rattle.law_tiles.proofs.Parts.{Sits, only_tile, tile-run}
use Rattle.law_tiles.proofs.Order.{on_tiles, on-tiles-cut}

pub runs : Runs
runs =
    record {
      f32 = λ w set room list names s. refl;
      f32_tile = λ w t set room list names s. refl;
      u16 = λ w period preview room list names s. refl;
    }

pub suiting-lists : SuitingLists
suiting-lists =
    record {
      rows = λ w scale preview list names n whole taken roomy.
          record { opcodes = n; whole = whole; taken = refl; without = rows-no-repair (kept_in preview list) taken; roomy = roomy };
      tables = λ preview list names n whole taken without roomy. record { opcodes = n; whole = whole; taken = taken; without = without; roomy = roomy };
    }

-- the tiles of a cut, or of a part of it, lie in the window
abbrev pub Inside : Window → List Tile → Type 0
Inside w ts = (x y : ℕ) → 1 ≤ hits x y ts → (x < w.width) × (y < w.height)

pub cut_inside : (w : Window) (ts : List Tile) → Cut w ts → Inside w ts
cut_inside w ts cut x y h =
    below_or x w.width
    (λ q.
    below_or y w.height (λ r. (q, r))
    (λ r.
    absurd
    (omega (
      arith,
      cut x y,
      ap {B = ℕ} (λ (b : Bool). cond (ltb x w.width && b) 1 0) (le-ltb y w.height r),
      ap {B = ℕ} (λ (b : Bool). cond b 1 0) (and-false (ltb x w.width)),
    ))))
    (λ q. absurd (omega (arith, cut x y, ap {B = ℕ} (λ (b : Bool). cond (b && ltb y w.height) 1 0) (le-ltb x w.width q))))

pub head-sits : (w : Window) (period : ℕ) (t : Tile) (ts : List Tile) → Fit w period t → Inside w (t ∷ ts) → Sits w t
unfolding hits
head-sits w period t ts fit inside =
    record { inside = λ x y q. (inside x y (some x y q)).0; lower = λ x y q. (inside x y (some x y q)).1; full = fit.full }
  where
    some : (x y : ℕ) → within t x y ≡ true → 1 ≤ hits x y (t ∷ ts)
    some x y q = omega (arith, ap {B = ℕ} (λ (b : Bool). cond b 1 0) q)

pub tail-inside : (w : Window) (t : Tile) (ts : List Tile) → Inside w (t ∷ ts) → Inside w ts
unfolding hits
tail-inside w t ts inside x y h = inside x y (omega arith)

module _ {A : Type 0} (f : Form A) (preview : Bool) (list : List ℕ) where
  -- what the list makes of a sample, in a window as in its tiles
  abbrev pub rule : Rule A
  rule = applied_of f.kind list (kept_in preview list)

  -- a run, with buffers of its own
  pub run_on : (w : Window) (period : ℕ) (room : Room) (names : List ℕ) (s : List A) → in_range w period ≡ true → Suits f preview list names
      → out_on f period preview room list names w s ≡ run_done f.skip preview list names (each (on_window w (length s) rule) s)
  run_on w period room names s ranges h =
      window-run f.kind f.takes f.skip w period preview room list s names h.opcodes ranges h.whole h.taken h.without h.roomy

  -- a tile run and put back: the list's rule on its positions alone
  pub one-tile : (w : Window) (period : ℕ) (room : Room) (names : List ℕ) (t : Tile) (s : List A) → Laid w → in_range (tile_window w t) period ≡ true
      → Suits f preview list names → Sits w t → Lent w (length s) → one_tile f period preview room list names w t s ≡ each (only_tile w (length s) t rule) s
  one-tile w period room names t s laid ranges h sits full =
      ap (λ (o : Out A). tile_put w t o.samples s) (run_on (tile_window w t) period room names (tile_part w t s) ranges h)
      ∙ tile-run w laid t sits rule s full

  pub all-tiles : (w : Window) (period : ℕ) (room : Room) (names : List ℕ) (ts : List Tile) (s : List A) → Laid w → Suits f preview list names
      → Fits w period ts → Inside w ts → Lent w (length s) → all_tiles f period preview room list names w ts s ≡ on_tiles w (length s) rule ts s
  unfolding all_tiles in_turn
  all-tiles w period room names [] s laid h fits inside full = refl
  all-tiles w period room names (t ∷ ts) s laid h fits inside full =
      ap (all_tiles f period preview room list names w ts)
      (one-tile w period room names t s laid fits.0.ranges h (head-sits w period t ts fits.0 inside) full)
      ∙ all-tiles w period room names ts (each F s) laid h fits.1 (tail-inside w t ts inside)
      (λ x y a b. omega (arith, full x y a b, length-each F s))
      ∙ ap (λ (n : ℕ). on_tiles w n rule ts (each F s)) (length-each F s)
    where
      F : ℕ → A → A
      F = only_tile w (length s) t rule

pub cut-laid : (w : Window) (period n : ℕ) (ts : List Tile) → TilesIf w period n ts → Laid w
cut-laid w period n ts h = record { some = (ranged w period h.ranges).some; wide = h.wide; strided = h.strided }

pub tiles-give-the-frame : TilesGiveTheFrame
tiles-give-the-frame A f w period preview room list s names ts h q =
    let ran = run_on f preview list w period room names s q.ranges h in
    record {
      tiles = λ t u fit. ap (λ (o : Out A). o.answer) (run_on f preview list (tile_window w t) period room names (tile_part w t u) fit.ranges h);
      run = ap (λ (o : Out A). o.answer) ran;
      samples = all-tiles f preview list w period room names ts s (cut-laid w period (length s) ts q) h q.fits (cut_inside w ts q.cut) q.full
          ∙ on-tiles-cut w (length s) (rule f preview list) ts s q.cut
          ∙ sym (ap (λ (o : Out A). o.samples) ran);
    }
