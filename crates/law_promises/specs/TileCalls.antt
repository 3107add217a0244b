-- Document 02, M-110, of the calls: tiles give the frame. Of each run no more is known than its contract, and each has
-- its own period, scratch and skip buffer. Over any sample kind; proofs/TileCalls proves it.
use Rattle.std.specs.Prelude.{ℕ, ◌≤◌, Bool, List, [], ◌∷◌, ◌≡◌, Float, length, replicate}
use Rattle.dng.specs.declared.Window.{Window}
use Rattle.dng.specs.declared.Settings.{Settings}
use Rattle.dng.specs.declared.Answer.{Answer}
use Rattle.dng.specs.declared.Answer.TheVariants as Ans
use Rattle.dng.specs.Run.{Room}
use Rattle.law_tiles.specs.Tiles.{Tile, tile_window, tile_part, tile_put, Form, Suits, TilesIf}
use Rattle.law_promises.specs.Promises.{Call, f32_call, u16_call, End, out_of, Meets, skips}

module _ {A : Type 0} (c : Call A) where
  abbrev pub form_of : Form A
  form_of = record { kind = c.kind; takes = c.takes; skip = c.skip }

  -- the run on one tile of the call's window, on the samples s as they are by then
  abbrev pub tile_call : Tile → List A → (period : ℕ) → Room → List ℕ → Call A
  tile_call t s period room names =
      record {
        kind = c.kind;
        takes = c.takes;
        skip = c.skip;
        window = tile_window c.window t;
        period = period;
        preview = c.preview;
        room = room;
        list = c.list;
        samples = tile_part c.window t s;
        names = names;
      }

-- of a public run it is that run on the tile's own window, at the frame's scale
pub record TileRuns : Type 1 where
  pub f32 : (w : Window) (set : Settings) (room : Room) (list : List ℕ) (s : List Float) (names : List ℕ) (t : Tile)
      (u : List Float) (period : ℕ) (own : Room) (buffer : List ℕ)
      → tile_call (f32_call w set room list s names) t u period own buffer
      ≡ f32_call (tile_window w t) (record { period = period; scale = set.scale; preview = set.preview }) own list
      (tile_part w t u) buffer
  pub u16 : (w : Window) (period : ℕ) (preview : Bool) (room : Room) (list s names : List ℕ) (t : Tile) (u : List ℕ)
      (q : ℕ) (own : Room) (buffer : List ℕ)
      → tile_call (u16_call w period preview room list s names) t u q own buffer
      ≡ u16_call (tile_window w t) q preview own list (tile_part w t u) buffer

-- runs on the tiles ts, one after another through one list of samples: what each answered, and the samples before and
-- after
pub data TileCalls {A : Type 0} (c : Call A) : List Tile → List Answer → List A → List A → Type 0 where
  done : {s : List A} → TileCalls c [] [] s s
  call : {t : Tile} {ts : List Tile} {rs : List Answer} {s u : List A} (period : ℕ) (room : Room) (names : List ℕ)
      (e : End A) → period ≤ 65536 → skips c ≤ length names → Meets (out_of (tile_call c t s period room names)) room e
      → TileCalls c ts rs (tile_put c.window t e.samples s) u
      → TileCalls c (t ∷ ts) (e.answer ∷ rs) s u

-- every run on a tile answers 0, the run on the frame answers 0, and both leave the same samples
pub record TilesAgree {A : Type 0} (c : Call A) (ts : List Tile) (rs : List Answer) (u : List A) (e : End A)
    : Type 0 where
  pub calls : rs ≡ replicate (length ts) (Ans.Done (skips c) 0 0)
  pub run : e.answer ≡ Ans.Done (skips c) 0 0
  pub samples : u ≡ e.samples

abbrev pub TileCallsHold : Type 1
TileCallsHold =
    (A : Type 0) (c : Call A) (ts : List Tile) (rs : List Answer) (u : List A) (e : End A)
    → Suits (form_of c) c.preview c.list c.names → TilesIf c.window c.period (length c.samples) ts
    → Meets (out_of c) c.room e → TileCalls c ts rs c.samples u → TilesAgree c ts rs u e
