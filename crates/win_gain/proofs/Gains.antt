-- What `gain_of` answers of a gain map is enough to run it: its counts are in bounds, and its rule is the opcode's at any scale. Assumes nothing.
use Prim.Native.Nat.{ℕ}
use mathlib.Core.Path.{◌≡◌, sym, ap, subst, ◌∙◌}
use mathlib.Core.Bool.{true}
use mathlib.Core.List.{List}
use lib.Ieee.{Float}
use Rattle.std.specs.Prelude.{Option, Some}
use Rattle.pointwise.specs.Points.{each}
use Rattle.dng.specs.declared.Opcode.{Opcode}
use Rattle.dng.specs.declared.Window.{Window}
use Rattle.dng.specs.Answer.{frame_of}
use Rattle.dng.specs.Bounds.{bounded}
use Rattle.dng.specs.Select.{on_region, on_row, on_window}
use Rattle.dng.specs.Value.{gained, rule_of}
use Rattle.win_gain.specs.Columns.{MapFits, gain_rule}
use Rattle.win_gain.specs.declared.GainMap.{GainMap}
use Rattle.win_gain.specs.Gains.{GainIs, code_of}

module _ (op : Opcode) {x : Option GainMap} {g : GainMap} (is : GainIs op x) (e : x ≡ Some g) where
  opcode : op ≡ code_of g
  opcode = subst (GainIs op) e is

  pub map-fits : bounded op ≡ true → MapFits g.map
  map-fits h = subst (λ (o : Opcode). bounded o ≡ true) opcode h

  -- on a row, in a frame of the full sizes fw and fh
  pub map_row : (x0 p y n fw fh : ℕ) (scale : Float) (b : List ℕ) (s row : List Float)
      → row ≡ each (on_row x0 p y n (on_region g.region (gain_rule fw fh b g))) s
      → row ≡ each (on_row x0 p y n (rule_of (record { scale = scale; full_width = fw; full_height = fh }) op b)) s
  unfolding gained
  map_row x0 p y n fw fh scale b s row ran =
      ran ∙ ap (λ (o : Opcode). each (on_row x0 p y n (rule_of (record { scale = scale; full_width = fw; full_height = fh }) o b)) s) (sym opcode)

  pub map-rule : (w : Window) (scale : Float) (n : ℕ) (b : List ℕ) (s row : List Float)
      → row ≡ each (on_window w n (on_region g.region (gain_rule w.full_width w.full_height b g))) s
      → row ≡ each (on_window w n (rule_of (frame_of w scale) op b)) s
  unfolding gained
  map-rule w scale n b s row ran = ran ∙ ap (λ (o : Opcode). each (on_window w n (rule_of (frame_of w scale) o b)) s) (sym opcode)
