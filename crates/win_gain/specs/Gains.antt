-- What `gain_of` answers: a gain map's own parts, or nothing of any other opcode.
use Rattle.std.specs.Prelude.{◌≡◌, Option, Some, None}
use Rattle.dng.specs.declared.Opcode.{Opcode}
use Rattle.dng.specs.declared.Opcode.TheVariants as Code
use Rattle.win_gain.specs.declared.GainMap.{GainMap}

-- the opcode whose parts they are
abbrev pub code_of : GainMap → Opcode
code_of g = Code.GainMap g.region g.map.points_v g.map.points_h g.map.grid g.map.planes

abbrev pub GainIs : Opcode → Option GainMap → Type 0
GainIs op (Some g) = op ≡ code_of g
GainIs op None = Unit
