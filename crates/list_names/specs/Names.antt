-- Which opcodes a form names. Document 01, 'What comes back'.
use Rattle.std.specs.Prelude.{Bool, true, false}
use Rattle.dng.specs.declared.Class.{Class}
use Rattle.dng.specs.Run.{skipped, skipped16}

-- which opcodes a form skips: the whole-number form's, or the f32 run's
abbrev pub skipped_in : (whole : Bool) → Class → Bool
skipped_in true = skipped16
skipped_in false = skipped
