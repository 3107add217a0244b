-- A value by its byte position in a body, as a loop over columns goes.
use Rattle.std.specs.Prelude.{ℕ, cond, List, ltb, Float}
use Rattle.dng.specs.Value.{f32_at}

-- the value that starts at byte `at` of a body b whose values end before `past`; from there on `missing`
unfoldable pub value_from : List ℕ → (past : ℕ) → (missing : Float) → (at : ℕ) → Float
value_from b past missing at = cond (ltb at past) (f32_at b at) missing
