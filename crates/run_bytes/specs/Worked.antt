-- Worked values, each by computing: the order of the bytes, and what is left over.
use Rattle.std.specs.Prelude.{◌≡◌, refl, [], ◌∷◌}
use Rattle.num_words.specs.Words.{little}
use Rattle.pointwise.specs.Points.{each, between}
use Rattle.run_bytes.specs.Samples.{wholes_in, decoded, encoded, byte_of}

-- two samples and a byte left over
pub two : wholes_in (1 ∷ 2 ∷ 255 ∷ 0 ∷ 9 ∷ []) ≡ 513 ∷ 255 ∷ []
unfolding decoded each little
two = refl

pub back : encoded 2 (λ n. n) 0 (513 ∷ 255 ∷ []) (7 ∷ 7 ∷ 7 ∷ 7 ∷ 9 ∷ []) ≡ 1 ∷ 2 ∷ 255 ∷ 0 ∷ 9 ∷ []
unfolding encoded byte_of each between
back = refl
