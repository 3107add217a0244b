-- Worked values of black level over bytes, each by computing: when 100 is given, and a frame with bytes left over.
use Rattle.std.specs.Prelude.{ℕ, true, false, List, [], ◌∷◌, ◌≡◌, refl, Ok, Err}
use Rattle.std.specs.Float.{nan, binary32}
use Rattle.std.specs.Float.Ieee.{of_bits, to_bits, of_int, round, sub, mul, lt}
use Rattle.num_words.specs.Words.{little}
use Rattle.num_convert.specs.Convert.{whole_in}
use Rattle.pointwise.specs.Points.{each, between}
use Rattle.run_bytes.specs.Samples.{floats_in, wholes_in, decoded, encoded, byte_of}
use Rattle.row_black.specs.declared.Field.{Field}
use Rattle.row_black.specs.declared.Refused.TheVariants.{Range, Tables, Samples}
use Rattle.row_black.specs.Black.{Levels, levels, with_delta, black_at, levelled_by, levelled, levelled_at, field_in_range, tabled, sampled, answer_of, BlackOut, black_out}
use Rattle.rolbhunga.specs.Black.{roomy, number_in, bytes_in}

pub record Numbers : Type 0 where
  -- 100 is last: it is given where the call would be done, and nowhere else
  pub done : number_in true (Ok tt) ≡ 0
  pub short : number_in false (Ok tt) ≡ 100
  pub range : number_in false (Err Range) ≡ 1
  pub tables : number_in false (Err Tables) ≡ 60
  pub samples : number_in false (Err Samples) ≡ 61
  -- a room that is as long as the frame is enough, and both rooms count
  pub exact : roomy 6 6 6 ≡ true
  pub work-short : roomy 6 5 6 ≡ false
  pub made-short : roomy 6 6 5 ≡ false

pub numbers : Numbers
unfolding number_in
numbers = record {
  done = refl;
  short = refl;
  range = refl;
  tables = refl;
  samples = refl;
  exact = refl;
  work-short = refl;
  made-short = refl;
}

-- ---- a frame of one sample, black 1 and scale 2

abbrev one : Field
one = record { width = 1; height = 1; planes = 1; x0 = 0; y0 = 0 }

abbrev plain : Levels
plain = levels (record { height = 1; width = 1 }) (whole_in binary32 1 ∷ []) (whole_in binary32 2 ∷ []) [] []

-- 3.0 and a byte left over become 4.0. What stands behind the frame stays: a NaN with its bits, and a byte left over
abbrev before : List ℕ
before = 9 ∷ 9 ∷ 9 ∷ 9 ∷ 1 ∷ 0 ∷ 128 ∷ 127 ∷ 7 ∷ []

abbrev floats : BlackOut
floats = black_out nan (λ x. x) one plain (floats_in (0 ∷ 0 ∷ 64 ∷ 64 ∷ 5 ∷ [])) (floats_in before)

pub float-bytes : bytes_in true floats 1 before ≡ 0 ∷ 0 ∷ 128 ∷ 64 ∷ 1 ∷ 0 ∷ 128 ∷ 127 ∷ 7 ∷ []
unfolding bytes_in black_out answer_of field_in_range tabled sampled encoded byte_of decoded little each between levelled_at
    levelled levelled_by black_at with_delta sub mul lt of_bits to_bits of_int round
float-bytes = refl

-- the same from a u16 sample in two bytes, and a byte left over
abbrev wholes : BlackOut
wholes = black_out 0 (whole_in binary32) one plain (wholes_in (3 ∷ 0 ∷ 5 ∷ [])) (floats_in before)

pub whole-bytes : bytes_in true wholes 1 before ≡ 0 ∷ 0 ∷ 128 ∷ 64 ∷ 1 ∷ 0 ∷ 128 ∷ 127 ∷ 7 ∷ []
unfolding bytes_in black_out answer_of field_in_range tabled sampled encoded byte_of decoded little each between levelled_at
    levelled levelled_by black_at with_delta sub mul lt of_bits to_bits of_int round
whole-bytes = refl

-- one byte is no sample: 61; too little room: as it was
pub no-sample : (black_out 0 (whole_in binary32) one plain (wholes_in (3 ∷ [])) (floats_in before)).answer ≡ Err Samples
unfolding black_out answer_of field_in_range tabled sampled decoded each
no-sample = refl

pub no_room : bytes_in false wholes 1 before ≡ before
unfolding bytes_in black_out answer_of field_in_range tabled sampled decoded each
no_room = refl
