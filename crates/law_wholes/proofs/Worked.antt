-- The conditions of the theorem can be met: a list of four entries (an empty table, a repair of the value 0, a trim, a table with two)
-- on a window of 3 by 1 with the values 10, 0, 19. The f32 run names 7 and 6, the whole-number form 6 alone. Assumes nothing.
use Prim.Native.Nat.{ℕ, zero, suc}
use mathlib.Core.Path.{refl}
use mathlib.Core.Bool.{Bool, true, false, ◌&&◌}
use mathlib.Core.List.{List, [], ◌∷◌, ◌++◌}
use native.Mathlib.Nat.{le_of_suc-le-suc, not-suc-le-zero}
use lib.Dec.{T, ltb, ltb→lt, lit≤}
use lib.Ieee.Fits.{and_l, and_r}
use lib.ListN.{length, replicate}
use Rattle.num_words.specs.Words.{big}
use Rattle.dng.specs.declared.Window.{Window}
use Rattle.dng.specs.List.{reading_of, items_of, counted, read_from, step_at, next_at, parsed_at, constant_at, trim_at, counted_at}
use Rattle.dng.specs.Run.{kept_of, Room, names_of, takes16_from, takes16_on}
use Rattle.dng.specs.Answer.{in_range}
use Rattle.law_wholes.specs.WholeForm.{Below, WholeForm, WholeFormIf}
use Rattle.law_wholes.specs.Together.{Together}
use Rattle.law_wholes.proofs.Theorem.{whole-form, same-scratch}

abbrev all : ℕ → List ℕ → Bool
all n [] = true
all n (x ∷ xs) = ltb x n && all n xs

all-below : (n : ℕ) (l : List ℕ) → T (all n l) → Below n l
all-below n [] t i h = absurd (not-suc-le-zero h)
all-below n (x ∷ xs) t zero h = ltb→lt x n (and_l (ltb x n) (all n xs) t)
all-below n (x ∷ xs) t (suc i) h = all-below n xs (and_r (ltb x n) (all n xs) t) i (le_of_suc-le-suc h)

-- a word below 256, and an entry: id, version, flags, the body and its length
abbrev word : ℕ → List ℕ
word n = 0 ∷ 0 ∷ 0 ∷ n ∷ []

abbrev words : List ℕ → List ℕ
words [] = []
words (n ∷ ns) = word n ++ words ns

abbrev entry : ℕ → List ℕ → List ℕ
entry id body = words (id ∷ 0 ∷ 0 ∷ length body ∷ []) ++ body

abbrev table : ℕ → List ℕ → List ℕ
table n halves = entry 7 (words (0 ∷ 0 ∷ 1 ∷ 3 ∷ 0 ∷ 1 ∷ 1 ∷ 1 ∷ n ∷ []) ++ halves)

abbrev list : List ℕ
list = word 4 ++ (table 0 [] ++ (entry 4 (words (0 ∷ 0 ∷ [])) ++ (entry 6 (replicate 16 0) ++ table 2 (255 ∷ 255 ∷ 1 ∷ 0 ∷ []))))

abbrev window : Window
window = record { width = 3; height = 1; planes = 1; stride = 3; x0 = 0; y0 = 0; full_width = 3; full_height = 1 }

abbrev room : Room
room = record { marks = 3 }

abbrev samples : List ℕ
samples = 10 ∷ 0 ∷ 19 ∷ []

pub met : WholeFormIf window 1 false room room list samples (0 ∷ []) (0 ∷ 0 ∷ [])
unfolding in_range big reading_of items_of counted read_from step_at next_at parsed_at constant_at trim_at counted_at takes16_from takes16_on kept_of names_of
met =
    record {
      bytes = all-below 256 list tt;
      words = all-below 65536 samples tt;
      ranges = refl;
      opcodes = 4;
      whole = refl;
      taken = refl;
      enough = record { marks = lit≤ tt };
      enough' = record { marks = lit≤ tt };
      roomy = lit≤ tt;
      roomy' = lit≤ tt;
    }

pub worked : WholeForm window 1 false room room list samples (0 ∷ []) (0 ∷ 0 ∷ [])
worked = whole-form window 1 false room room list samples (0 ∷ []) (0 ∷ 0 ∷ []) met

-- the same with no scratch at all, where both runs refuse the repair
pub worked-together : Together window 1 false (record { marks = 0 }) list samples (0 ∷ []) (0 ∷ 0 ∷ [])
worked-together =
    same-scratch window 1 false (record { marks = 0 }) list samples (0 ∷ []) (0 ∷ 0 ∷ [])
    (record { bytes = met.bytes; words = met.words; taken = met.taken; roomy = met.roomy; roomy' = met.roomy' })
