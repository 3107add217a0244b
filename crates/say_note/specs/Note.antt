-- What `notes` prints of the bytes of a list. Document 01, 'Notes program'.
use Rattle.std.specs.Prelude.{ℕ, ◌+◌, Bool, true, false, cond, List, [], ◌∷◌, ◌++◌, map, eqb, ltb, length, Ok, Err}
use Rattle.num_text.specs.Text.{text, decimal}
use Rattle.say_name.specs.Name.{name_text}
use Rattle.dng.specs.List.{Item, Reading, reading_of, items_of}
use Rattle.dng.specs.declared.Class.{Class}
use Rattle.dng.specs.declared.Class.TheVariants.{Table, Empty, Local, Repair, Unapplied}
use Rattle.dng.specs.Run.{names_of, skipped}

-- ---- names

-- how often a name occurs
unfoldable pub occurs : ℕ → List ℕ → ℕ
occurs x [] = 0
occurs x (n ∷ ns) = cond (eqb n x) 1 0 + occurs x ns

-- ` xC` after a name that occurs C > 1 times
unfoldable pub item : List ℕ → ℕ → List ℕ
item ns x = name_text x ++ cond (ltb 1 (occurs x ns)) (text " x" ++ decimal (occurs x ns)) []

-- in order of first appearance: a name that does not occur in the part before it
unfoldable pub firsts : (before : List ℕ) → List ℕ → List ℕ
firsts before [] = []
firsts before (n ∷ ns) = cond (eqb (occurs n before) 0) (n ∷ []) [] ++ firsts (before ++ (n ∷ [])) ns

-- `, ` between
unfoldable pub behind : List (List ℕ) → List ℕ
behind [] = []
behind (t ∷ ts) = text ", " ++ t ++ behind ts

unfoldable pub joined : List (List ℕ) → List ℕ
joined [] = []
joined (t ∷ ts) = t ++ behind ts

-- NAMES
unfoldable pub names : List ℕ → List ℕ
names ns = joined (map (item ns) (firsts [] ns))

-- ---- lines

-- a line over opcodes, and no line over none
unfoldable pub about : (head : List ℕ) → List ℕ → (end : List ℕ) → List ℕ
about head [] end = []
about head (n ∷ ns) end = head ++ names (n ∷ ns) ++ end

-- a pixel opcode is one that a form may apply; an empty table is one, although the f32 run skips it
abbrev pub pixel : Class → Bool
pixel Table = true
pixel Empty = true
pixel Local = true
pixel Repair = true
pixel Unapplied = false

abbrev pub every : Class → Bool
every c = true

abbrev pub applied : List ℕ
applied = text "OpcodeList1: applied "

abbrev pub not_applied : List ℕ
not_applied = text "OpcodeList1: not applied "

-- from the names of the pixel opcodes, of those that the f32 run skips, and of all; where there are no opcodes there is
-- no line
unfoldable pub lines : (pixels skips all : List ℕ) → List ℕ
lines [] skips all = about not_applied all (text " (no pixel opcodes)\n")
lines (n ∷ ns) skips all =
    about applied (n ∷ ns) (text "\n") ++ about not_applied skips (text "\n")

abbrev pub lines_of : List Item → List ℕ
lines_of is = lines (names_of pixel is) (names_of skipped is) (names_of every is)

-- ---- the whole output

unfoldable pub malformed_after : ℕ → List ℕ
malformed_after k = text "malformed after " ++ decimal k ++ text "\n"

unfoldable pub note_on : Reading → List Item → List ℕ
note_on (Err m) is = malformed_after m.after
note_on (Ok n) is = lines_of is

unfoldable pub note_of : List ℕ → List ℕ
note_of s = cond (ltb 65535 (length s)) (text "too long\n") (note_on (reading_of s) (items_of s))
