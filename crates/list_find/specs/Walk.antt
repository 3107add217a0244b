-- The opcode lists inside a DNG file. Document 02, M-105, on the structure of TIFF 6.0, section 2. Positions count
-- from the file's first byte; a byte past the end counts as 0, and whether a number lies inside the file is asked
-- here.
use Rattle.std.specs.Prelude.{ℕ, zero, suc, ◌+◌, ◌*◌, Bool, ◌&&◌, ◌||◌, cond, List, Result, Ok, Err, leb, eqb, length, get_or, take, drop}
use Rattle.std.specs.declared.ops.ControlFlow.{ControlFlow}
use Rattle.std.specs.declared.ops.ControlFlow.TheVariants.{Break, Continue}
use Rattle.num_words.specs.Words.{big, little}
use Rattle.list_find.specs.declared.Which.{Which}
use Rattle.list_find.specs.declared.Which.TheVariants.{List1, List2, List3}
use Rattle.list_find.specs.declared.Place.{Place}
use Rattle.list_find.specs.declared.FindError.{FindError}
use Rattle.list_find.specs.declared.FindError.TheVariants.{NotTiff, Outside, TooMany, Missing}

-- ---- the paper's numbers

-- OpcodeList1, OpcodeList2, OpcodeList3
abbrev pub tag_of : Which → ℕ
tag_of List1 = 51008
tag_of List2 = 51009
tag_of List3 = 51022

-- where a list stands, or why none was found
abbrev pub Found : Type 0
Found = Result Place FindError

abbrev pub At : (start len : ℕ) → Found
At start len = Ok (record { start = start; len = len })

-- 30 not TIFF, 31 an offset or size outside the file, 32 more than 64 directories, 33 no such tag after a full walk
abbrev pub number_of : Found → ℕ
number_of (Ok place) = 0
number_of (Err NotTiff) = 30
number_of (Err Outside) = 31
number_of (Err TooMany) = 32
number_of (Err Missing) = 33

-- ---- a file: its bytes, and whether the first byte of a number weighs most

pub record File : Type 0 where
  pub most : Bool
  pub bytes : List ℕ

abbrev pub file_with : Bool → List ℕ → File
file_with most s = record { most = most; bytes = s }

abbrev pub size : File → ℕ
size f = length f.bytes

abbrev pub u16 : File → ℕ → ℕ
u16 f at = cond f.most (big 2 f.bytes at) (little 2 f.bytes at)

abbrev pub u32 : File → ℕ → ℕ
u32 f at = cond f.most (big 4 f.bytes at) (little 4 f.bytes at)

-- ---- a directory at `at`: how many entries it has, the entries, 12 bytes each, and the offset of the next directory

abbrev pub entries_in : File → ℕ → ℕ
entries_in f at = u16 f at

abbrev pub next_at : File → ℕ → ℕ
next_at f at = at + 2 + 12 * entries_in f at

unfoldable pub whole : File → ℕ → Bool
whole f at = leb (next_at f at + 4) (size f)

-- ---- an entry at e: tag, type, count, and the value or where it is

abbrev pub tag_at : File → ℕ → ℕ
tag_at f e = u16 f e

abbrev pub type_at : File → ℕ → ℕ
type_at f e = u16 f (e + 2)

abbrev pub count_at : File → ℕ → ℕ
count_at f e = u32 f (e + 4)

-- where a value of n bytes stands: four or fewer in the entry itself
unfoldable pub value_at : File → (e n : ℕ) → ℕ
value_at f e n = cond (leb n 4) (e + 8) (u32 f (e + 8))

unfoldable pub inside : File → (e n : ℕ) → Bool
inside f e n = leb (value_at f e n + n) (size f)

-- type 7 or 1, a byte each
unfoldable pub is_list : File → (tag e : ℕ) → Bool
is_list f tag e = eqb (tag_at f e) tag && (eqb (type_at f e) 7 || eqb (type_at f e) 1)

-- type 4 or 13, four bytes each
unfoldable pub is_subs : File → (e : ℕ) → Bool
is_subs f e = eqb (tag_at f e) 330 && (eqb (type_at f e) 4 || eqb (type_at f e) 13)

-- ---- the walk: it breaks with an answer, or continues with so many directories gone to

abbrev pub Looked : Type 0
Looked = ControlFlow Found ℕ

-- what comes after, where there is no answer yet
abbrev pub after : Looked → (ℕ → Looked) → Looked
after (Break a) rest = Break a
after (Continue k) rest = rest k

-- the list that an entry holds, as a part of the file
unfoldable pub list_at : File → (e : ℕ) → Found
list_at f e = cond (inside f e (count_at f e)) (At (value_at f e (count_at f e)) (count_at f e)) (Err Outside)

-- the first of n entries from e on that is the list decides (here and below a `let` is there so that a computation
-- ends with its answer)
unfoldable pub own_from : File → (tag n e k : ℕ) → Looked
own_from f tag zero e k = Continue k
own_from f tag (suc n) e k = let rest = own_from f tag n (e + 12) k in cond (is_list f tag e) (Break (list_at f e)) rest

-- after k directories: going to the one at `at`, which is whole in the file before any entry counts, and over its own
-- entries
unfoldable pub visit : File → (tag at k : ℕ) → Looked
visit f tag at k =
    cond (leb 64 k) (Break (Err TooMany))
    (cond (whole f at) (own_from f tag (entries_in f at) (at + 2) (suc k)) (Break (Err Outside)))

-- the SubIFD at one offset, its chain not followed; offset 0 is passed over
unfoldable pub sub_of : File → (tag at k : ℕ) → Looked
sub_of f tag at k = let gone = visit f tag at k in cond (eqb at 0) (Continue k) gone

-- the SubIFDs at n offsets from o on, in order
unfoldable pub subs_from : File → (tag n o k : ℕ) → Looked
subs_from f tag zero o k = Continue k
subs_from f tag (suc n) o k = after (sub_of f tag (u32 f o) k) (λ (j : ℕ). subs_from f tag n (o + 4) j)

-- the SubIFDs of an entry, if it has any: all of their offsets lie inside the file
unfoldable pub subs_at : File → (tag e k : ℕ) → Looked
subs_at f tag e k =
    let subs = subs_from f tag (count_at f e) (value_at f e (4 * count_at f e)) k in
    cond (inside f e (4 * count_at f e)) subs (Break (Err Outside))

unfoldable pub any_subs : File → (tag e k : ℕ) → Looked
any_subs f tag e k = let subs = subs_at f tag e k in cond (is_subs f e) subs (Continue k)

-- the SubIFDs of n entries from e on, in order
unfoldable pub all_subs : File → (tag n e k : ℕ) → Looked
all_subs f tag zero e k = Continue k
all_subs f tag (suc n) e k = after (any_subs f tag e k) (λ (j : ℕ). all_subs f tag n (e + 12) j)

-- a directory's own entries, then its SubIFDs
unfoldable pub directory : File → (tag at k : ℕ) → Looked
directory f tag at k = after (visit f tag at k) (λ (j : ℕ). all_subs f tag (entries_in f at) (at + 2) j)

-- then the next directory; offset 0 ends the chain. Each turn goes to one directory at least, so that 65 turns are
-- never all taken
abbrev pub onward : (ℕ → Found) → Looked → Found
onward rest (Break a) = a
onward rest (Continue k) = rest k

unfoldable pub chain : File → (tag turns at k : ℕ) → Found
chain f tag zero at k = Err TooMany
chain f tag (suc turns) at k =
    let rest = onward (λ (j : ℕ). chain f tag turns (u32 f (next_at f at)) j) (directory f tag at k) in
    cond (eqb at 0) (Err Missing) rest

-- ---- the header: II or MM, 42, and the offset of the first directory

-- c and c again
abbrev marked : ℕ → List ℕ → Bool
marked c s = eqb (get_or s 0 0) c && eqb (get_or s 1 0) c

unfoldable pub headed : List ℕ → Bool
headed s = leb 8 (length s) && ((marked 73 s && eqb (little 2 s 2) 42) || (marked 77 s && eqb (big 2 s 2) 42))

abbrev pub file_of : List ℕ → File
file_of s = file_with (eqb (get_or s 0 0) 77) s

unfoldable pub found_in : List ℕ → Which → Found
found_in s which =
    let found = chain (file_of s) (tag_of which) 65 (u32 (file_of s) 4) 0 in cond (headed s) found (Err NotTiff)

-- the part of the file that holds a list
abbrev pub part_of : List ℕ → (start len : ℕ) → List ℕ
part_of s start len = take len (drop start s)
