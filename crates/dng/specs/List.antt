-- The layout of an opcode list. DNG Specification, chapter on opcode lists; document 01, 'The list'.
-- Why one is refused, and at which byte: document 02, M-100.
-- Big-endian throughout. Positions count from the list's first byte. Bytes left over in a body or after the list are
-- ignored, and so is the version.
use Rattle.std.specs.Prelude.{ℕ, zero, suc, ◌+◌, ◌-◌, ◌*◌, ◌/◌, ◌%◌, min, max, Bool, false, ◌&&◌, cond, List, [], ◌∷◌, ◌++◌, leb, eqb, Float, negsuc, length, take, drop, replicate, Result, Ok, Err}
use Rattle.std.specs.Float.{binary64, fin}
use Rattle.std.specs.Float.Ieee.{of_bits}
use Rattle.num_words.specs.Words.{big}
use Rattle.dng.specs.declared.Region.{Region}
use Rattle.dng.specs.declared.Grid.{Grid}
use Rattle.dng.specs.declared.Radial.{Radial}
use Rattle.dng.specs.declared.Opcode.{Opcode}
use Rattle.dng.specs.declared.Opcode.TheVariants.{WarpRectilinear, WarpFisheye, FixVignetteRadial, FixBadPixelsConstant, FixBadPixelsList, TrimBounds, MapTable, MapPolynomial, GainMap, DeltaPerRow, DeltaPerColumn, ScalePerRow, ScalePerColumn, Other}
use Rattle.dng.specs.declared.Entry.{Entry}
use Rattle.dng.specs.declared.Cursor.{Cursor}
use Rattle.dng.specs.declared.Reason.{Reason}
use Rattle.dng.specs.declared.Reason.TheVariants as Why
use Rattle.dng.specs.declared.Refusal.{Refusal}
use Rattle.dng.specs.declared.Found.{Found}
use Rattle.dng.specs.declared.Step.{Step}
use Rattle.dng.specs.declared.Malformed.{Malformed}

-- ---- words

abbrev pub u32_at : List ℕ → ℕ → ℕ
u32_at s at = big 4 s at

abbrev pub f64_at : List ℕ → ℕ → Float
f64_at s at = of_bits binary64 (big 8 s at)

-- ---- refusals: why, and the offset of the field that could not be read or accepted

-- 20 the list ends in its count or an entry's header, 21 over 4,096 entries, 22 a body longer than the rest, 23 a body
-- that ends inside a fixed field, 24 a count or dimension that breaks its limit or the body, 25 a degree above 8
abbrev pub reason_number : Reason → ℕ
reason_number Why.Ends = 20
reason_number Why.TooMany = 21
reason_number Why.TooLong = 22
reason_number Why.Inside = 23
reason_number Why.Count = 24
reason_number Why.Degree = 25

abbrev pub refusal : Reason → ℕ → Refusal
refusal r at = record { reason = r; at = at }

-- the offset of what stands k bytes after `at`; the list's end where that lies past it, which it never does in an entry
-- of a list
abbrev pub offset_in : List ℕ → (at k : ℕ) → ℕ
offset_in s at k = min (at + k) (length s)

-- how many bytes fields of these sizes take
unfoldable pub extent : List ℕ → ℕ
extent [] = 0
extent (k ∷ ks) = k + extent ks

-- of fields of these sizes, one after another in n bytes, where the first one starts that is not whole; where all are,
-- their end
unfoldable pub first_cut : List ℕ → ℕ → ℕ
first_cut [] n = 0
first_cut (k ∷ ks) n = cond (leb k n) (k + first_cut ks (n - k)) 0

abbrev pub fours : ℕ → List ℕ
fours n = replicate n 4

abbrev pub eights : ℕ → List ℕ
eights n = replicate n 8

-- ---- the fields that are always there, in reading order, by their sizes

-- id, version, flags, length
abbrev pub header_fields : List ℕ
header_fields = fours 4

-- 3: k0..k4, cx, cy
abbrev pub vignette_fields : List ℕ
vignette_fields = eights 7

-- 4: constant, phase
abbrev pub constant_fields : List ℕ
constant_fields = fours 2

-- 5: phase, np, nr
abbrev pub bad_list_fields : List ℕ
bad_list_fields = fours 3

-- 6: top, left, bottom, right
abbrev pub trim_fields : List ℕ
trim_fields = fours 4

-- 7, 8 and 10 to 13: the eight of a region; n, or the degree
abbrev pub counted_fields : List ℕ
counted_fields = fours 8 ++ fours 1

-- 9: the eight of a region; points v, h; spacing v, h, origin v, h; map planes
abbrev pub gain_fields : List ℕ
gain_fields = fours 8 ++ (fours 2 ++ (eights 4 ++ fours 1))

-- ---- an entry: id, version, flags, body length, and the body, which lies inside the list

abbrev pub header_at : List ℕ → ℕ → Entry
header_at s at =
    record {
      id = u32_at s at;
      version = u32_at s (at + 4);
      flags = u32_at s (at + 8);
      at = at + 16;
      len = u32_at s (at + 12);
    }

-- 20 at the first of the four words that is not whole; where all are, 22 at the length
unfoldable pub header_why : List ℕ → ℕ → Refusal
header_why s at =
    cond (leb (at + 16) (length s)) (refusal Why.TooLong (at + 12))
    (refusal Why.Ends (at + first_cut header_fields (length s - at)))

unfoldable pub next_at : List ℕ → Cursor → Result Found Refusal
next_at s c =
    cond (leb (c.at + 16) (length s) && leb (c.at + 16 + u32_at s (c.at + 12)) (length s))
    (Ok (record { entry = header_at s c.at; next = record { at = c.at + 16 + u32_at s (c.at + 12) } }))
    (Err (header_why s c.at))

-- flag bit 0: a reader that does not know the opcode may pass it over
abbrev pub optional_of : Entry → Bool
optional_of e = eqb (e.flags % 2) 1

-- flag bit 1: the opcode may be skipped for a preview (document 02, M-111)
abbrev pub preview_of : Entry → Bool
preview_of e = eqb (e.flags / 2 % 2) 1

-- the entry's body, a part of the list
abbrev pub body_of : List ℕ → Entry → List ℕ
body_of s e = take e.len (drop e.at s)

-- ---- bodies: the body starts at `at` and is `len` bytes long

-- eight u32
abbrev pub region_at : List ℕ → ℕ → Region
region_at s at =
    record {
      top = u32_at s at;
      left = u32_at s (at + 4);
      bottom = u32_at s (at + 8);
      right = u32_at s (at + 12);
      plane = u32_at s (at + 16);
      planes = u32_at s (at + 20);
      row_pitch = u32_at s (at + 24);
      col_pitch = u32_at s (at + 28);
    }

-- spacing v, h and origin v, h
abbrev pub grid_at : List ℕ → ℕ → Grid
grid_at s at =
    record {
      spacing_v = f64_at s at;
      spacing_h = f64_at s (at + 8);
      origin_v = f64_at s (at + 16);
      origin_h = f64_at s (at + 24);
    }

-- k0..k4, cx, cy
abbrev pub radial_at : List ℕ → ℕ → Radial
radial_at s at =
    record {
      k0 = f64_at s at;
      k1 = f64_at s (at + 8);
      k2 = f64_at s (at + 16);
      k3 = f64_at s (at + 24);
      k4 = f64_at s (at + 32);
      cx = f64_at s (at + 40);
      cy = f64_at s (at + 48);
    }

-- the opcode where its counts hold; where not, a malformed body, and why
abbrev pub given : Bool → Opcode → Refusal → Result Opcode Refusal
given ok op why = cond ok (Ok op) (Err why)

-- 23 at the first of a body's fields that is not whole
unfoldable pub inside_why : List ℕ → List ℕ → (at len : ℕ) → Refusal
inside_why fields s at len = refusal Why.Inside (offset_in s at (first_cut fields len))

-- where all fields are whole, the reason r at the field k bytes into the body: a count is met when the last field has
-- been read
unfoldable pub field_why : List ℕ → Reason → (k : ℕ) → List ℕ → (at len : ℕ) → Refusal
field_why fields r k s at len = cond (leb (extent fields) len) (refusal r (offset_in s at k)) (inside_why fields s at len)

abbrev pub half : Float
half = fin false 1 (negsuc 0)

-- 1: n in 1..4, then 6n+2 f64, the last two the centre. Malformed: no planes, centre 0.5, 0.5, and the list goes on
unfoldable pub warp_at : List ℕ → ℕ → ℕ → Opcode
warp_at s at len =
    let n = u32_at s at in
    cond (leb 4 len && (leb 1 n && (leb n 4 && leb (4 + (6 * n + 2) * 8) len)))
    (WarpRectilinear n (f64_at s (at + 4 + 6 * n * 8)) (f64_at s (at + 4 + (6 * n + 1) * 8)))
    (WarpRectilinear 0 half half)

-- 3: seven f64
unfoldable pub vignette_at : List ℕ → ℕ → ℕ → Result Opcode Refusal
vignette_at s at len = given (leb 56 len) (FixVignetteRadial (radial_at s at)) (inside_why vignette_fields s at len)

-- 4: constant, phase
unfoldable pub constant_at : List ℕ → ℕ → ℕ → Result Opcode Refusal
constant_at s at len =
    given (leb 8 len) (FixBadPixelsConstant (u32_at s at) (u32_at s (at + 4))) (inside_why constant_fields s at len)

-- 5: phase, np, nr, then np points (row, column) and nr rectangles (top, left, bottom, right);
-- 24 at np, the first of the sum's counts
unfoldable pub bad_list_at : List ℕ → ℕ → ℕ → Result Opcode Refusal
bad_list_at s at len =
    let np = u32_at s (at + 4) in
    let nr = u32_at s (at + 8) in
    given (leb 12 len && leb (12 + (8 * np + 16 * nr)) len) (FixBadPixelsList (u32_at s at) np nr)
    (field_why bad_list_fields Why.Count 4 s at len)

-- 6: four numbers
unfoldable pub trim_at : List ℕ → ℕ → ℕ → Result Opcode Refusal
trim_at s at len =
    given (leb 16 len) (TrimBounds (u32_at s at) (u32_at s (at + 4)) (u32_at s (at + 8)) (u32_at s (at + 12)))
    (inside_why trim_fields s at len)

-- 7 and 10 to 13: a region, n, and n values of `size` bytes; n is at most 16,777,216, and 0 is allowed
unfoldable pub counted_at : ℕ → (Region → ℕ → Opcode) → List ℕ → ℕ → ℕ → Result Opcode Refusal
counted_at size op s at len =
    let n = u32_at s (at + 32) in
    given (leb 36 len && (leb n 16777216 && leb (36 + size * n) len)) (op (region_at s at) n)
    (field_why counted_fields Why.Count 32 s at len)

-- 8: a region, the degree 0..8, and degree+1 f64; 25 before 24
unfoldable pub polynomial_at : List ℕ → ℕ → ℕ → Result Opcode Refusal
polynomial_at s at len =
    let d = u32_at s (at + 32) in
    given (leb 36 len && (leb d 8 && leb (36 + 8 * (d + 1)) len)) (MapPolynomial (region_at s at) d)
    (field_why counted_fields (cond (leb d 8) Why.Count Why.Degree) 32 s at len)

-- 9: a region, points v and h, the grid, map planes (0 becomes 1), and v·h·planes f32; that product is 1 to 16,777,216;
-- 24 at points v, the first of the product's
unfoldable pub gain_at : List ℕ → ℕ → ℕ → Result Opcode Refusal
gain_at s at len =
    let v = u32_at s (at + 32) in
    let h = u32_at s (at + 36) in
    let m = u32_at s (at + 72) in
    let total = v * h * max m 1 in
    given (leb 76 len && (leb 1 total && (leb total 16777216 && leb (76 + 4 * total) len)))
    (GainMap (region_at s at) v h (grid_at s (at + 40)) m)
    (field_why gain_fields Why.Count 32 s at len)

-- the body of an entry, by its id; the bodies of 2 and of any other id are not read
unfoldable pub parsed_at : List ℕ → ℕ → ℕ → ℕ → Result Opcode Refusal
parsed_at s id at len =
    cond (eqb id 1) (Ok (warp_at s at len))
    (cond (eqb id 2) (Ok WarpFisheye)
    (cond (eqb id 3) (vignette_at s at len)
    (cond (eqb id 4) (constant_at s at len)
    (cond (eqb id 5) (bad_list_at s at len)
    (cond (eqb id 6) (trim_at s at len)
    (cond (eqb id 7) (counted_at 2 MapTable s at len)
    (cond (eqb id 8) (polynomial_at s at len)
    (cond (eqb id 9) (gain_at s at len)
    (cond (eqb id 10) (counted_at 4 DeltaPerRow s at len)
    (cond (eqb id 11) (counted_at 4 DeltaPerColumn s at len)
    (cond (eqb id 12) (counted_at 4 ScalePerRow s at len)
    (cond (eqb id 13) (counted_at 4 ScalePerColumn s at len)
    (Ok (Other id))))))))))))))

-- ---- the list: a count, at most 4,096, and as many entries

abbrev pub step_on : Found → Result Opcode Refusal → Result Step Refusal
step_on f (Ok op) = Ok (record { entry = f.entry; op = op; next = f.next })
step_on f (Err why) = Err why

abbrev pub step_of : List ℕ → Result Found Refusal → Result Step Refusal
step_of s (Ok f) = step_on f (parsed_at s f.entry.id f.entry.at f.entry.len)
step_of s (Err why) = Err why

-- the entry at a cursor, header and body
unfoldable pub step_at : List ℕ → Cursor → Result Step Refusal
step_at s c = step_of s (next_at s c)

-- an opcode of a list, with its entry
pub record Item : Type 0 where
  pub entry : Entry
  pub op : Opcode

abbrev pub item_of : Step → Item
item_of i = record { entry = i.entry; op = i.op }

abbrev pub read_on : (Cursor → List Item) → Result Step Refusal → List Item
read_on rest (Ok i) = item_of i ∷ rest i.next
read_on rest (Err why) = []

-- the entries that are read whole, one after another from a cursor on: n of them, or as many as stand before the first
-- malformed one
unfoldable pub read_from : List ℕ → ℕ → Cursor → List Item
read_from s zero c = []
read_from s (suc n) c = read_on (λ (next : Cursor). read_from s n next) (step_at s c)

-- the count, where there is one and it is at most 4,096
unfoldable pub counted : List ℕ → Bool
counted s = leb 4 (length s) && leb (u32_at s 0) 4096

-- the entries that are read whole
unfoldable pub items_of : List ℕ → List Item
items_of s = cond (counted s) (read_from s (u32_at s 0) (record { at = 4 })) []

-- why the first malformed entry is refused, of n from a cursor on; where there is none, no one asks
abbrev pub why_on : (Cursor → Refusal) → Result Step Refusal → Refusal
why_on rest (Ok i) = rest i.next
why_on rest (Err why) = why

unfoldable pub why_from : List ℕ → ℕ → Cursor → Refusal
why_from s zero c = refusal Why.Ends 0
why_from s (suc n) c = why_on (λ (next : Cursor). why_from s n next) (step_at s c)

-- 20 and 21 of the count, at 0; then the first malformed entry's
unfoldable pub why_of : List ℕ → Refusal
why_of s =
    cond (leb 4 (length s))
    (cond (leb (u32_at s 0) 4096) (why_from s (u32_at s 0) (record { at = 4 })) (refusal Why.TooMany 0))
    (refusal Why.Ends 0)

abbrev pub malformed : (after : ℕ) → Refusal → Malformed
malformed k why = record { after = k; why = why }

-- how many opcodes there are, or after how many, and why, the list is malformed
abbrev pub Reading : Type 0
Reading = Result ℕ Malformed

-- A list is whole where its count can be read and kept and every entry is read whole. If not, it is malformed after
-- those that were.
unfoldable pub reading_of : List ℕ → Reading
reading_of s =
    cond (counted s && eqb (length (items_of s)) (u32_at s 0)) (Ok (u32_at s 0))
    (Err (malformed (length (items_of s)) (why_of s)))
