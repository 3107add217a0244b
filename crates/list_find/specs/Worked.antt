-- Worked values, which the checker computes: small files, one for each sentence of document 02, M-105, and each
-- reading of it (docs/DECISIONS).
use Rattle.std.specs.Prelude.{ℕ, zero, suc, ◌+◌, ◌/◌, ◌%◌, ◌≡◌, refl, Bool, true, false, cond, List, Err, [], ◌∷◌, ◌++◌, replicate}
use Rattle.num_words.specs.Words.{big, little}
use Rattle.list_find.specs.declared.Which.TheVariants.{List1, List2, List3}
use Rattle.list_find.specs.declared.FindError.TheVariants.{NotTiff, Outside, TooMany, Missing}
use Rattle.list_find.specs.Walk.{Found, At, number_of, whole, value_at, inside, is_list, is_subs, list_at, own_from, visit, sub_of, subs_from, subs_at, any_subs, all_subs, directory, chain, headed, found_in, part_of}

-- ---- files, in either order

-- two bytes and four
abbrev two : Bool → ℕ → List ℕ
two most n = cond most (n / 256 % 256 ∷ n % 256 ∷ []) (n % 256 ∷ n / 256 % 256 ∷ [])

abbrev four : Bool → ℕ → List ℕ
four most n = cond most (two true (n / 65536) ++ two true (n % 65536)) (two false (n % 65536) ++ two false (n / 65536))

abbrev fours : Bool → List ℕ → List ℕ
fours most [] = []
fours most (n ∷ ns) = four most n ++ fours most ns

-- the header, with the first directory's offset
abbrev head : Bool → ℕ → List ℕ
head most first = cond most (77 ∷ 77 ∷ []) (73 ∷ 73 ∷ []) ++ two most 42 ++ four most first

abbrev entry : Bool → (tag kind count value : ℕ) → List ℕ
entry most tag kind count value = two most tag ++ two most kind ++ four most count ++ four most value

-- a directory of up to three entries, and the next offset
abbrev dir0 : Bool → ℕ → List ℕ
dir0 most next = two most 0 ++ four most next

abbrev dir1 : Bool → List ℕ → ℕ → List ℕ
dir1 most e next = two most 1 ++ e ++ four most next

abbrev dir2 : Bool → (e d : List ℕ) → ℕ → List ℕ
dir2 most e d next = two most 2 ++ e ++ d ++ four most next

-- OpcodeList1 in its entry, of n bytes
abbrev list1 : Bool → ℕ → List ℕ
list1 most n = entry most 51008 7 n 0

-- SubIFDs: n offsets, where n is 1 the offset itself
abbrev sub : Bool → (n at : ℕ) → List ℕ
sub most n at = entry most 330 4 n at

-- what is found in a file whose first directory stands at 8
abbrev found : Bool → List ℕ → Found
found most rest = found_in (head most 8 ++ rest) List1

-- ---- the walk

pub record Header : Type 0 where
  pub empty : found_in [] List1 ≡ Err NotTiff
  -- fewer than four bytes after 42
  pub short : found_in (73 ∷ 73 ∷ 42 ∷ 0 ∷ 8 ∷ 0 ∷ 0 ∷ []) List1 ≡ Err NotTiff
  -- 43 is BigTIFF
  pub other : found_in (77 ∷ 77 ∷ 0 ∷ 43 ∷ 0 ∷ 0 ∷ 0 ∷ 0 ∷ []) List1 ≡ Err NotTiff
  -- 42 in the other order; two letters that differ
  pub turned : found_in (77 ∷ 77 ∷ 42 ∷ 0 ∷ 0 ∷ 0 ∷ 0 ∷ 0 ∷ []) List1 ≡ Err NotTiff
  pub turned-back : found_in (73 ∷ 73 ∷ 0 ∷ 42 ∷ 0 ∷ 0 ∷ 0 ∷ 0 ∷ []) List1 ≡ Err NotTiff
  pub mixed : found_in (73 ∷ 77 ∷ 42 ∷ 0 ∷ 0 ∷ 0 ∷ 0 ∷ 0 ∷ []) List1 ≡ Err NotTiff
  -- offset 0 ends the chain, also the first
  pub none : found_in (head false 0) List1 ≡ Err Missing
  -- an offset below 8: a directory of no entries in the header itself
  pub low : found_in (head false 6 ++ four false 0) List1 ≡ Err Missing

-- in a big-endian and in a little-endian file
pub record Own (most : Bool) : Type 0 where
  pub inline : found most (dir1 most (list1 most 4) 0) ≡ At 18 4
  pub asked2 : found_in (head most 8 ++ dir1 most (entry most 51009 7 4 0) 0) List2 ≡ At 18 4
  pub asked3 : found_in (head most 8 ++ dir1 most (entry most 51022 7 4 0) 0) List3 ≡ At 18 4
  -- another list than the one asked for
  pub other : found_in (head most 8 ++ dir1 most (list1 most 4) 0) List2 ≡ Err Missing
  -- five bytes stand elsewhere: up to the file's end, and one past it
  pub five : found most (dir1 most (entry most 51008 7 5 26) 0 ++ (1 ∷ 2 ∷ 3 ∷ 4 ∷ 5 ∷ [])) ≡ At 26 5
  pub past : found most (dir1 most (entry most 51008 7 5 26) 0 ++ (1 ∷ 2 ∷ 3 ∷ 4 ∷ [])) ≡ Err Outside
  -- a count of 0: found, no bytes, where the value would stand
  pub nothing : found most (dir1 most (list1 most 0) 0) ≡ At 18 0
  -- a list may stand at offset 0
  pub first : found most (dir1 most (entry most 51008 7 5 0) 0) ≡ At 0 5
  -- offset and size are added without wrapping: in 32 bits the sum would be 4
  pub far : found most (dir1 most (entry most 51008 7 5 4294967295) 0) ≡ Err Outside
  -- types 7 and 1; another is passed over, those of SubIFDs too
  pub bytes : found most (dir1 most (entry most 51008 1 4 0) 0) ≡ At 18 4
  pub ascii : found most (dir2 most (entry most 51008 2 4 0) (list1 most 3) 0) ≡ At 30 3
  pub long : found most (dir2 most (entry most 51008 4 1 0) (list1 most 3) 0) ≡ At 30 3
  pub ifd : found most (dir2 most (entry most 51008 13 1 0) (list1 most 3) 0) ≡ At 30 3
  -- the first one of a right type decides, also where it lies outside
  pub decides : found most (dir2 most (entry most 51008 7 5 99) (list1 most 3) 0) ≡ Err Outside
  -- an entry of another tag is not looked into
  pub unread : found most (dir2 most (entry most 273 4 9 4294967295) (list1 most 3) 0) ≡ At 30 3

pub record Directories (most : Bool) : Type 0 where
  -- a directory not whole in the file: its next offset cut, and a first offset at the file's end
  pub cut : found most (two most 1 ++ list1 most 4 ++ (0 ∷ 0 ∷ 0 ∷ [])) ≡ Err Outside
  pub after : found_in (head most 8) List1 ≡ Err Outside
  -- the next directory; a next offset outside is refused only where it is followed
  pub chained : found most (dir0 most 14 ++ dir1 most (list1 most 2) 0) ≡ At 24 2
  pub unfollowed : found most (dir1 most (list1 most 2) 99) ≡ At 18 2
  pub followed : found_in (head most 8 ++ dir1 most (list1 most 2) 99) List2 ≡ Err Outside
  -- at an odd offset
  pub odd : found_in (head most 9 ++ (0 ∷ []) ++ dir1 most (list1 most 2) 0) List1 ≡ At 19 2
  -- a directory that is its own next one
  pub loop : found most (dir0 most 8) ≡ Err TooMany

pub record Subs (most : Bool) : Type 0 where
  pub one : found most (dir1 most (sub most 1 26) 0 ++ dir1 most (list1 most 2) 0) ≡ At 36 2
  -- type 13 as well as 4, and no other
  pub ifd : found most (dir1 most (entry most 330 13 1 26) 0 ++ dir1 most (list1 most 2) 0) ≡ At 36 2
  pub short : found most (dir1 most (entry most 330 3 1 26) 0 ++ dir1 most (list1 most 2) 0) ≡ Err Missing
  pub bytes : found most (dir1 most (entry most 330 1 4 26) 0 ++ dir1 most (list1 most 2) 0) ≡ Err Missing
  pub undefined : found most (dir1 most (entry most 330 7 4 26) 0 ++ dir1 most (list1 most 2) 0) ≡ Err Missing
  -- a count of 0: there are none
  pub none : found most (dir1 most (sub most 0 26) 0 ++ dir1 most (list1 most 2) 0) ≡ Err Missing
  -- own entries come first, whatever stands before them
  pub own_first : found most (dir2 most (sub most 1 38) (list1 most 3) 0 ++ dir1 most (list1 most 2) 0) ≡ At 30 3
  pub outside : found most (dir2 most (sub most 9 99) (list1 most 3) 0) ≡ At 30 3
  -- then the SubIFDs, before the next directory: list 1 of two bytes in the SubIFD, of three in the next
  pub before-next :
      found most (dir1 most (sub most 1 44) 26 ++ dir1 most (list1 most 3) 0 ++ dir1 most (list1 most 2) 0) ≡ At 54 2
  -- and behind them the next directory, whose SubIFDs are gone to as well
  pub then_next : found most (dir1 most (sub most 1 26) 32 ++ dir0 most 0 ++ dir1 most (list1 most 2) 0) ≡ At 42 2
  pub of-next : found most (dir0 most 14 ++ dir1 most (sub most 1 32) 0 ++ dir1 most (list1 most 2) 0) ≡ At 42 2
  -- several, in order, from where they stand; offset 0 is passed over
  pub array :
      found most
      (dir1 most (sub most 3 26) 0 ++ fours most (0 ∷ 38 ∷ 44 ∷ []) ++ dir0 most 0 ++ dir1 most (list1 most 2) 0)
      ≡ At 54 2
  -- the first of them is gone to before the second is looked at
  pub in-turn :
      found most (dir1 most (sub most 2 44) 0 ++ dir1 most (list1 most 2) 0 ++ fours most (26 ∷ 99999 ∷ [])) ≡ At 36 2
  -- two entries, in order
  pub both :
      found most (dir2 most (sub most 1 38) (sub most 1 44) 0 ++ dir0 most 0 ++ dir1 most (list1 most 2) 0) ≡ At 54 2
  -- the first of them too
  pub first_found :
      found most (dir2 most (sub most 1 38) (sub most 9 99) 0 ++ dir1 most (list1 most 2) 0) ≡ At 48 2
  pub first-outside :
      found most (dir2 most (sub most 9 99) (sub most 1 38) 0 ++ dir1 most (list1 most 2) 0) ≡ Err Outside
  -- offsets partly outside: at once, before the first SubIFD
  pub partly : found most (dir1 most (sub most 2 44) 0 ++ dir1 most (list1 most 2) 0 ++ four most 26) ≡ Err Outside
  -- four times the count does not wrap
  pub many : found most (dir1 most (sub most 1073741824 0) 0) ≡ Err Outside
  -- neither a SubIFD's chain nor its own SubIFDs are followed, and its next offset may lie anywhere
  pub no-chain : found most (dir1 most (sub most 1 26) 0 ++ dir0 most 32 ++ dir1 most (list1 most 2) 0) ≡ Err Missing
  pub no_deeper :
      found most (dir1 most (sub most 1 26) 0 ++ dir1 most (sub most 1 44) 99 ++ dir1 most (list1 most 2) 0) ≡ Err Missing
  -- a SubIFD that is not whole
  pub cut : found most (dir1 most (sub most 1 26) 0) ≡ Err Outside

-- a first directory at 8 whose n SubIFDs are the one at 26 again and again, and one more at an offset of its own, and
-- its next offset
abbrev again : (n last next : ℕ) → List ℕ
again n last next =
    head true 8 ++ dir1 true (sub true (n + 1) 32) next ++ dir0 true 0 ++ fours true (replicate n 26) ++ four true last

-- a first directory at 8 whose first entry has 63 SubIFDs, the one at 38 again and again, and a second entry
abbrev twice : List ℕ → List ℕ
twice e = head true 8 ++ dir2 true (sub true 63 44) e 0 ++ dir0 true 0 ++ fours true (replicate 63 38)

-- n directories of no entries, each the next one of the one before, from `at` on
abbrev links : (n at : ℕ) → List ℕ
links zero at = dir0 true 0
links (suc n) at = dir0 true (at + 6) ++ links n (at + 6)

pub record Limit : Type 0 where
  -- a chain of 64, and of 65
  pub chain64 : found_in (head true 8 ++ links 63 8) List1 ≡ Err Missing
  pub chain65 : found_in (head true 8 ++ links 64 8) List1 ≡ Err TooMany
  -- every visit counts, also to one directory again: 64 with the first, and none asked for
  pub full : found_in (again 62 26 0) List1 ≡ Err Missing
  -- SubIFDs count where the chain goes on, and those of one entry where the next is looked at
  pub chain-full : found_in (again 61 26 26) List1 ≡ Err Missing
  pub chain-over : found_in (again 62 26 26) List1 ≡ Err TooMany
  pub entry-over : found_in (twice (sub true 1 38)) List1 ≡ Err TooMany
  -- offsets that lie outside are met before the 65th directory is gone to
  pub entry-outside : found_in (twice (sub true 9 99999)) List1 ≡ Err Outside
  -- a 65th, also where it would not be whole; offset 0 does not count, neither before the 64th nor behind it
  pub over : found_in (again 63 26 0) List1 ≡ Err TooMany
  pub unseen : found_in (again 63 99999 0) List1 ≡ Err TooMany
  pub uncounted : found_in (again 62 0 26) List1 ≡ Err Missing
  pub zero : found_in (again 63 0 0) List1 ≡ Err Missing
  -- the 64th, where it is not whole
  pub last : found_in (again 62 99999 0) List1 ≡ Err Outside

pub record Numbers : Type 0 where
  pub found : number_of (At 5 4) ≡ 0
  pub tiff : number_of (Err NotTiff) ≡ 30
  pub outside : number_of (Err Outside) ≡ 31
  pub many : number_of (Err TooMany) ≡ 32
  pub missing : number_of (Err Missing) ≡ 33
  pub part : part_of (1 ∷ 2 ∷ 3 ∷ 4 ∷ []) 1 2 ≡ 2 ∷ 3 ∷ []

pub header : Header
unfolding big little whole value_at inside is_list is_subs list_at own_from visit sub_of subs_from subs_at any_subs all_subs
    directory chain headed found_in
header =
    record {
      empty = refl;
      short = refl;
      other = refl;
      turned = refl;
      turned-back = refl;
      mixed = refl;
      none = refl;
      low = refl;
    }

own : (most : Bool) → Own most
unfolding big little whole value_at inside is_list is_subs list_at own_from visit sub_of subs_from subs_at any_subs all_subs
    directory chain headed found_in
own true =
    record {
      inline = refl;
      asked2 = refl;
      asked3 = refl;
      other = refl;
      five = refl;
      past = refl;
      nothing = refl;
      first = refl;
      far = refl;
      bytes = refl;
      ascii = refl;
      long = refl;
      ifd = refl;
      decides = refl;
      unread = refl;
    }
own false =
    record {
      inline = refl;
      asked2 = refl;
      asked3 = refl;
      other = refl;
      five = refl;
      past = refl;
      nothing = refl;
      first = refl;
      far = refl;
      bytes = refl;
      ascii = refl;
      long = refl;
      ifd = refl;
      decides = refl;
      unread = refl;
    }

directories : (most : Bool) → Directories most
unfolding big little whole value_at inside is_list is_subs list_at own_from visit sub_of subs_from subs_at any_subs all_subs
    directory chain headed found_in
directories true =
    record { cut = refl; after = refl; chained = refl; unfollowed = refl; followed = refl; odd = refl; loop = refl }
directories false =
    record { cut = refl; after = refl; chained = refl; unfollowed = refl; followed = refl; odd = refl; loop = refl }

subs : (most : Bool) → Subs most
unfolding big little whole value_at inside is_list is_subs list_at own_from visit sub_of subs_from subs_at any_subs all_subs
    directory chain headed found_in
subs true =
    record {
      one = refl;
      ifd = refl;
      short = refl;
      bytes = refl;
      undefined = refl;
      none = refl;
      own_first = refl;
      outside = refl;
      before-next = refl;
      then_next = refl;
      of-next = refl;
      array = refl;
      in-turn = refl;
      both = refl;
      first_found = refl;
      first-outside = refl;
      partly = refl;
      many = refl;
      no-chain = refl;
      no_deeper = refl;
      cut = refl;
    }
subs false =
    record {
      one = refl;
      ifd = refl;
      short = refl;
      bytes = refl;
      undefined = refl;
      none = refl;
      own_first = refl;
      outside = refl;
      before-next = refl;
      then_next = refl;
      of-next = refl;
      array = refl;
      in-turn = refl;
      both = refl;
      first_found = refl;
      first-outside = refl;
      partly = refl;
      many = refl;
      no-chain = refl;
      no_deeper = refl;
      cut = refl;
    }

limit : Limit
unfolding big little whole value_at inside is_list is_subs list_at own_from visit sub_of subs_from subs_at any_subs all_subs
    directory chain headed found_in
limit =
    record {
      chain64 = refl;
      chain65 = refl;
      full = refl;
      chain-full = refl;
      chain-over = refl;
      entry-over = refl;
      entry-outside = refl;
      over = refl;
      unseen = refl;
      uncounted = refl;
      zero = refl;
      last = refl;
    }

numbers : Numbers
numbers = record { found = refl; tiff = refl; outside = refl; many = refl; missing = refl; part = refl }
