-- How many entries a list is read for: its count, and none where the count cannot be read or passes the limit; and the
-- reading of so many. Document 01, 'The list'; document 02, M-100.
use Rattle.std.specs.Prelude.{ℕ, cond, List, leb, eqb, length, Result, Ok, Err}
use Rattle.dng.specs.declared.Reason.TheVariants as Why
use Rattle.dng.specs.declared.Refusal.{Refusal}
use Rattle.dng.specs.List.{u32_at, refusal, counted, read_from, why_from, malformed, Reading}

-- 20 and 21 of the count, at 0
unfoldable pub entries_of : List ℕ → Result ℕ Refusal
entries_of s =
    cond (leb 4 (length s)) (cond (leb (u32_at s 0) 4096) (Ok (u32_at s 0)) (Err (refusal Why.TooMany 0)))
    (Err (refusal Why.Ends 0))

unfoldable pub count_of : List ℕ → ℕ
count_of s = cond (counted s) (u32_at s 0) 0

-- n entries after the count
unfoldable pub reading_from : List ℕ → ℕ → Reading
reading_from s n =
    cond (eqb (length (read_from s n (record { at = 4 }))) n) (Ok n)
    (Err (malformed (length (read_from s n (record { at = 4 }))) (why_from s n (record { at = 4 }))))
