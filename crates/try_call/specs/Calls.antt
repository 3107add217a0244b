-- The calls that the comparison stores, one after the other. Words are big-endian; a list and samples have their length
-- before them.
use Rattle.std.specs.Prelude.{ℕ, ◌+◌, ◌-◌, ◌≤◌, Bool, true, false, ◌&&◌, List, Option, Some, None, ◌≡◌, leb, length}
use Rattle.std.specs.Float.{binary32}
use Rattle.std.specs.Float.Ieee.{of_bits}
use Rattle.num_words.specs.Words.{big}
use Rattle.dng.specs.declared.Window.{Window}
use Rattle.try_call.specs.declared.Span.{Span}
use Rattle.try_call.specs.declared.Call.{Call}

-- a part of the input s
pub record Inside (s : List ℕ) (p : Span) : Type 0 where
  pub order : p.start ≤ p.end
  pub held : p.end ≤ length s

abbrev pub pick : {X : Type 0} → Bool → X → Option X
pick true x = Some x
pick false x = None

-- the bytes behind the length word at a position, if s has them all
abbrev pub counted_in : List ℕ → ℕ → Option Span
counted_in s at = pick (leb (at + 4 + big 4 s at) (length s)) (record { start = at + 4; end = at + 4 + big 4 s at })

abbrev pub part_in : List ℕ → Option Span → Type 0
part_in s (Some p) = Inside s p
part_in s None = Unit

pub record Counted (s : List ℕ) (at : ℕ) (r : Option Span) : Type 0 where
  pub is : r ≡ counted_in s at
  pub inside : part_in s r

-- the window's eight words
abbrev pub window_at : List ℕ → ℕ → Window
window_at s at =
    record {
      width = big 4 s at;
      height = big 4 s (at + 4);
      planes = big 4 s (at + 8);
      stride = big 4 s (at + 12);
      x0 = big 4 s (at + 16);
      y0 = big 4 s (at + 20);
      full_width = big 4 s (at + 24);
      full_height = big 4 s (at + 28);
    }

-- The call that starts at a position: its form, its list, then words up to its samples.
abbrev pub fields_of : List ℕ → ℕ → Span → Span → Call
fields_of s at list samples =
    record {
      form = big 4 s at;
      list = list;
      window = window_at s list.end;
      period = big 4 s (list.end + 32);
      scale = of_bits binary32 (big 4 s (list.end + 36));
      y = big 4 s (list.end + 40);
      marks = big 4 s (list.end + 44);
      names = big 4 s (list.end + 48);
      samples = samples;
    }

-- one of the four forms, or 4 more for a preview; at most 64 entries of the scratch and of the skip buffer, and at most
-- 256 bytes of samples
unfoldable pub small_of : Call → Bool
small_of c =
    leb c.form 7 && leb c.marks 64 && leb c.names 64 && leb (c.samples.end - c.samples.start) 256

abbrev pub kept_of : Call → Option Call
kept_of c = pick (small_of c) c

abbrev pub with_samples : List ℕ → ℕ → Span → Option Span → Option Call
with_samples s at list (Some p) = kept_of (fields_of s at list p)
with_samples s at list None = None

abbrev pub with_list : List ℕ → ℕ → Option Span → Option Call
with_list s at (Some list) = with_samples s at list (counted_in s (list.end + 52))
with_list s at None = None

-- the call at a position
abbrev pub call_in : List ℕ → ℕ → Option Call
call_in s at = with_list s at (counted_in s (at + 4))

-- what may be done with a call that was found
pub record Sound (s : List ℕ) (c : Call) : Type 0 where
  pub list : Inside s c.list
  pub samples : Inside s c.samples
  pub few : c.samples.end - c.samples.start ≤ 256
  pub marks : c.marks ≤ 64
  pub names : c.names ≤ 64

abbrev pub sound_in : List ℕ → Option Call → Type 0
sound_in s (Some c) = Sound s c
sound_in s None = Unit

pub record Read (s : List ℕ) (at : ℕ) (r : Option Call) : Type 0 where
  pub is : r ≡ call_in s at
  pub sound : sound_in s r
