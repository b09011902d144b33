-- The marks of lots. Assumes nothing.
--     used m            the bytes of the mark `m` that count: its cells up to its length, or all twelve where the length is more
--     padded bytes      up to twelve bytes, followed by zeros to make twelve
--     mark_of bytes     the mark that these bytes make
--     empty_mark        the mark of no bytes: its length and its cells are zero
--     Marked bytes r    up to twelve bytes made their mark, and more were refused by their number
use Rattle.std.specs.Prelude.{◌≡◌, ℕ, ◌-◌, ◌<◌, ◌≤◌, min, List, ◌++◌, length, take, replicate, Result, MatchResult}
use Rattle.order.specs.declared.mark.LotMark.{LotMark}
use Rattle.order.specs.declared.mark.TooLong.{TooLong}

abbrev pub used : LotMark → List ℕ
used m = take (min m.len 12) m.cells

abbrev pub padded : List ℕ → List ℕ
padded bytes = bytes ++ replicate (12 - length bytes) 0

abbrev pub mark_of : List ℕ → LotMark
mark_of bytes = record { len = length bytes; cells = padded bytes }

abbrev pub empty_mark : LotMark
empty_mark = record { len = 0; cells = replicate 12 0 }

pub record Fits (bytes : List ℕ) (m : LotMark) : Type 0 where
  pub short : length bytes ≤ 12
  pub made : m ≡ mark_of bytes
  pub reads : used m ≡ bytes

pub record Exceeds (bytes : List ℕ) (e : TooLong) : Type 0 where
  pub long : 12 < length bytes
  pub counts : e.len ≡ length bytes

abbrev pub Marked : List ℕ → Result LotMark TooLong → Type 0
Marked bytes r = MatchResult r (Fits bytes) (Exceeds bytes)
