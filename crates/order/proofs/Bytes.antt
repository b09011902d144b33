-- The bytes of a mark. Assumes nothing.
--     used_short      at most twelve bytes count
--     used_mark       the bytes that count in a mark that bytes make are these bytes
--     zeros_after     what a copy into twelve zeros leaves of them
use Rattle.std.proofs.Common.{◌≡◌, ℕ, ◌-◌, ◌≤◌, min, List, ◌++◌, length, drop, replicate, arith, length-take}
use Rattle.std.proofs.lemmas.List.{take_at, drop-replicate}
use Rattle.order.specs.declared.mark.LotMark.{LotMark}
use Rattle.order.specs.Marks.{used, padded, mark_of}

pub used_short : (m : LotMark) → length (used m) ≤ 12
used_short m = simp length-take (omega arith)

pub used_mark : (bytes : List ℕ) → length bytes ≤ 12 → used (mark_of bytes) ≡ bytes
used_mark bytes h = take_at bytes (replicate (12 - length bytes) 0) (min (length bytes) 12) (omega arith)

pub zeros_after : (bytes : List ℕ) (n : ℕ) → n ≡ length bytes → bytes ++ drop n (replicate 12 0) ≡ padded bytes
zeros_after bytes n e = rw (e, drop-replicate)
