-- Marks on nodes.
--   weight m x      1 where x was met, else 0
--   Unmet m x       x is one of the nodes, and was not met
--   with_mark m x   the marks with that of x
use Rattle.std.specs.Prelude.{◌≡◌, ℕ, true, false, cond, slice_index_or, slice_set}
use Rattle.audit.specs.declared.marks.Met.{Met}

abbrev pub weight : Met → ℕ → ℕ
weight m x = cond (slice_index_or m.nodes x false) 1 0

abbrev pub Unmet : Met → ℕ → Type 0
Unmet m x = slice_index_or m.nodes x true ≡ false

abbrev pub with_mark : Met → ℕ → Met
with_mark m x = record { nodes = slice_set m.nodes x true }
