-- The laws of a cut. Only the order half of a query is used: the test b.
--   CutFormed     both parts are formed
--   CutFlat       their entries are those left and right of the way
--   CutParts      so together they are those before; and if these rise, each left one is below the query, and none right
--   CutSorted     sorted entries stay sorted in both parts
--   CutNumbers    the node numbers of the parts are old ones, and a fresh one for each height, each at most as often as there
--   CutBound      the comparisons are at most eleven for each level
use Rattle.std.specs.Prelude.{◌≡◌, ℕ, suc, ◌+◌, ◌*◌, ◌≤◌, Bool, true, false, ◌++◌, All}
use Rattle.std.specs.declared.cmp.Ordering.{Ordering}
use Rattle.node.specs.Shape.{Tree, flat, weigh, Formed}
use Rattle.node.specs.Sorted.{Rising, Sorted}
use Rattle.rules.specs.Rules.{low, high, upto}
use Rattle.parts.specs.Rules.{left_part, right_part, cuts}

abbrev pub CutFormed : Type 0 → Type 0
CutFormed E =
    (fresh : ℕ → ℕ) (b : E → Bool) (h : ℕ) (t : Tree E) → Formed h t
    → Formed (left_part b h t).0 (left_part b h t).1 × Formed (right_part fresh b h t).0 (right_part fresh b h t).1

abbrev pub CutFlat : Type 0 → Type 0
CutFlat E =
    (fresh : ℕ → ℕ) (b : E → Bool) (h : ℕ) (t : Tree E) → Formed h t
    → (flat (left_part b h t).0 (left_part b h t).1 ≡ low b h t)
    × (flat (right_part fresh b h t).0 (right_part fresh b h t).1 ≡ high b h t)

abbrev pub CutParts : Type 0 → Type 0
CutParts E =
    (fresh : ℕ → ℕ) (b : E → Bool) (h : ℕ) (t : Tree E) → Formed h t
    → (flat (left_part b h t).0 (left_part b h t).1 ++ flat (right_part fresh b h t).0 (right_part fresh b h t).1 ≡ flat h t)
    × (Rising b (flat h t)
    → All (λ x. b x ≡ true) (flat (left_part b h t).0 (left_part b h t).1)
    × All (λ x. b x ≡ false) (flat (right_part fresh b h t).0 (right_part fresh b h t).1))

abbrev pub CutSorted : Type 0 → Type 0
CutSorted E =
    (le : E → E → Bool) (fresh : ℕ → ℕ) (b : E → Bool) (h : ℕ) (t : Tree E) → Formed h t → Sorted le (flat h t)
    → Sorted le (flat (left_part b h t).0 (left_part b h t).1) × Sorted le (flat (right_part fresh b h t).0 (right_part fresh b h t).1)

abbrev pub CutNumbers : Type 0 → Type 0
CutNumbers E =
    (w : ℕ → ℕ) (fresh : ℕ → ℕ) (b : E → Bool) (h : ℕ) (t : Tree E) → Formed h t
    → weigh w (left_part b h t).0 (left_part b h t).1 + weigh w (right_part fresh b h t).0 (right_part fresh b h t).1
    ≤ weigh w h t + upto (λ l. w (fresh l)) (suc h)

abbrev pub CutBound : Type 0 → Type 0
CutBound E = (place : E → Ordering) (h : ℕ) (t : Tree E) → Formed h t → cuts place h t ≤ 11 * (h + 1)
