-- Worked cuts, over numbers as entries. A tree is shown by the number of its nodes and by its rows, each node before its children.
--   shown, sized   a tree with its height, so shown; and only the lengths of its rows
--   twelve      the keys 1 to 12, put in by rising order
--   cut_at q     the comparisons of a cut at q, and its two parts
--   mended s    a tree whose border is repaired at side s
--   bare s      a border child with nothing in it, below a root of two entries; each other node below the root has four
--   WorkedCuts   each line of the first list computes to that line of the second
use Rattle.std.specs.Prelude.{◌≡◌, ℕ, suc, ◌+◌, List, [], ◌∷◌, map, length, nat_lt}
use Rattle.node.specs.declared.ends.Side.{Side}
use Rattle.node.specs.declared.ends.Side.TheVariants.{First, Last}
use Rattle.node.specs.Shape.{Tree, mk, weigh}
use Rattle.node.specs.Cases.{count, leaf}
use Rattle.rules.specs.Cases.{sow, first, rows}
use Rattle.parts.specs.Rules.{left_part, right_part, repair, cuts}
use Rattle.std.specs.Ordering.{nat_cmp}

abbrev pub Line : Type 0
Line = ℕ × List (List ℕ)

abbrev pub shown : ℕ × Tree ℕ → Line
shown p = (weigh (λ _. 1) p.0 p.1, rows p.0 p.1)

abbrev pub sized : ℕ × Tree ℕ → Line
sized p = (weigh (λ _. 1) p.0 p.1, map length (rows p.0 p.1) ∷ [])

abbrev pub twelve : ℕ × Tree ℕ
twelve = (sow (count 11 2 1) (first 1)).1

abbrev pub cut_at : ℕ → ℕ × Tree ℕ → List Line
cut_at q p =
    (cuts (nat_cmp q) p.0 p.1, [])
    ∷ shown (left_part (λ k. nat_lt k q) p.0 p.1)
    ∷ shown (right_part (λ l. 100 + l) (λ k. nat_lt k q) p.0 p.1)
    ∷ []

-- two leaves of a and b entries below a root
abbrev pub two : ℕ → ℕ → Tree ℕ
two a b = mk 1 (suc a ∷ []) (leaf (count a 1 1) ∷ leaf (count b (a + 2) 1) ∷ [])

abbrev pub mended : Side → Tree ℕ → List Line
mended s t = shown (repair s 1 t) ∷ []

abbrev pub four : List ℕ
four = 0 ∷ 0 ∷ 0 ∷ 0 ∷ []

abbrev pub lean : Tree ℕ
lean = mk 2 four (leaf four ∷ leaf four ∷ leaf four ∷ leaf four ∷ leaf four ∷ [])

abbrev pub bare : Side → Tree ℕ
bare First = mk 1 (0 ∷ 0 ∷ []) (mk 3 [] (leaf [] ∷ []) ∷ lean ∷ lean ∷ [])
bare Last = mk 1 (0 ∷ 0 ∷ []) (lean ∷ lean ∷ mk 3 [] (leaf [] ∷ []) ∷ [])

abbrev pub WorkedCuts : Type 0
WorkedCuts =
    ◌≡◌ {A = List (List Line)}
    ((shown twelve ∷ [])
    ∷ cut_at 7 twelve
    ∷ cut_at 13 twelve
    ∷ cut_at 1 twelve
    ∷ mended Last (two 11 0)
    ∷ mended Last (two 5 5)
    ∷ mended Last (two 5 6)
    ∷ mended First (two 0 11)
    ∷ mended First (two 5 5)
    ∷ mended First (two 6 5)
    ∷ (sized (2, bare Last) ∷ sized (repair Last 2 (bare Last)) ∷ [])
    ∷ (sized (2, bare First) ∷ sized (repair First 2 (bare First)) ∷ [])
    ∷ [])
    (((3, (7 ∷ []) ∷ count 6 1 1 ∷ count 5 8 1 ∷ []) ∷ [])
    ∷ ((7, []) ∷ (1, count 6 1 1 ∷ []) ∷ (1, count 6 7 1 ∷ []) ∷ [])
    ∷ ((6, []) ∷ (3, (6 ∷ []) ∷ count 5 1 1 ∷ count 6 7 1 ∷ []) ∷ (1, [] ∷ []) ∷ [])
    ∷ ((2, []) ∷ (1, [] ∷ []) ∷ (3, (7 ∷ []) ∷ count 6 1 1 ∷ count 5 8 1 ∷ []) ∷ [])
    ∷ ((3, (6 ∷ []) ∷ count 5 1 1 ∷ count 6 7 1 ∷ []) ∷ [])
    ∷ ((1, count 11 1 1 ∷ []) ∷ [])
    ∷ ((3, (6 ∷ []) ∷ count 5 1 1 ∷ count 6 7 1 ∷ []) ∷ [])
    ∷ ((3, (7 ∷ []) ∷ count 6 1 1 ∷ count 5 8 1 ∷ []) ∷ [])
    ∷ ((1, count 11 1 1 ∷ []) ∷ [])
    ∷ ((3, (7 ∷ []) ∷ count 6 1 1 ∷ count 5 8 1 ∷ []) ∷ [])
    ∷ ((15, (2 ∷ 4 ∷ 4 ∷ 4 ∷ 4 ∷ 4 ∷ 4 ∷ 4 ∷ 4 ∷ 4 ∷ 4 ∷ 4 ∷ 4 ∷ 0 ∷ 0 ∷ []) ∷ [])
    ∷ (13, (1 ∷ 4 ∷ 4 ∷ 4 ∷ 4 ∷ 4 ∷ 4 ∷ 4 ∷ 4 ∷ 4 ∷ 4 ∷ 4 ∷ 5 ∷ []) ∷ []) ∷ [])
    ∷ ((15, (2 ∷ 0 ∷ 0 ∷ 4 ∷ 4 ∷ 4 ∷ 4 ∷ 4 ∷ 4 ∷ 4 ∷ 4 ∷ 4 ∷ 4 ∷ 4 ∷ 4 ∷ []) ∷ [])
    ∷ (13, (1 ∷ 4 ∷ 5 ∷ 4 ∷ 4 ∷ 4 ∷ 4 ∷ 4 ∷ 4 ∷ 4 ∷ 4 ∷ 4 ∷ 4 ∷ []) ∷ []) ∷ [])
    ∷ [])
