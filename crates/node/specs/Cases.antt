-- Worked cases of the rules on nodes, over numbers as entries.
--   count n a d     n numbers from a on, in steps of d
--   leaf es         a leaf with these entries
--   rows            what an operation makes, by the entries of each node: of one, or of two with the entry between them
--   two a b         leaves of a and b entries, with one number left out between them
--   WorkedCases     each line of the first list computes to that line of the second
use Rattle.std.specs.Prelude.{◌≡◌, ℕ, zero, suc, ◌+◌, List, [], ◌∷◌}
use Rattle.node.specs.declared.ends.Side.TheVariants.{First, Last}
use Rattle.node.specs.Shape.{Tree, row, mk}
use Rattle.node.specs.Rules.{Grown, whole, parted, settle, joint}

abbrev pub count : ℕ → ℕ → ℕ → List ℕ
count zero a d = []
count (suc n) a d = a ∷ count n (a + d) d

abbrev pub leaf : List ℕ → Tree ℕ
leaf es = mk 0 es []

abbrev pub rows : Grown ℕ → List (List ℕ)
rows (whole t) = row t ∷ []
rows (parted l x r) = row l ∷ (x ∷ []) ∷ row r ∷ []

abbrev pub two : ℕ → ℕ → Tree ℕ × Tree ℕ
two a b = (leaf (count a 1 1), leaf (count b (a + 2) 1))

abbrev pub WorkedCases : Type 0
WorkedCases =
    ◌≡◌ {A = List (List (List ℕ))}
    (rows (settle 1 0 10 (count 10 1 1) [] 11 [])
    ∷ rows (settle 1 0 11 (count 11 1 1) [] 12 [])
    ∷ rows (settle 1 0 6 (count 11 2 2) [] 13 [])
    ∷ rows (settle 1 0 7 (count 11 2 2) [] 15 [])
    ∷ rows (joint Last (two 11 0).0 12 (two 11 0).1)
    ∷ rows (joint Last (two 5 5).0 6 (two 5 5).1)
    ∷ rows (joint Last (two 5 6).0 6 (two 5 6).1)
    ∷ rows (joint First (two 0 11).0 1 (two 0 11).1)
    ∷ rows (joint First (two 5 5).0 6 (two 5 5).1)
    ∷ rows (joint First (two 6 5).0 7 (two 6 5).1)
    ∷ [])
    ((count 11 1 1 ∷ [])
    ∷ (count 6 1 1 ∷ (7 ∷ []) ∷ count 5 8 1 ∷ [])
    ∷ ((2 ∷ 4 ∷ 6 ∷ 8 ∷ 10 ∷ 12 ∷ 13 ∷ []) ∷ (14 ∷ []) ∷ count 4 16 2 ∷ [])
    ∷ (count 6 2 2 ∷ (14 ∷ []) ∷ (15 ∷ 16 ∷ 18 ∷ 20 ∷ 22 ∷ []) ∷ [])
    ∷ (count 5 1 1 ∷ (6 ∷ []) ∷ count 6 7 1 ∷ [])
    ∷ (count 11 1 1 ∷ [])
    ∷ (count 5 1 1 ∷ (6 ∷ []) ∷ count 6 7 1 ∷ [])
    ∷ (count 6 1 1 ∷ (7 ∷ []) ∷ count 5 8 1 ∷ [])
    ∷ (count 11 1 1 ∷ [])
    ∷ (count 6 1 1 ∷ (7 ∷ []) ∷ count 5 8 1 ∷ [])
    ∷ [])
