-- Worked trees: keys put in one after the other, from an empty place on.
--   Book            the nodes taken so far, which are the numbers below that; the height; the tree
--   first k         after the first key, which takes one node, for the root
--   step k, sow ks  after one key more, and after several
--   rows h t        the rows of a tree of height h, each node before its children
--   joined ls       lists, one behind the other
--   shape           the nodes taken so far, and the rows
--   sixes n a       n rows of six, each seven above the one before it
--   full            the keys 1 to 88, put in by rising order
--   WorkedTrees     each line of the first list has the shape in that line of the second, as the Rust map has after the same insertions
use Rattle.std.specs.Prelude.{◌≡◌, ℕ, zero, suc, ◌+◌, List, [], ◌∷◌, ◌++◌, map, nat_lt}
use Rattle.node.specs.Cases.{count}
use Rattle.node.specs.Shape.{Tree, row, kids, mk}
use Rattle.rules.specs.Rules.{insert, run, need}

abbrev pub Book : Type 0
Book = ℕ × (ℕ × Tree ℕ)

abbrev pub first : ℕ → Book
first k = (1, (0, mk 0 (k ∷ []) []))

abbrev pub step : ℕ → Book → Book
step k (n, (h, t)) = (n + need (λ x. nat_lt x k) h t, insert (λ l. n + l) (n + run (λ x. nat_lt x k) h t) (λ x. nat_lt x k) k h t)

abbrev pub sow : List ℕ → Book → Book
sow [] s = s
sow (k ∷ ks) s = sow ks (step k s)

abbrev pub joined : {X : Type 0} → List (List X) → List X
joined [] = []
joined (l ∷ ls) = l ++ joined ls

unfoldable pub rows : {E : Type 0} → ℕ → Tree E → List (List E)
rows zero t = row t ∷ []
rows (suc h) t = row t ∷ joined (map (rows h) (kids t))

abbrev pub shape : Book → ℕ × List (List ℕ)
shape (n, (h, t)) = (n, rows h t)

abbrev pub sixes : ℕ → ℕ → List (List ℕ)
sixes zero a = []
sixes (suc n) a = count 6 a 1 ∷ sixes n (a + 7)

-- the last leaf and the root are full (which number a node has does not show in the shape)
abbrev pub full : Book
full = (13, (1, mk 12 (count 11 7 7) (map (λ es. mk 0 es []) (sixes 11 1) ++ mk 0 (count 11 78 1) [] ∷ [])))

abbrev pub WorkedTrees : Type 0
WorkedTrees =
    ◌≡◌ {A = List (ℕ × List (List ℕ))}
    (shape (first 1)
    ∷ shape (sow (count 10 2 1) (first 1))
    ∷ shape (sow (count 11 2 1) (first 1))
    ∷ shape (sow (11 ∷ 10 ∷ 9 ∷ 8 ∷ 7 ∷ 6 ∷ 5 ∷ 4 ∷ 3 ∷ 2 ∷ 1 ∷ []) (first 12))
    ∷ shape (sow (count 10 4 2 ++ 13 ∷ []) (first 2))
    ∷ shape (sow (count 10 4 2 ++ 15 ∷ []) (first 2))
    ∷ shape (sow (count 18 2 1) (first 1))
    ∷ shape full
    ∷ shape (step 89 full)
    ∷ [])
    ((1, (1 ∷ []) ∷ [])
    ∷ (1, count 11 1 1 ∷ [])
    ∷ (3, (7 ∷ []) ∷ count 6 1 1 ∷ count 5 8 1 ∷ [])
    ∷ (3, (8 ∷ []) ∷ count 7 1 1 ∷ count 4 9 1 ∷ [])
    ∷ (3, (14 ∷ []) ∷ (2 ∷ 4 ∷ 6 ∷ 8 ∷ 10 ∷ 12 ∷ 13 ∷ []) ∷ count 4 16 2 ∷ [])
    ∷ (3, (14 ∷ []) ∷ count 6 2 2 ∷ (15 ∷ 16 ∷ 18 ∷ 20 ∷ 22 ∷ []) ∷ [])
    ∷ (4, (7 ∷ 14 ∷ []) ∷ count 6 1 1 ∷ count 6 8 1 ∷ count 5 15 1 ∷ [])
    ∷ (13, count 11 7 7 ∷ (sixes 11 1 ++ count 11 78 1 ∷ []))
    ∷ (16, (49 ∷ []) ∷ count 6 7 7 ∷ (sixes 7 1 ++ count 5 56 7 ∷ (sixes 5 50 ++ count 5 85 1 ∷ [])))
    ∷ [])
