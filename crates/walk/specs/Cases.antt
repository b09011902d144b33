-- A worked walk.
--   small        a root with the entry 7 above leaves with 1 to 6 and with 8 to 12
--   line ss      after steps at these ends: the entries handed out at the front and at the back, those left, and how many nodes are left
--   WorkedWalk   each line of the first list computes to that line of the second
use Rattle.std.specs.Prelude.{◌≡◌, ℕ, List, [], ◌∷◌, replicate}
use Rattle.node.specs.declared.ends.Side.{Side}
use Rattle.node.specs.declared.ends.Side.TheVariants.{First, Last}
use Rattle.node.specs.Cases.{count}
use Rattle.node.specs.Laws.{nodes}
use Rattle.node.specs.Shape.{Tree, mk, flat}
use Rattle.walk.specs.Steps.{Handed, steps}

abbrev pub small : Tree ℕ
small = mk 2 (7 ∷ []) (mk 0 (count 6 1 1) [] ∷ mk 1 (count 5 8 1) [] ∷ [])

abbrev pub line : List Side → List ℕ × (List ℕ × (List ℕ × ℕ))
line ss = let w : Handed ℕ = steps ss 1 small in (w.fronts, (w.backs, (flat 1 w.left, nodes 1 w.left)))

abbrev pub WorkedWalk : Type 0
WorkedWalk =
    ◌≡◌ {A = List (List ℕ × (List ℕ × (List ℕ × ℕ)))}
    (line []
    ∷ line (replicate 6 First)
    ∷ line (replicate 7 First)
    ∷ line (replicate 13 First)
    ∷ line (replicate 5 Last)
    ∷ line (replicate 6 Last)
    ∷ line (replicate 7 Last)
    ∷ line (First ∷ Last ∷ First ∷ Last ∷ Last ∷ Last ∷ Last ∷ Last ∷ Last ∷ [])
    ∷ [])
    (([], ([], (count 12 1 1, 3)))
    ∷ (count 6 1 1, ([], (count 6 7 1, 3)))
    ∷ (count 7 1 1, ([], (count 5 8 1, 2)))
    ∷ (count 12 1 1, ([], ([], 2)))
    ∷ ([], (12 ∷ 11 ∷ 10 ∷ 9 ∷ 8 ∷ [], (count 7 1 1, 3)))
    ∷ ([], (12 ∷ 11 ∷ 10 ∷ 9 ∷ 8 ∷ 7 ∷ [], (count 6 1 1, 2)))
    ∷ ([], (12 ∷ 11 ∷ 10 ∷ 9 ∷ 8 ∷ 7 ∷ 6 ∷ [], (count 5 1 1, 2)))
    ∷ (1 ∷ 2 ∷ [], (12 ∷ 11 ∷ 10 ∷ 9 ∷ 8 ∷ 7 ∷ 6 ∷ [], (3 ∷ 4 ∷ 5 ∷ [], 2)))
    ∷ [])
