-- What becomes of nodes as trees: an entry put into one, full or not, and two neighbours with the entry between them.
--   Grown            one tree, or two with an entry between them
--   settle           an entry at index i of a node, with `new` for the child there; a full node is split
--   at_side s x y    of two beside each other, the one at side s
--   choice s a b     what is done with two neighbours of a and b entries, where the border is at side s
--   ChoiceFor        what that is in words, by the entries of the border one and of its neighbour
--   ChoiceAt         the same for the left and the right one, where the border is at side s
--   joint            the two neighbours after that
use Rattle.std.specs.Prelude.{◌≡◌, ℕ, suc, ◌+◌, ◌-◌, ◌<◌, ◌≤◌, cond, List, [], ◌∷◌, ◌++◌, length, take, drop, nat_le, nat_lt, slice_index_or}
use Rattle.node.specs.declared.choice.Choice.{Choice}
use Rattle.node.specs.declared.choice.Choice.TheVariants.{Merge, Move, Leave}
use Rattle.node.specs.declared.ends.Side.{Side}
use Rattle.node.specs.declared.ends.Side.TheVariants.{First, Last}
use Rattle.node.specs.Shape.{Tree, number, row, kids, mk}

pub data Grown (E : Type 0) : Type 0 where
  whole : Tree E → Grown E
  parted : Tree E → E → Tree E → Grown E

-- an entry put at index i
abbrev pub put : {E : Type 0} → ℕ → E → List E → List E
put i x es = take i es ++ x ∷ drop i es

-- child i replaced by others; a leaf has none, and gets none
abbrev pub swap : {E : Type 0} → ℕ → List (Tree E) → List (Tree E) → List (Tree E)
swap i [] ks = ks
swap i (l ∷ new) ks = take i ks ++ l ∷ (new ++ drop (suc i) ks)

-- A full node gives up its seventh entry. The six before it stay, and the four behind it go to the node `fresh`, on the right. An entry
-- whose index is up to 6 goes to the left one, any other to the right one, at i - 7.
abbrev pub settle : {E : Type 0} → ℕ → ℕ → ℕ → List E → List (Tree E) → E → List (Tree E) → Grown E
settle fresh m i es ks x new =
    cond (nat_lt (length es) 11)
    (whole (mk m (put i x es) (swap i new ks)))
    (cond (nat_le i 6)
    (parted (mk m (put i x (take 6 es)) (swap i new (take 7 ks))) (slice_index_or es 6 x) (mk fresh (drop 7 es) (drop 7 ks)))
    (parted (mk m (take 6 es) (take 7 ks)) (slice_index_or es 6 x) (mk fresh (put (i - 7) x (drop 7 es)) (swap (i - 7) new (drop 7 ks)))))

abbrev pub at_side : {X : Type 0} → Side → X → X → X
at_side First x y = x
at_side Last x y = y

-- what fits together is merged; else a border one with fewer than six is raised to six
abbrev pub choice : Side → ℕ → ℕ → Choice
choice s a b = cond (nat_le (a + b + 1) 11) Merge (cond (nat_lt (at_side s a b) 6) (Move (6 - at_side s a b)) Leave)

-- `own` entries in the border one, `other` in its neighbour: what fits into one node with the entry between merges; else a border one with
-- fewer than six gets just as many as make six, and its neighbour keeps five at least; else nothing is done
pub record ChoiceFor (own other : ℕ) (c : Choice) : Type 0 where
  pub merges : own + other + 1 ≤ 11 → c ≡ Merge
  pub moves : 11 < own + other + 1 → own < 6 → (n : ℕ) × (c ≡ Move n) × (own + n ≡ 6) × (n + 5 ≤ other)
  pub leaves : 11 < own + other + 1 → 6 ≤ own → c ≡ Leave

abbrev pub ChoiceAt : Side → ℕ → ℕ → Choice → Type 0
ChoiceAt First a b c = ChoiceFor a b c
ChoiceAt Last a b c = ChoiceFor b a c

-- two neighbours and the entry between them in the left one
abbrev pub merged : {E : Type 0} → Tree E → E → Tree E → Tree E
merged l e r = mk (number l) (row l ++ e ∷ row r) (kids l ++ kids r)

-- n entries over to the border one, through the entry between, with their children
abbrev pub moved : {E : Type 0} → Side → ℕ → Tree E → E → Tree E → Grown E
moved First n l e r =
    parted (mk (number l) (row l ++ e ∷ take (n - 1) (row r)) (kids l ++ take n (kids r))) (slice_index_or (row r) (n - 1) e) (mk (number r) (drop n (row r)) (drop n (kids r)))
moved Last n l e r =
    let keep : ℕ = length (row l) - n in
    parted (mk (number l) (take keep (row l)) (take (suc keep) (kids l))) (slice_index_or (row l) keep e) (mk (number r) (drop (suc keep) (row l) ++ e ∷ row r) (drop (suc keep) (kids l) ++ kids r))

abbrev pub chosen : {E : Type 0} → Side → Choice → Tree E → E → Tree E → Grown E
chosen s Merge l e r = whole (merged l e r)
chosen s (Move n) l e r = moved s n l e r
chosen s Leave l e r = parted l e r

abbrev pub joint : {E : Type 0} → Side → Tree E → E → Tree E → Grown E
joint s l e r = chosen s (choice s (length (row l)) (length (row r))) l e r
