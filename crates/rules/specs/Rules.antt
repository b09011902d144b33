-- Insertion as a rule on trees. An entry passes the test b where its key is below the new one; `fresh` gives the numbers taken, by height.
--   low, high   the entries left and right of the way that the search takes down the tree
--   grow        a tree with a new entry: one tree, or two with an entry between them
--   insert      the same with a new root above where there are two; with its height
--   run         how many nodes are full, from the leaf of the way upward
--   need        how many nodes an insertion takes
use Rattle.std.specs.Prelude.{ℕ, zero, suc, ◌+◌, Bool, cond, List, [], ◌∷◌, ◌++◌, map, length, take, drop, nat_le, nat_lt, slice_index_or}
use Rattle.node.specs.Shape.{Tree, number, row, kids, kid, mk, flat, before, after, weigh}
use Rattle.node.specs.Rules.{Grown, whole, parted, settle, swap}
use Rattle.node.specs.Sorted.{index}

-- the entries left and right of the way that the index takes
unfoldable pub low : {E : Type 0} → (E → Bool) → ℕ → Tree E → List E
low b zero t = take (index b (row t)) (row t)
low b (suc h) t =
    before (map (flat h) (take (index b (row t)) (kids t))) (take (index b (row t)) (row t)) ++ low b h (kid t (index b (row t)))

unfoldable pub high : {E : Type 0} → (E → Bool) → ℕ → Tree E → List E
high b zero t = drop (index b (row t)) (row t)
high b (suc h) t =
    high b h (kid t (index b (row t))) ++ after (map (flat h) (drop (suc (index b (row t))) (kids t))) (drop (index b (row t)) (row t))

abbrev pub weighs : {E : Type 0} → (ℕ → ℕ) → ℕ → Grown E → ℕ
weighs w h (whole t) = weigh w h t
weighs w h (parted l x r) = weigh w h l + weigh w h r

-- a node that gives up its entry at c: c entries stay left, under its number, and the rest goes right
abbrev pub part : {E : Type 0} → ℕ → ℕ → ℕ → List E → List (Tree E) → E → Grown E
part c fresh m es ks d = parted (mk m (take c es) (take (suc c) ks)) (slice_index_or es c d) (mk fresh (drop (suc c) es) (drop (suc c) ks))

-- a node whose child i has grown
abbrev pub rise : {E : Type 0} → ℕ → ℕ → ℕ → List E → List (Tree E) → Grown E → Grown E
rise fresh m i es ks (whole k) = whole (mk m es (swap i (k ∷ []) ks))
rise fresh m i es ks (parted l x r) = settle fresh m i es ks x (l ∷ r ∷ [])

-- fresh: the numbers taken, by height
unfoldable pub grow : {E : Type 0} → (ℕ → ℕ) → (E → Bool) → E → ℕ → Tree E → Grown E
grow fresh b e zero t = settle (fresh 0) (number t) (index b (row t)) (row t) [] e []
grow fresh b e (suc h) t =
    rise (fresh (suc h)) (number t) (index b (row t)) (row t) (kids t) (grow fresh b e h (kid t (index b (row t))))

-- height and root
abbrev pub planted : {E : Type 0} → ℕ → ℕ → Grown E → ℕ × Tree E
planted top h (whole t) = (h, t)
planted top h (parted l x r) = (suc h, mk top (x ∷ []) (l ∷ r ∷ []))

abbrev pub insert : {E : Type 0} → (ℕ → ℕ) → ℕ → (E → Bool) → E → ℕ → Tree E → ℕ × Tree E
insert fresh top b e h t = planted top h (grow fresh b e h t)

-- how many nodes are full, from the leaf of the way upward
unfoldable pub run : {E : Type 0} → (E → Bool) → ℕ → Tree E → ℕ
run b zero t = cond (nat_lt (length (row t)) 11) 0 1
run b (suc h) t =
    cond (nat_lt (run b h (kid t (index b (row t)))) (suc h)) (run b h (kid t (index b (row t)))) (cond (nat_lt (length (row t)) 11) (suc h) (suc (suc h)))

-- f 0 + .. + f (n - 1)
abbrev pub upto : (ℕ → ℕ) → ℕ → ℕ
upto f zero = 0
upto f (suc n) = upto f n + f n

-- one node for each full one of the run, and one more where the root is in it
abbrev pub need : {E : Type 0} → (E → Bool) → ℕ → Tree E → ℕ
need b h t = run b h t + cond (nat_le (suc h) (run b h t)) 1 0
