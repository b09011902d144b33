-- A cut as a rule on trees. An entry passes the test b where its key is below the query; `fresh` gives the numbers taken, by height.
--   cut_left      what stays of a tree: the entries left of the way that the search takes down the tree
--   spine        empty nodes, one for each height
--   cut_right     the rest: the spine, filled with the entries right of the way
--   cuts         the comparisons of a cut: those in each node of the way, down to the leaf, also where the key is found above it
--   beside       the index of the entry beside the border child
--   mend         a tree whose border children are merged with their neighbours or raised to six entries, from the top down
--   fix_top       a tree without the roots that have no entries; with its height
--   repair       the top fixed, the border mended, and the top fixed again
--   left_part, right_part    the two trees that a cut makes, with their heights
use Rattle.std.specs.Prelude.{ℕ, zero, suc, ◌+◌, ◌-◌, Bool, List, [], ◌∷◌, ◌++◌, length, take, drop}
use Rattle.std.specs.declared.cmp.Ordering.{Ordering}
use Rattle.order.specs.Found.{first_not_below, comparisons}
use Rattle.node.specs.declared.ends.Side.{Side}
use Rattle.node.specs.declared.ends.Side.TheVariants.{First, Last}
use Rattle.node.specs.Shape.{Tree, number, row, kids, kid, mk}
use Rattle.node.specs.Rules.{Grown, whole, parted, joint}
use Rattle.node.specs.Sorted.{index}

unfoldable pub cut_left : {E : Type 0} → (E → Bool) → ℕ → Tree E → Tree E
cut_left b zero t = mk (number t) (take (index b (row t)) (row t)) []
cut_left b (suc h) t =
    mk (number t) (take (index b (row t)) (row t)) (take (index b (row t)) (kids t) ++ cut_left b h (kid t (index b (row t))) ∷ [])

unfoldable pub spine : {E : Type 0} → (ℕ → ℕ) → ℕ → Tree E
spine fresh zero = mk (fresh 0) [] []
spine fresh (suc h) = mk (fresh (suc h)) [] (spine fresh h ∷ [])

unfoldable pub cut_right : {E : Type 0} → (ℕ → ℕ) → (E → Bool) → ℕ → Tree E → Tree E
cut_right fresh b zero t = mk (fresh 0) (drop (index b (row t)) (row t)) []
cut_right fresh b (suc h) t =
    mk (fresh (suc h)) (drop (index b (row t)) (row t)) (cut_right fresh b h (kid t (index b (row t))) ∷ drop (suc (index b (row t))) (kids t))

unfoldable pub cuts : {E : Type 0} → (E → Ordering) → ℕ → Tree E → ℕ
cuts place zero t = comparisons place (row t)
cuts place (suc h) t = comparisons place (row t) + cuts place h (kid t (first_not_below place (row t)))

-- of a node of n entries
abbrev pub beside : Side → ℕ → ℕ
beside First n = 0
beside Last n = n - 1

-- f at the border one
abbrev pub onward : {E : Type 0} → Side → (Tree E → Tree E) → Grown E → Grown E
onward First f (whole k) = whole (f k)
onward First f (parted l x r) = parted (f l) x r
onward Last f (whole k) = whole (f k)
onward Last f (parted l x r) = parted l x (f r)

-- a node of one tree, or two with their entry, and what stands left and right of it
abbrev pub fill : {E : Type 0} → ℕ → List E → List E → List (Tree E) → List (Tree E) → Grown E → Tree E
fill m es fs ks ls (whole k) = mk m (es ++ fs) (ks ++ k ∷ ls)
fill m es fs ks ls (parted l x r) = mk m (es ++ x ∷ fs) (ks ++ l ∷ r ∷ ls)

-- the two children at entry i joined, and f at the border one; the entries from i on are the last argument
abbrev pub mend_at : {E : Type 0} → Side → (Tree E → Tree E) → Tree E → ℕ → List E → Tree E
mend_at s f t i [] = t
mend_at s f t i (e ∷ fs) =
    fill (number t) (take i (row t)) fs (take i (kids t)) (drop (suc (suc i)) (kids t)) (onward s f (joint s (kid t i) e (kid t (suc i))))

unfoldable pub mend : {E : Type 0} → Side → ℕ → Tree E → Tree E
mend s zero t = t
mend s (suc h) t = mend_at s (mend s h) t (beside s (length (row t))) (drop (beside s (length (row t))) (row t))

-- x if the root has no entries, else y
abbrev pub lifted : {E X : Type 0} → List E → X → X → X
lifted [] x y = x
lifted (e ∷ es) x y = y

unfoldable pub fix_top : {E : Type 0} → ℕ → Tree E → ℕ × Tree E
fix_top zero t = (zero, t)
fix_top (suc h) t = lifted (row t) (fix_top h (kid t 0)) (suc h, t)

abbrev pub repair : {E : Type 0} → Side → ℕ → Tree E → ℕ × Tree E
repair s h t = fix_top (fix_top h t).0 (mend s (fix_top h t).0 (fix_top h t).1)

abbrev pub left_part : {E : Type 0} → (E → Bool) → ℕ → Tree E → ℕ × Tree E
left_part b h t = repair Last h (cut_left b h t)

abbrev pub right_part : {E : Type 0} → (ℕ → ℕ) → (E → Bool) → ℕ → Tree E → ℕ × Tree E
right_part fresh b h t = repair First h (cut_right fresh b h t)
