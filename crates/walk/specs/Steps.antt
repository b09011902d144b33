-- A tree that is taken off entry by entry, from both ends. Where it lacks what was taken, each inner node still has one child more than entries.
--   other s           the other end
--   cons s x xs       xs with x at its end s
--   uncons s xs       what stands at the end s, and the rest
--   step s h t        the entry at the end s of a tree of height h, and the tree without it; nodes that hold nothing more are gone
--   Handed            what several steps handed out at the front and at the back, each in the order of the steps, and the tree that is left
--   steps ss h t      a step at each end of ss in turn; where nothing is left, a step does nothing
--   Fanned h t        each inner node has one child more than entries, and a leaf has none
use Rattle.std.specs.Prelude.{◌≡◌, ℕ, zero, suc, List, [], ◌∷◌, ◌++◌, length, Some, None, All, Option}
use Rattle.node.specs.declared.ends.Side.{Side}
use Rattle.node.specs.declared.ends.Side.TheVariants.{First, Last}
use Rattle.node.specs.Shape.{Tree, number, row, kids, mk}

abbrev pub other : Side → Side
other First = Last
other Last = First

abbrev pub cons : {X : Type 0} → Side → X → List X → List X
cons First x xs = x ∷ xs
cons Last x xs = xs ++ x ∷ []

-- of x and xs behind it, the last, and those before the last
abbrev pub last_of : {X : Type 0} → X → List X → X
last_of x [] = x
last_of x (y ∷ ys) = last_of y ys

abbrev pub front_of : {X : Type 0} → X → List X → List X
front_of x [] = []
front_of x (y ∷ ys) = x ∷ front_of y ys

abbrev pub uncons : {X : Type 0} → Side → List X → Option (X × List X)
uncons First [] = None
uncons First (x ∷ xs) = Some (x, xs)
uncons Last [] = None
uncons Last (x ∷ xs) = Some (last_of x xs, front_of x xs)

-- an entry of the node itself
abbrev pub of_row : {E : Type 0} → ℕ → List (Tree E) → Option (E × List E) → Option (E × Tree E)
of_row m ks None = None
of_row m ks (Some p) = Some (p.0, mk m p.1 ks)

-- an entry of the child at the end, or where that has none, of the node itself, and the child is gone
abbrev pub of_kid : {E : Type 0} → Side → ℕ → List E → List (Tree E) → Option (E × Tree E) → Option (E × Tree E)
of_kid s m es ks None = of_row m ks (uncons s es)
of_kid s m es ks (Some p) = Some (p.0, mk m es (cons s p.1 ks))

abbrev pub of_kids : {E : Type 0} → Side → (Tree E → Option (E × Tree E)) → ℕ → List E → Option (Tree E × List (Tree E)) → Option (E × Tree E)
of_kids s f m es None = of_row m [] (uncons s es)
of_kids s f m es (Some p) = of_kid s m es p.1 (f p.0)

unfoldable pub step : {E : Type 0} → Side → ℕ → Tree E → Option (E × Tree E)
step s zero t = of_row (number t) (kids t) (uncons s (row t))
step s (suc h) t = of_kids s (step s h) (number t) (row t) (uncons s (kids t))

pub record Handed (E : Type 0) : Type 0 where
  pub fronts : List E
  pub backs : List E
  pub left : Tree E

abbrev pub handed : {E : Type 0} → Side → E → Handed E → Handed E
handed First e w = record { fronts = e ∷ w.fronts; backs = w.backs; left = w.left }
handed Last e w = record { fronts = w.fronts; backs = e ∷ w.backs; left = w.left }

abbrev pub stepped : {E : Type 0} → Side → (Tree E → Handed E) → Tree E → Option (E × Tree E) → Handed E
stepped s f t None = f t
stepped s f t (Some p) = handed s p.0 (f p.1)

abbrev pub steps : {E : Type 0} → List Side → ℕ → Tree E → Handed E
steps [] h t = record { fronts = []; backs = []; left = t }
steps (s ∷ ss) h t = stepped s (steps ss h) t (step s h t)

unfoldable pub Fanned : {E : Type 0} → ℕ → Tree E → Type 0
Fanned zero t = length (kids t) ≡ 0
Fanned (suc h) t = (length (kids t) ≡ suc (length (row t))) × All (Fanned h) (kids t)
