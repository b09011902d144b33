-- The laws of insertion.
--   WayParts        the way of the index parts the entries: if they rise, what is below the query from what is not
--   InsertFormed    a formed tree stays formed
--   InsertFlat      the entries gain the new one, where the way parts them
--   InsertNumbers   the node numbers are the old ones, the fresh ones of the heights below the run of full nodes, and `top` if the root is in the run
--   InsertSorted    an entry that is in order with those below the query and with the others is put in order
--   InsertSize      how many nodes an insertion takes: one for each full node of the run, and one more if the root is in it
--   GrowAgrees      of the fresh numbers only those up to the tree's height are read
use Rattle.std.specs.Prelude.{◌≡◌, ℕ, suc, ◌+◌, ◌≤◌, Bool, true, false, cond, ◌∷◌, ◌++◌, All, nat_le}
use Rattle.node.specs.Shape.{Tree, flat, weigh, Formed}
use Rattle.node.specs.Sorted.{Rising, Sorted, Downward}
use Rattle.rules.specs.Rules.{grow, insert, low, high, run, upto}

abbrev pub WayParts : Type 0 → Type 0
WayParts E =
    (b : E → Bool) (h : ℕ) (t : Tree E) → Formed h t
    → (flat h t ≡ low b h t ++ high b h t)
    × (Rising b (flat h t) → All (λ x. b x ≡ true) (low b h t) × All (λ x. b x ≡ false) (high b h t))

abbrev pub InsertFormed : Type 0 → Type 0
InsertFormed E =
    (fresh : ℕ → ℕ) (top : ℕ) (b : E → Bool) (e : E) (h : ℕ) (t : Tree E) → Formed h t
    → Formed (insert fresh top b e h t).0 (insert fresh top b e h t).1

abbrev pub InsertFlat : Type 0 → Type 0
InsertFlat E =
    (fresh : ℕ → ℕ) (top : ℕ) (b : E → Bool) (e : E) (h : ℕ) (t : Tree E) → Formed h t
    → flat (insert fresh top b e h t).0 (insert fresh top b e h t).1 ≡ low b h t ++ e ∷ high b h t

abbrev pub InsertNumbers : Type 0 → Type 0
InsertNumbers E =
    (w : ℕ → ℕ) (fresh : ℕ → ℕ) (top : ℕ) (b : E → Bool) (e : E) (h : ℕ) (t : Tree E) → Formed h t
    → (weigh w (insert fresh top b e h t).0 (insert fresh top b e h t).1
    ≡ weigh w h t + (upto (λ l. w (fresh l)) (run b h t) + cond (nat_le (suc h) (run b h t)) (w top) 0))
    × (run b h t ≤ suc h)

abbrev pub InsertSorted : Type 0 → Type 0
InsertSorted E =
    (le : E → E → Bool) (fresh : ℕ → ℕ) (top : ℕ) (b : E → Bool) (e : E) (h : ℕ) (t : Tree E) → Formed h t
    → Downward le b → ((x : E) → b x ≡ true → le x e ≡ true) → ((x : E) → b x ≡ false → le e x ≡ true)
    → Sorted le (flat h t) → Sorted le (flat (insert fresh top b e h t).0 (insert fresh top b e h t).1)

abbrev pub InsertSize : Type 0 → Type 0
InsertSize E =
    (fresh : ℕ → ℕ) (top : ℕ) (b : E → Bool) (e : E) (h : ℕ) (t : Tree E) → Formed h t
    → weigh (λ _. 1) (insert fresh top b e h t).0 (insert fresh top b e h t).1
    ≡ weigh (λ _. 1) h t + (run b h t + cond (nat_le (suc h) (run b h t)) 1 0)

abbrev pub GrowAgrees : Type 0 → Type 0
GrowAgrees E =
    (fresh fresh' : ℕ → ℕ) (b : E → Bool) (e : E) (h : ℕ) (t : Tree E) → ((l : ℕ) → l ≤ h → fresh l ≡ fresh' l)
    → grow fresh b e h t ≡ grow fresh' b e h t
