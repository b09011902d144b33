-- A list that a function was mapped over. Assumes nothing.
use Rattle.std.proofs.Common.{◌≡◌, ℕ, suc, ◌<◌, List, [], ◌∷◌, length, map, get_or, refl, ap₂, arith}

-- a list of what a function gives, item by item
pub map_is : {X Y : Type 0} (f : X → Y) (xs : List X) (ys : List Y) → length ys ≡ length xs → ((k : ℕ) (d : X) (e : Y) → k < length xs → get_or ys k e ≡ f (get_or xs k d)) → ys ≡ map f xs
map_is f [] [] l h = refl
map_is f [] (y ∷ ys) l h = absurd (omega arith)
map_is f (x ∷ xs) [] l h = absurd (omega arith)
map_is f (x ∷ xs) (y ∷ ys) l h = ap₂ (λ a as'. a ∷ as') (h 0 x y (omega arith)) (map_is f xs ys (omega arith) (λ k d e q. h (suc k) d e (omega arith)))
