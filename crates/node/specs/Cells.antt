-- Stretches of a table.
--   span xs a n      the n cells from a on
--   Put xs xs' b ws  the cells from b on are now ws, and no other cell has changed
--   Run f xs a es    from a on stands what f reads of each of es in turn
use Rattle.std.specs.Prelude.{◌≡◌, ℕ, ◌+◌, ◌≤◌, List, map, length, take, drop}

abbrev pub span : {X : Type 0} → List X → ℕ → ℕ → List X
span xs a n = take n (drop a xs)

pub record Put {X : Type 0} (xs xs' : List X) (b : ℕ) (ws : List X) : Type 0 where
  pub size : length xs' ≡ length xs
  pub here : span xs' b (length ws) ≡ ws
  pub before : (a n : ℕ) → a + n ≤ b → span xs' a n ≡ span xs a n
  pub behind : (a n : ℕ) → b + length ws ≤ a → span xs' a n ≡ span xs a n

abbrev pub Run : {X E : Type 0} → (E → X) → List X → ℕ → List E → Type 0
Run f xs a es = span xs a (length es) ≡ map f es
