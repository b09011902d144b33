-- The top of a tree in the tables.
--   LevelsStand    a new root leaf holds nothing; a root put above another has it for its only child; and nothing else has changed
use Rattle.std.specs.Prelude.{ℕ, ◌<◌, List, [], ◌∷◌, length, ◌≢◌}
use Rattle.node.specs.declared.head.Head.{Head}
use Rattle.node.specs.Store.{tables, Node, Linked, Changed, head_in}
use Rattle.node.specs.Balance.{Rooted}
use Rattle.node.specs.Levels.{new_leaf, push_level}

pub record LevelsStand (K V : Type 0) : Type 0 where
  pub leaf : (H : List Head) (ks : List K) (vs : List V) (m : ℕ) → m < length H
      → Node (tables (new_leaf H m) ks vs) m [] [] × Rooted (tables (new_leaf H m) ks vs) m × Changed (tables H ks vs) (tables (new_leaf H m) ks vs) (m ∷ []) (m ∷ [])
  pub push : (H : List Head) (ks : List K) (vs : List V) (m c : ℕ) → m < length H → c < length H → (m ≢ c) → 0 < length (head_in H m).edges
      → Node (tables (push_level H c m) ks vs) m [] (c ∷ []) × Rooted (tables (push_level H c m) ks vs) m × Linked (tables (push_level H c m) ks vs) m 0 (c ∷ [])
      × Changed (tables H ks vs) (tables (push_level H c m) ks vs) (m ∷ []) (m ∷ c ∷ [])
