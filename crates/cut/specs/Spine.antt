-- The spine that a cut takes from the supply.
--   SpineTaken   the tables hold a spine of height h, a root at n, of numbers that were not out; nothing that was out has changed
--   TakesSpine   so it is where the heads are as many as the numbers, and h + 1 may be taken; keys and values stay as they are
use Rattle.std.specs.Prelude.{◌≡◌, ℕ, ◌+◌, ◌≤◌, List, length, Result, MatchResult}
use Rattle.supply.specs.declared.faults.Fault.{Fault}
use Rattle.supply.specs.Stocks.{Stock, size_of}
use Rattle.node.specs.declared.head.Head.{Head}
use Rattle.node.specs.Shape.{number}
use Rattle.node.specs.Store.{Tables, tables, Holds}
use Rattle.node.specs.Laws.{occurs}
use Rattle.node.specs.Balance.{Rooted, Balanced, Beside}
use Rattle.parts.specs.Rules.{spine}

-- fresh: the numbers of the spine, by height
pub record SpineTaken {K V : Type 0} (T T' : Tables K V) (S S' : Stock) (h n : ℕ) : Type 0 where
  pub fresh : ℕ → ℕ
  pub top : number (spine {E = K × V} fresh h) ≡ n
  pub holds : Holds T' h (spine fresh h)
  pub root : Rooted T' n
  pub balanced : Balanced S S' (λ _. 0) (λ x. occurs x h (spine {E = K × V} fresh h))
  pub beside : Beside T T' S (λ _. 0)
  pub allowance : S.allowance ≡ S'.allowance + (h + 1)

unfoldable pub TakesSpine : (K V : Type 0) → List Head → List Head → Stock → Stock → ℕ → Result ℕ Fault → Type 0
TakesSpine K V H H' S S' h r =
    (ks : List K) (vs : List V) → size_of S ≡ length H → h + 1 ≤ S.allowance → MatchResult r (SpineTaken (tables H ks vs) (tables H' ks vs) S S' h) (λ _. ⊥)
