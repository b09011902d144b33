-- Nodes that are left behind go back to the supply.
--   Leaves S S' H n m r   node m, its parent and so on, n nodes, are given back; there is an answer wherever these lie in the table and are out
--   Clears S S' H m r     node m and all nodes above it are given back; nothing is done where m is no node
--   under x H h m         how often x numbers a node under m, which is of height h, or m itself
--   GivesBack S S' H h m r   node m and all nodes under it are given back; there is an answer wherever these lie in the table and are out
use Rattle.std.specs.Prelude.{◌≡◌, ℕ, zero, suc, ◌+◌, ◌<◌, ◌≤◌, List, length, IfOk, Ok, All, Result}
use Rattle.supply.specs.declared.faults.Fault.{Fault}
use Rattle.supply.specs.Stocks.{Stock}
use Rattle.node.specs.declared.head.Head.{Head}
use Rattle.node.specs.Balance.{mark, Balanced}
use Rattle.node.specs.Counts.{fan, Reached}
use Rattle.node.specs.Laws.{same}
use Rattle.node.specs.Shape.{total}
use Rattle.node.specs.Store.{times}
use Rattle.node.specs.Breaches.{Breached}
use Rattle.walk.specs.Climbs.{ups, Tops}

pub record Leaves (S S' : Stock) (H : List Head) (n m : ℕ) (r : Result (Unit {0}) Fault) : Type 0 where
  pub fault : Breached r
  pub given : IfOk r (λ _. Balanced S S' (λ x. times x (ups H n m)) (λ _. 0))
  pub whole : All (λ x. x < length H) (ups H n m) → ((x : ℕ) → times x (ups H n m) ≤ mark S x) → r ≡ Ok tt

pub record Clears (S S' : Stock) (H : List Head) (m : ℕ) (r : Result (Unit {0}) Fault) : Type 0 where
  pub fault : Breached r
  pub none : m ≡ 65535 → (r ≡ Ok tt) × (S' ≡ S)
  pub whole : (n : ℕ) → n ≤ 5 → m < 65535 → Tops H n m → All (λ x. x < length H) (ups H (suc n) m) → ((x : ℕ) → times x (ups H (suc n) m) ≤ mark S x)
      → (r ≡ Ok tt) × Balanced S S' (λ x. times x (ups H (suc n) m)) (λ _. 0)

unfoldable pub under : ℕ → List Head → ℕ → ℕ → ℕ
under x H zero m = same x m
under x H (suc h) m = same x m + total (under x H h) (fan H m)

pub record GivesBack (S S' : Stock) (H : List Head) (h m : ℕ) (r : Result (Unit {0}) Fault) : Type 0 where
  pub fault : Breached r
  pub given : IfOk r (λ _. Balanced S S' (λ x. under x H h m) (λ _. 0))
  pub whole : Reached H h m → ((x : ℕ) → under x H h m ≤ mark S x) → r ≡ Ok tt
