-- The descent of a cut: what is not below the query goes over, level by level, to a spine of empty nodes.
--   Stops T m i made     the search in node m stops at index i, after so many comparisons
--   beneath place e      the key of e is below the query
--   Parted               the tables hold what stays of t, and the spine filled with the rest; nothing else that is out has changed
--   Cuts                 so it is where the tables hold t and the spine, with numbers that are out, each once; with the comparisons made
use Rattle.map.specs.Lookup.{keys_at}
use Rattle.std.specs.Prelude.{◌≡◌, ℕ, ◌+◌, ◌≤◌, Bool, Ok, Result}
use Rattle.std.specs.declared.cmp.Ordering.{Ordering}
use Rattle.std.specs.Ordering.{is_gt}
use Rattle.supply.specs.declared.faults.Fault.{Fault}
use Rattle.supply.specs.Stocks.{Stock}
use Rattle.order.specs.Found.{first_not_below, comparisons}
use Rattle.node.specs.Operations.{Lies}
use Rattle.node.specs.Shape.{Tree, number}
use Rattle.node.specs.Store.{Tables, Sized, Holds, SameLink, head_at, first}
use Rattle.node.specs.Laws.{occurs}
use Rattle.node.specs.Balance.{mark, Beside}
use Rattle.parts.specs.Rules.{cut_left, cut_right, spine, cuts}

pub record Stops {K V : Type 0} (place : K → Ordering) (T : Tables K V) (m i made : ℕ) : Type 0 where
  pub lies : Lies T m (head_at T m).len
  pub here : i ≡ first_not_below place (keys_at T m)
  pub few : i ≤ 11
  pub count : made ≡ comparisons place (keys_at T m)
  pub most : made ≤ 11

abbrev pub beneath : {K V : Type 0} → (K → Ordering) → K × V → Bool
beneath place e = is_gt (place (first e))

pub record Parted {K V : Type 0} (place : K → Ordering) (T T' : Tables K V) (S : Stock) (h : ℕ) (t : Tree (K × V)) (fresh : ℕ → ℕ) : Type 0 where
  pub left : Holds T' h (cut_left (beneath place) h t)
  pub right : Holds T' h (cut_right fresh (beneath place) h t)
  pub left_link : SameLink T T' (number t)
  pub right_link : SameLink T T' (number (spine {E = K × V} fresh h))
  pub beside : Beside T T' S (λ x. occurs x h t + occurs x h (spine {E = K × V} fresh h))

unfoldable pub Cuts : {K V : Type 0} → (K → Ordering) → Tables K V → Tables K V → ℕ → ℕ → ℕ → Result ℕ Fault → Type 0
Cuts {K} {V} place T T' h m n r =
    (S : Stock) (t : Tree (K × V)) (fresh : ℕ → ℕ) → Sized T → Holds T h t → Holds T h (spine fresh h) → number t ≡ m → number (spine {E = K × V} fresh h) ≡ n
    → ((x : ℕ) → occurs x h t + occurs x h (spine {E = K × V} fresh h) ≤ mark S x)
    → (r ≡ Ok (cuts (λ e. place (first e)) h t)) × Parted place T T' S h t fresh
