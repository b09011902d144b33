-- Keys that come in order are those of entries in order. Assumes nothing.
use Rattle.std.proofs.Common.{◌≡◌, true, List, [], ◌∷◌, map, Some, None, All, ap, arith}
use Rattle.std.proofs.lemmas.List.Elements.{All-nil, All-cons, All-head, All-weaker}
use Rattle.std.specs.declared.cmp.Ordering.{Ordering}
use Rattle.std.specs.declared.cmp.Ordering.TheVariants.{Less}
use Rattle.std.specs.Ordering.{is_lt}
use Rattle.order.specs.Laws.{Ordered}
use Rattle.order.proofs.Rises.{less_chain}
use Rattle.node.specs.Store.{first}
use Rattle.map.specs.Lookup.{InOrder}
use Rattle.audit.specs.Runs.{Chained}

lt_less : (o : Ordering) → is_lt o ≡ true → o ≡ Less
lt_less o e = grind arith

less_lt : (o : Ordering) → o ≡ Less → is_lt o ≡ true
less_lt o e = ap is_lt e

module _ {K V : Type 0} (compares : K → K → Ordering) where
  abbrev Lt : (K × V) → (K × V) → Type 0
  Lt x y = is_lt (compares (first x) (first y)) ≡ true

  chain_from : (e : K × V) (l : List (K × V)) → All (Lt e) l → InOrder compares l → Chained compares (Some (first e)) (map first l)
  chain_from e [] a s = tt
  chain_from e (x ∷ xs) a s = (lt_less (compares (first e) (first x)) (All-head (Lt e) x xs a), chain_from x xs s.0 s.1)

  pub ordered_chained : (l : List (K × V)) → InOrder compares l → Chained compares None (map first l)
  ordered_chained [] s = tt
  ordered_chained (x ∷ xs) s = (tt, chain_from x xs s.0 s.1)

  module _ (o : Ordered compares) where
    above_all : (e : K × V) (l : List (K × V)) → Chained compares (Some (first e)) (map first l) → All (Lt e) l
    above_all e [] c = All-nil (Lt e)
    above_all e (x ∷ xs) c =
        All-cons (Lt e) x xs (less_lt (compares (first e) (first x)) c.0)
        (All-weaker (Lt x) (Lt e) (λ y l. less_lt (compares (first e) (first y)) (less_chain o (first e) (first x) (first y) c.0 (lt_less (compares (first x) (first y)) l))) xs (above_all x xs c.1))

    sorted_from : (e : K × V) (l : List (K × V)) → Chained compares (Some (first e)) (map first l) → InOrder compares l
    sorted_from e [] c = tt
    sorted_from e (x ∷ xs) c = (above_all x xs c.1, sorted_from x xs c.1)

    pub chained_ordered : (l : List (K × V)) → Chained compares None (map first l) → InOrder compares l
    chained_ordered [] c = tt
    chained_ordered (x ∷ xs) c = (above_all x xs c.1, sorted_from x xs c.1)
