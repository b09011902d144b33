-- The laws of an order of keys, and of the placing of queries among them. Assumes nothing.
--     Ordered compares            an order that is total up to sameness: two keys that compare `Equal` need not be equal values
--     Placed compares places      the places of a query go with the order
--     Pointed compares places     any two keys to which a query compares as the same compare as the same with one another
-- `compares a b` is `Less` where the key `a` is below the key `b`; `places q k` is `Less` where the query `q` is below the key `k`.
use Rattle.std.specs.Prelude.{◌≡◌, true}
use Rattle.std.specs.declared.cmp.Ordering.TheVariants.{Less, Equal, Greater}
use Rattle.std.specs.declared.cmp.Ordering.{Ordering}
use Rattle.std.specs.Ordering.{is_le, ordering_reverse}

-- compared with itself a key answers `Equal`; exchanging two keys turns the answer round; a at most b, and b at most c, make a at most c
pub record Ordered {K : Type 0} (compares : K → K → Ordering) : Type 0 where
  pub itself : (a : K) → compares a a ≡ Equal
  pub mirrors : (a b : K) → compares b a ≡ ordering_reverse (compares a b)
  pub chains : (a b c : K) → is_le (compares a b) ≡ true → is_le (compares b c) ≡ true → is_le (compares a c) ≡ true

-- going up from `a` to `b`, a query that was below stays below; going down from `b` to `a`, one that was above stays above
pub record Placed {K Q : Type 0} (compares : K → K → Ordering) (places : Q → K → Ordering) : Type 0 where
  pub under : (q : Q) (a b : K) → is_le (compares a b) ≡ true → places q a ≡ Less → places q b ≡ Less
  pub over : (q : Q) (a b : K) → is_le (compares a b) ≡ true → places q b ≡ Greater → places q a ≡ Greater

-- a query stands at one place of the order
pub record Pointed {K Q : Type 0} (compares : K → K → Ordering) (places : Q → K → Ordering) : Type 0 where
  pub single : (q : Q) (a b : K) → places q a ≡ Equal → places q b ≡ Equal → compares a b ≡ Equal
