-- One change of a tree after another. Assumes nothing.
use Rattle.std.proofs.Common.{ℕ, arith}
use Rattle.supply.specs.Stocks.{Stock}
use Rattle.node.specs.Shape.{Tree}
use Rattle.node.specs.Store.{Tables, Holds}
use Rattle.node.specs.Laws.{occurs}
use Rattle.node.specs.Balance.{Owns}
use Rattle.node.proofs.Balances.{balanced_none, balanced_both, beside_none, beside_both, beside_sized}
use Rattle.repair.specs.Repair.{Became}

module _ {K V : Type 0} where
  pub became_none : (T : Tables K V) (S : Stock) (h : ℕ) (t : Tree (K × V)) → Holds T h t → Became T T S S h t h t
  became_none T S h t w = record { holds = w; balanced = balanced_none S (λ x. occurs x h t); beside = beside_none T S (λ x. occurs x h t) }

  pub became_both : (T T' T'' : Tables K V) (S S' S'' : Stock) (h : ℕ) (t : Tree (K × V)) (k : ℕ) (u : Tree (K × V)) (j : ℕ) (v : Tree (K × V))
      → Became T T' S S' h t k u → Became T' T'' S' S'' k u j v → Became T T'' S S'' h t j v
  became_both T T' T'' S S' S'' h t k u j v a b = record {
    holds = b.holds;
    balanced = balanced_both S S' S'' (λ x. occurs x h t) (λ x. occurs x k u) (λ x. occurs x j v) a.balanced b.balanced;
    beside = beside_both T T' T'' S S' (λ x. occurs x h t) (λ x. occurs x k u) a.balanced a.beside b.beside;
  }

  -- what is there now is owned as well
  pub became_owns : (T T' : Tables K V) (S S' : Stock) (h : ℕ) (t : Tree (K × V)) (k : ℕ) (u : Tree (K × V)) → Owns T S h t → Became T T' S S' h t k u → Owns T' S' k u
  became_owns T T' S S' h t k u o b = record {
    sized = beside_sized T T' S (λ x. occurs x h t) b.beside o.sized;
    fits = omega (arith, b.balanced.size, b.beside.heads_len, o.fits);
    holds = b.holds;
    owned = λ x. omega (arith, b.balanced.marks x, o.owned x);
  }
