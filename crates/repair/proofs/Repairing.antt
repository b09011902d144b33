-- The top, the border, and the top again. Assumes nothing.
use Rattle.node.specs.Kinds.{root_of}
use Rattle.std.proofs.Common.{◌≡◌, ℕ, zero, suc, ◌≤◌, List, [], ◌∷◌, IsErrAnd, Ok, Err, Result, refl, ap, ◌∙◌, subst, arith}
use Rattle.supply.specs.declared.faults.Fault.{Fault}
use Rattle.supply.specs.declared.faults.Fault.TheVariants.{Breach}
use Rattle.supply.specs.Stocks.{Stock}
use Rattle.node.specs.declared.ends.Side.{Side}
use Rattle.node.specs.declared.nodes.NodeRef.{NodeRef}
use Rattle.node.specs.Shape.{Tree, number, row, kid}
use Rattle.node.specs.Store.{Tables}
use Rattle.node.specs.Balance.{Owns, Rooted}
use Rattle.node.proofs.Tabled.{err_not_ok, ok_same}
use Rattle.parts.specs.Rules.{fix_top, lifted, mend, repair}
use Rattle.repair.specs.Repair.{Became, Topped, Mended, FixesTop, Mends}
use Rattle.repair.proofs.Becoming.{became_both, became_owns}
use Rattle.repair.proofs.Mending.{mend_number}

-- what the exit of a `?` returns for a breach
pub breach_is : {X : Type 0} (r : Result X Fault) (y : Fault) → IsErrAnd r (λ z. z ≡ y) → y ≡ Breach → r ≡ Err Breach
breach_is (Ok x) y e q = absurd e
breach_is (Err z) y e q = ap Err (e ∙ q)

-- a tree does not get higher
pub top_low : {E : Type 0} (h : ℕ) (t : Tree E) → (fix_top h t).0 ≤ h
unfolding fix_top
top_low zero t = omega arith
top_low {E} (suc h) t = go (row t) (top_low h (kid t 0))
  where
    go : (es : List E) → (fix_top h (kid t 0)).0 ≤ h → (lifted es (fix_top h (kid t 0)) (suc h, t)).0 ≤ suc h
    go [] l = omega arith
    go (e ∷ es) l = omega arith

module _ {K V : Type 0} (s : Side) (T T₁ : Tables K V) (S S₁ : Stock) (h m : ℕ) where
  tops : (res : Result NodeRef Fault) → FixesTop T T₁ S S₁ h m res → (t : Tree (K × V)) → Owns T S h t → number t ≡ m → Rooted T m → h ≤ 5 → Topped T T₁ S S₁ h t (fix_top h t) res
  unfolding FixesTop
  tops res did t o e z low = did t o e z low

  pub tops_not : (f : Fault) → FixesTop T T₁ S S₁ h m (Err f) → (t : Tree (K × V)) → Owns T S h t → number t ≡ m → Rooted T m → h ≤ 5 → ⊥
  tops_not f did t o e z low = err_not_ok _ _ (tops (Err f) did t o e z low).answer

  module _ (top : NodeRef) (did : FixesTop T T₁ S S₁ h m (Ok top)) (T₂ : Tables K V) (S₂ : Stock) (res : Result (Unit {0}) Fault) (mended : Mends s T₁ T₂ S₁ S₂ top.height top.node res)
      (t : Tree (K × V)) (o : Owns T S h t) (e : number t ≡ m) (z : Rooted T m) (low : h ≤ 5) where
    abbrev k : ℕ
    k = (fix_top h t).0

    abbrev u : Tree (K × V)
    u = (fix_top h t).1

    first : Topped T T₁ S S₁ h t (fix_top h t) (Ok top)
    first = tops (Ok top) did t o e z low

    top_is : top ≡ root_of (fix_top h t)
    top_is = ok_same _ _ first.answer

    owns₁ : Owns T₁ S₁ k u
    owns₁ = became_owns T T₁ S S₁ h t k u o first.became

    middle : Mended s T₁ T₂ S₁ S₂ k u res
    unfolding Mends
    middle = subst (λ n. Mends s T₁ T₂ S₁ S₂ n.height n.node res) top_is mended u owns₁ refl

    pub mends_ok : res ≡ Ok tt
    mends_ok = middle.answer

    both : Became T T₂ S S₂ h t k (mend s k u)
    both = became_both T T₁ T₂ S S₁ S₂ h t k u k (mend s k u) first.became middle.became

    pub repaired : (T₃ : Tables K V) (S₃ : Stock) (r : Result NodeRef Fault) → FixesTop T₂ T₃ S₂ S₃ top.height top.node r → Topped T T₃ S S₃ h t (repair s h t) r
    unfolding FixesTop
    repaired T₃ S₃ r last =
        let n : number (mend s k u) ≡ number u = mend_number s k u in
        let v : Topped T₂ T₃ S₂ S₃ k (mend s k u) (fix_top k (mend s k u)) r =
        subst (λ n. FixesTop T₂ T₃ S₂ S₃ n.height n.node r) top_is last (mend s k u) (became_owns T T₂ S S₂ h t k (mend s k u) o both) n
        (middle.link.parent_same ∙ first.root) (omega (arith, top_low h t)) in
        record {
          answer = v.answer;
          root = v.root;
          became = became_both T T₂ T₃ S S₂ S₃ h t k (mend s k u) (repair s h t).0 (repair s h t).1 both v.became;
        }
