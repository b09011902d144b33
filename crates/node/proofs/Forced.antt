-- A node by its kind. Assumes nothing.
use Rattle.std.proofs.Common.{◌≡◌, ℕ, ◌<◌, Bool, true, false, cond, eqb, refl, arith, eqb-true}
use borrow.Author.Tests.{eqb-false}
use Rattle.node.specs.declared.nodes.NodeRef.{NodeRef}
use Rattle.node.specs.declared.nodes.Leaf.{Leaf}
use Rattle.node.specs.declared.nodes.Internal.{Internal}
use Rattle.node.specs.declared.nodes.ForceResult.TheVariants as kind
use Rattle.node.specs.Kinds.{forced}

-- what a kind says of the height and the number
pub forced_leaf : (n : NodeRef) (x : Leaf) → kind.Leaf x ≡ forced n → (n.height ≡ 0) × (x.node ≡ n.node)
forced_leaf n x e = go (eqb n.height 0) refl e
  where
    go : (b : Bool) → eqb n.height 0 ≡ b → kind.Leaf x ≡ cond b (kind.Leaf (record { node = n.node })) (kind.Internal (record { node = n.node; height = n.height })) → (n.height ≡ 0) × (x.node ≡ n.node)
    go true p q = (eqb-true n.height 0 p, cc)
    go false p q = let z : ◌≡◌ {A = ℕ} 0 1 = cc in absurd (omega arith)

pub forced_inner : (n : NodeRef) (x : Internal) → kind.Internal x ≡ forced n → (0 < n.height) × (x.node ≡ n.node) × (x.height ≡ n.height)
forced_inner n x e = go (eqb n.height 0) refl e
  where
    go : (b : Bool) → eqb n.height 0 ≡ b → kind.Internal x ≡ cond b (kind.Leaf (record { node = n.node })) (kind.Internal (record { node = n.node; height = n.height }))
        → (0 < n.height) × (x.node ≡ n.node) × (x.height ≡ n.height)
    go true p q = let z : ◌≡◌ {A = ℕ} 0 1 = cc in absurd (omega arith)
    go false p q = (omega (arith, eqb-false n.height 0 p), cc, cc)
