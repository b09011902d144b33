use Rattle.std.proofs.Common.{◌≡◌, ap, ◌∙◌, subst}
use Rattle.node.specs.Links.{edge}
use Rattle.node.proofs.Breaking.{refused_by}
use Rattle.node.proofs.Forced.{forced_leaf, forced_inner}
use Rattle.node.proofs.Descents.{Descent, chain_stands, descent_leaf, descent_more}
use Rattle.node.proofs.ends.+descend.Goals as goal

pub returns-in_err-len : goal.returns-in_err-len
returns-in_err-len t c =
    refused_by c.from_residual.result _ _ _ c.from_residual.ensures.1 c.in_err-len.ensures.0
    (λ w. c.in_err-len.ensures.1 (chain_stands c.args.side c.args.heads.now c.args.node.height c.args.node.node w))

pub returns-in-Leaf : goal.returns-in-Leaf
returns-in-Leaf t c =
    let st = c.in_ok-len.ensures in
    let k = forced_leaf c.args.node c.in-Leaf.leaf c.in-Leaf.ensures in
    let d = descent_leaf c.args.side c.args.heads.now c.args.node.height c.args.node.node c.in_ok-len.len c.index-idx.result k.0 st.0 st.1 c.index-idx.ensures in
    (d.0, ap (λ m. record { node = m; idx = c.index-idx.result }) k.1 ∙ d.1)

pub returns-in-Internal : goal.returns-in-Internal
returns-in-Internal t c =
    let st = c.in_ok-len.ensures in
    let s = c.args.side in
    let H = c.args.heads.now in
    let k = forced_inner c.args.node c.in-Internal.inner c.in-Internal.ensures in
    let e = subst (λ m. c.edge_at-child.result ≡ edge H m c.index-idx.result) k.1 c.edge_at-child.ensures.value in
    let below = subst (λ h. Descent s H h c.child.result.node c.descend.result) (c.child.ensures.1 ∙ ap (λ h. Prim.Native.Nat.◌-◌ h 1) k.2) c.descend.ensures in
    descent_more s H c.args.node.height c.args.node.node c.in_ok-len.len c.index-idx.result c.child.result.node c.descend.result
    k.0 st.0 st.1 c.index-idx.ensures (c.child.ensures.0 ∙ e) below
