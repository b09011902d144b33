-- From a node down to the last one with room. Assumes nothing.
use Rattle.std.proofs.Common.{◌≡◌, ℕ, ◌+◌, ◌-◌, ◌<◌, ◌≤◌, Bool, true, false, cond, ltb, get_or, Result, Ordering, refl, sym, ap, ◌∙◌, subst, arith}
use Rattle.supply.specs.declared.faults.Fault.{Fault}
use Rattle.supply.specs.Stocks.{Stock}
use Rattle.order.specs.declared.search.SearchResult.{SearchResult}
use Rattle.order.specs.declared.search.SearchResult.TheVariants.{GoDown}
use Rattle.node.specs.declared.nodes.NodeRef.{NodeRef}
use Rattle.node.specs.declared.nodes.Internal.{Internal}
use Rattle.node.specs.declared.nodes.ForceResult.TheVariants as kind
use Rattle.node.specs.Kinds.{forced}
use Rattle.node.specs.Shape.{Tree, number, kid}
use Rattle.node.specs.Store.{Tables, head_at}
use Rattle.node.specs.Balance.{Owns}
use Rattle.node.proofs.Forced.{forced_inner}
use Rattle.map.specs.Lookup.{SearchedIn}
use Rattle.map.proofs.Seeking.{child_under, inside}
use Rattle.insertion.specs.declared.descent.InsertResult.{InsertResult}
use Rattle.insertion.specs.Descent.{above_child, Descends, Lowered}
use Rattle.insertion.proofs.Descended.{kid_owned}
use Rattle.insertion.proofs.Steps.{step_room}

-- the part of `Lowered` that does not hang on the search in the lower node
pub record Lower {K V : Type 0} (place : K → Ordering) (T : Tables K V) (n : NodeRef) (above : ℕ) (m : NodeRef) (higher : ℕ) : Type 0 where
  pub low : m.height ≤ n.height
  pub under : (S : Stock) (t : Tree (K × V)) → Owns T S n.height t → number t ≡ n.node → (u : Tree (K × V)) × Owns T S m.height u × (number u ≡ m.node)
  pub leads : (T' : Tables K V) (S S' : Stock) (e : K × V) (x : Result (InsertResult K V) Fault)
      → Descends place T T' S S' m.height m.node e higher x → Descends place T T' S S' n.height n.node e above x

-- the numbers that the ancestors would take, and the height below them
pub still_low : (m : NodeRef) (inner : Internal) (c : NodeRef) (len higher next : ℕ) → kind.Internal inner ≡ forced m → c.height ≡ inner.height - 1 → next ≡ above_child len higher → higher + m.height ≤ 6
    → next + c.height ≤ 6
still_low m inner c len higher next kind-is height-is next-is l =
    let k = forced_inner m inner kind-is in
    go (ltb len 11) next-is (omega (arith, k.0, k.2, height-is, l))
  where
    go : (b : Bool) → next ≡ cond b 0 (higher + 1) → higher + 1 + c.height ≤ 6 → next + c.height ≤ 6
    go true e l = omega arith
    go false e l = omega arith

module _ {K V : Type 0} (place : K → Ordering) (T : Tables K V) (n : NodeRef) (above : ℕ) where
  pub lower_here : Lower place T n above n above
  lower_here = record { low = omega arith; under = λ S t o e. (t, o, e); leads = λ T' S S' e x d. d }

  module _ (m : NodeRef) (higher : ℕ) (w : Lower place T n above m higher) where
    pub lowered : {r : SearchResult} (made : ℕ) → SearchedIn place T m.node r made → Lowered place T n above m higher r
    lowered made v = record { low = w.low; made = made; searched = v; under = w.under; leads = w.leads }

    pub lower_down : {T₂ : Tables K V} (inner : Internal) (c : NodeRef) {r : SearchResult} (i made next : ℕ) → SearchedIn place T m.node r made → r ≡ GoDown i → kind.Internal inner ≡ forced m → T₂ ≡ T
        → c.node ≡ get_or (head_at T₂ inner.node).edges i 0 → c.height ≡ inner.height - 1 → next ≡ above_child (head_at T₂ inner.node).len higher → (head_at T₂ c.node).len < 11
        → Lower place T n above c next
    unfolding Descends
    lower_down inner c i made next v came kind-is view node-is height-is next-is room =
        let k = forced_inner m inner kind-is in
        let z : c.height ≡ m.height - 1 = height-is ∙ ap (λ h. h - 1) k.2 in
        let own-node : c.node ≡ get_or (head_at T inner.node).edges i 0 = node-is ∙ ap (λ (U : Tables K V). get_or (head_at U inner.node).edges i 0) view in
        let room' : (head_at T c.node).len < 11 = omega (arith, room, ap (λ (U : Tables K V). (head_at U c.node).len) view) in
        record {
          low = omega (arith, w.low, z);
          under = λ S t o e.
              let u = w.under S t o e in
              let d = child_under place T m inner c i made u.0 u.1.holds u.2 v came kind-is own-node height-is in
              (kid u.0 i, subst (λ h. Owns T S h (kid u.0 i)) (sym z) (kid_owned T S m.height u.0 u.1 k.0 i (inside place T m.height m.node u.0 u.1.holds u.2 i made v came k.0)), d.1);
          leads = λ T' S S' e x done. w.leads T' S S' e x (λ t o at-m. step_room place m e higher t o at-m i made refl v T' S' x came inner c next kind-is view node-is height-is next-is done room');
        }
