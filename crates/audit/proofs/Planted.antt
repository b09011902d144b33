-- A tree under a root, by a pass over it. Assumes nothing.
use Rattle.std.proofs.Common.{◌≡◌, ℕ, ◌-◌, List, map, length, None, sym, ap, subst, arith}
use lib.ListN.{length-map}
use Rattle.std.specs.declared.cmp.Ordering.{Ordering}
use Rattle.order.specs.Laws.{Ordered}
use Rattle.node.specs.declared.nodes.NodeRef.{NodeRef}
use Rattle.node.specs.Laws.{occurs}
use Rattle.node.specs.Shape.{Tree, flat, root_least}
use Rattle.node.specs.Store.{Tables, Sized, first}
use Rattle.walk.specs.Window.{Bounds}
use Rattle.audit.specs.declared.marks.Met.{Met}
use Rattle.audit.specs.declared.runs.Run.{Run}
use Rattle.audit.specs.Passes.{Trail, trail, pass, Passable}
use Rattle.audit.specs.Audits.{Marked, Unmarked, Showing, TreeSound}
use Rattle.audit.proofs.Finding.{finds}
use Rattle.audit.proofs.Showing.{passes}
use Rattle.audit.proofs.Orders.{ordered_chained, chained_ordered}
use Rattle.audit.proofs.Taking.{Took, Free}

abbrev pub run_of : {K : Type 0} → ℕ → Run K
run_of n = record { last = None; left = n }

module _ {K V : Type 0} (compares : K → K → Ordering) (T : Tables K V) (b : Bounds) (root : NodeRef) (count : ℕ) (m m' : Met) (r : Run K) where
  abbrev start : Trail K
  start = trail m (run_of count)

  pub tree_sound : Ordered compares → Passable compares T (root_least root.height) b root.height root.node start → trail m' r ≡ pass T b root.height root.node start → r.left ≡ 0
      → TreeSound compares T b root count m m'
  tree_sound o p e z =
      let f = finds compares T (root_least root.height) b root.height root.node start p in
      let keys : List K = map first (flat root.height f.t) in
      let n : length keys ≡ length (flat root.height f.t) = length-map (flat root.height f.t) first in
      let took : Took (λ x. occurs x root.height f.t) keys start (trail m' r) = subst (λ s. Took (λ x. occurs x root.height f.t) keys start s) (sym e) f.took in
      let left : r.left ≡ count - length keys = ap (λ r. r.left) took.run in (
        f.t,
        record {
          number_is = f.number_is;
          shown = f.shown;
          count_is = omega (arith, f.notes.fits);
          in_order = chained_ordered compares o (flat root.height f.t) f.notes.chained;
        },
        took.met,
      )

  -- where the tree is shown, the pass is without fault
  pub tree_passes : Sized T → length m.nodes ≡ 4096 → (t : Tree (K × V)) → Showing compares T b root count t → Unmarked m (λ x. occurs x root.height t)
      → Passable compares T (root_least root.height) b root.height root.node start
      × Took (λ x. occurs x root.height t) (map first (flat root.height t)) start (pass T b root.height root.node start)
  tree_passes sz l t w u =
      let h : ℕ = root.height in
      let keys : List K = map first (flat h t) in
      let n : length keys ≡ length (flat h t) = length-map (flat h t) first in
      let free : Free compares (λ x. occurs x h t) keys start =
      record { fresh = u; notes = record { chained = ordered_chained compares (flat h t) w.in_order; fits = omega (arith, w.count_is) }; room = l } in
      let p = passes compares T sz (root_least h) b h t start w.shown free in (
        subst (λ x. Passable compares T (root_least h) b h x start) w.number_is p.passable,
        subst (λ x. Took (λ x. occurs x h t) keys start (pass T b h x start)) w.number_is p.took,
      )

  pub tree_whole : Sized T → length m.nodes ≡ 4096 → (t : Tree (K × V)) → Showing compares T b root count t → Unmarked m (λ x. occurs x root.height t) → trail m' r ≡ pass T b root.height root.node start
      → (r.left ≡ 0) × Marked m m' (λ x. occurs x root.height t)
  tree_whole sz l t w u e =
      let h : ℕ = root.height in
      let keys : List K = map first (flat h t) in
      let n : length keys ≡ length (flat h t) = length-map (flat h t) first in
      let took : Took (λ x. occurs x h t) keys start (trail m' r) = subst (λ s. Took (λ x. occurs x h t) keys start s) (sym e) (tree_passes sz l t w u).1 in
      let left : r.left ≡ count - length keys = ap (λ r. r.left) took.run in
      (omega (arith, w.count_is), took.met)
