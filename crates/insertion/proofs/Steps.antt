-- The search in a node of the tables, and what comes of an insertion under that node. Assumes nothing.
use Rattle.rules.proofs.Searches.{first_is}
use Rattle.std.proofs.Common.{◌≡◌, ℕ, ◌-◌, ◌<◌, ◌≤◌, true, false, length, get_or, Ok, Err, Result, Ordering, sym, refl, ap, ◌∙◌, subst, arith}
use Rattle.std.specs.Ordering.{is_gt}
use Rattle.order.specs.declared.search.SearchResult.{SearchResult}
use Rattle.order.specs.declared.search.SearchResult.TheVariants.{Found, GoDown}
use Rattle.order.specs.Found.{first_not_below, found_at, comparisons, searched}
use Rattle.node.specs.declared.nodes.NodeRef.{NodeRef}
use Rattle.node.specs.declared.nodes.Leaf.{Leaf}
use Rattle.node.specs.declared.nodes.Internal.{Internal}
use Rattle.node.specs.declared.nodes.ForceResult.TheVariants as kind
use Rattle.node.specs.Kinds.{forced}
use Rattle.node.specs.Shape.{Tree, number, row, kid}
use Rattle.node.specs.Store.{Tables, Holds, head_at, first, second}
use Rattle.node.specs.Sorted.{index}
use Rattle.node.specs.Operations.{Lies}
use Rattle.node.proofs.Forced.{forced_leaf, forced_inner}
use Rattle.map.specs.Lookup.{SearchedIn, keys_at}
use Rattle.map.proofs.Seeking.{found_is, index_is, was_found, passed_by, child_number}
use Rattle.supply.specs.declared.faults.Fault.{Fault}
use Rattle.supply.specs.Stocks.{Stock}
use Rattle.node.specs.Balance.{Owns}
use Rattle.map.specs.Inserts.{Replaces}
use Rattle.rules.proofs.Branches.{held_from}
use Rattle.insertion.specs.declared.descent.InsertResult.{InsertResult}
use Rattle.insertion.specs.declared.descent.InsertResult.TheVariants.{Replaced, Split}
use Rattle.insertion.specs.Descent.{above_child, Settles, Descends, Descended}
use Rattle.insertion.proofs.Descended.{found_not, found_down, leaf_down, passed_up, split_up, child_owned, room_keeps}

-- what a search in node m came to, for the tree that stands there
module _ {K V : Type 0} (place : K → Ordering) (T : Tables K V) (h m : ℕ) (t : Tree (K × V)) (w : Holds T h t) (at-m : number t ≡ m) (i made : ℕ) where
  abbrev pls : K × V → Ordering
  pls e = place (first e)

  pub found_at_lem : SearchedIn place T m (Found i) made → (found_at pls (row t) ≡ true) × (i ≡ first_not_below pls (row t))
  found_at_lem s =
      let f = was_found (found_at place (keys_at T m)) (first_not_below place (keys_at T m)) i s.result in
      (sym (found_is place T h m t w at-m) ∙ f.0, sym f.1 ∙ index_is place T h m t w at-m)

  pub passed_at : SearchedIn place T m (GoDown i) made → (found_at pls (row t) ≡ false) × (i ≡ index (λ e. is_gt (pls e)) (row t))
  passed_at s =
      let f = passed_by place T h m t w at-m i made s refl in
      (sym (found_is place T h m t w at-m) ∙ f.0, sym f.1 ∙ index_is place T h m t w at-m ∙ first_is pls (row t))

  pub passed_in : SearchedIn place T m (GoDown i) made
      → Lies T m (head_at T m).len × (searched place (keys_at T m) ≡ GoDown i) × (i ≤ 11) × (made ≡ comparisons place (keys_at T m)) × (made ≤ 11)
  passed_in s = (s.lies, s.result, omega (arith, s.few, s.lies.few), s.count, s.most)

-- the search in node n, in tables that are T, came to r
module _ {K V : Type 0} (place : K → Ordering) {T₀ T : Tables K V} {S : Stock} (n : NodeRef) (e : K × V) (above : ℕ) (t : Tree (K × V)) (owns : Owns T S n.height t) (at-m : number t ≡ n.node)
    (i made : ℕ) {r : SearchResult} (same : T₀ ≡ T) (searched : SearchedIn place T₀ n.node r made) where
  abbrev pl : K × V → Ordering
  pl y = place (first y)

  abbrev at : ℕ
  at = index (λ y. is_gt (pl y)) (row t)

  s : SearchedIn place T n.node r made
  s = subst (λ (U : Tables K V). SearchedIn place U n.node r made) same searched

  hit_at : r ≡ Found i → (found_at pl (row t) ≡ true) × (i ≡ first_not_below pl (row t))
  hit_at came = found_at_lem place T n.height n.node t owns.holds at-m i made (subst (λ x. SearchedIn place T n.node x made) came s)

  down_at : r ≡ GoDown i → (found_at pl (row t) ≡ false) × (i ≡ at)
  down_at came = passed_at place T n.height n.node t owns.holds at-m i made (subst (λ x. SearchedIn place T n.node x made) came s)

  -- the key was found
  module _ (T₁ : Tables K V) (x : Result V Fault) (came : r ≡ Found i) (did : Replaces T T₁ n.node i (second e) x) where
    did_at : Replaces T T₁ (number t) (first_not_below pl (row t)) (second e) x
    did_at = subst (λ j. Replaces T T₁ (number t) j (second e) x) (hit_at came).1 (subst (λ m. Replaces T T₁ m i (second e) x) (sym at-m) did)

    pub step_found : (old : V) → x ≡ Ok old → Descended pl T T₁ S S n.height e above t (Ok (Replaced old))
    step_found old p = found_down pl T T₁ S n.height e above t x owns (hit_at came).0 did_at old p

    pub step_never : (y : Fault) → x ≡ Err y → ⊥
    step_never y p = found_not pl T T₁ S n.height e above t x owns (hit_at came).0 did_at y p

  module _ (T₁ : Tables K V) (S₁ : Stock) (x : Result (InsertResult K V) Fault) (came : r ≡ GoDown i) where
    -- the node is a leaf
    pub step_leaf : (leaf : Leaf) → kind.Leaf leaf ≡ forced n → Settles T T₁ S S₁ n.height n.node i e 0 above x → Descended pl T T₁ S S₁ n.height e above t x
    unfolding Settles
    step_leaf leaf kind-is did =
        let z = (forced_leaf n leaf kind-is).0 in
        let d = down_at came in
        subst (λ k. Descended pl T T₁ S S₁ k e above t x) (sym z)
        (leaf_down pl T T₁ S S₁ e above t x (subst (λ k. Owns T S k t) z owns) d.0
        (subst (λ j. Settles T T₁ S S₁ 0 (number t) j e 0 above x) d.1 (subst (λ m. Settles T T₁ S S₁ 0 m i e 0 above x) (sym at-m) (subst (λ k. Settles T T₁ S S₁ k n.node i e 0 above x) z did))))

    -- it is an inner node, and the insertion under its child c came to x
    module _ {T₂ : Tables K V} (inner : Internal) (c : NodeRef) (higher : ℕ) (kind-is : kind.Internal inner ≡ forced n) (view : T₂ ≡ T)
        (node-is : c.node ≡ get_or (head_at T₂ inner.node).edges i 0) (height-is : c.height ≡ inner.height - 1) (higher-is : higher ≡ above_child (head_at T₂ inner.node).len above)
        (done : Descends place T T₁ S S₁ c.height c.node e higher x) where
      up : 0 < n.height
      up = (forced_inner n inner kind-is).0

      head-is : head_at T₂ inner.node ≡ head_at T (number t)
      head-is = ap (λ (U : Tables K V). head_at U inner.node) view ∙ ap (head_at T) ((forced_inner n inner kind-is).1 ∙ sym at-m)

      child-is : number (kid t at) ≡ c.node
      child-is =
          ap (λ j. number (kid t j)) (sym (down_at came).1) ∙ child_number place T n.height n.node t owns.holds at-m i made s came up ∙ ap (λ m. get_or (head_at T m).edges i 0) (sym at-m)
          ∙ sym (node-is ∙ ap (λ h. get_or h.edges i 0) head-is)

      child_is_owned : Owns T S (n.height - 1) (kid t at)
      child_is_owned = child_owned pl T T₁ S S₁ n.height e above t owns up (down_at came).0

      below : Descended pl T T₁ S S₁ (n.height - 1) e (above_child (length (row t)) above) (kid t at) x
      unfolding Descends
      below =
          let low : c.height ≡ n.height - 1 = height-is ∙ ap (λ h. h - 1) (forced_inner n inner kind-is).2 in
          let high : higher ≡ above_child (length (row t)) above = higher-is ∙ ap (λ h. above_child h.len above) head-is ∙ ap (λ l. above_child l above) (held_from T n.height t owns.holds).body.len_is in
          subst (λ h. Descended pl T T₁ S S₁ h e (above_child (length (row t)) above) (kid t at) x) low
          (subst (λ a. Descended pl T T₁ S S₁ c.height e a (kid t at) x) high
          (done (kid t at) (subst (λ h. Owns T S h (kid t at)) (sym low) child_is_owned) child-is))

      pub step_up : ((k : K) (v : V) (m : ℕ) → x ≡ Ok (Split k v m) → ⊥) → Descended pl T T₁ S S₁ n.height e above t x
      step_up not = passed_up pl T T₁ S S₁ n.height e above t owns up (down_at came).0 x below not

      -- the child has room
      pub step_room : (head_at T c.node).len < 11 → Descended pl T T₁ S S₁ n.height e above t x
      step_room l =
          let body = (held_from T (n.height - 1) (kid t at) child_is_owned.holds).body in
          step_up (room_keeps pl T T₁ S S₁ (n.height - 1) e (above_child (length (row t)) above) (kid t at) x below
          (omega (arith, l, body.len_is, ap (λ m. (head_at T m).len) child-is)))

      pub step_split : (T₃ : Tables K V) (S₃ : Stock) (k : K) (v : V) (m : ℕ) (y : Result (InsertResult K V) Fault) → x ≡ Ok (Split k v m)
          → Settles T₁ T₃ S₁ S₃ n.height n.node i (k, v) m above y → Descended pl T T₃ S S₃ n.height e above t y
      unfolding Settles
      step_split T₃ S₃ k v m y p did =
          let d = down_at came in
          split_up pl T T₁ S S₁ n.height e above t owns up d.0 T₃ S₃ k v m y
          (subst (λ q. Descended pl T T₁ S S₁ (n.height - 1) e (above_child (length (row t)) above) (kid t at) q) p below)
          (subst (λ j. Settles T₁ T₃ S₁ S₃ n.height (number t) j (k, v) m above y) d.1 (subst (λ a. Settles T₁ T₃ S₁ S₃ n.height a i (k, v) m above y) (sym at-m) did))
