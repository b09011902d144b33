-- Two neighbours among the children of a node. Assumes nothing.
use Rattle.std.proofs.Common.{◌≡◌, ℕ, ◌+◌, ◌≤◌, ◌⊎◌, List, ◌∷◌, ◌++◌, length, get_or, Ok, Err, Option, Result, sym, ap, ◌∙◌, subst, ⊎_elim, arith, length-append}
use Rattle.supply.specs.declared.faults.Fault.{Fault}
use Rattle.node.specs.declared.choice.Choice.{Choice}
use Rattle.node.specs.declared.ends.Side.{Side}
use Rattle.node.specs.declared.rows.Pair.{Pair}
use Rattle.node.specs.Store.{Tables, Sized, head_at}
use Rattle.node.specs.Operations.{Pairs, Strange}
use Rattle.node.specs.Neighbours.{PairedOf, JoinsAs, JoinsChildren}
use Rattle.node.specs.Rules.{choice}
use Rattle.node.proofs.Runs.{edge_is}
use Rattle.node.proofs.Tabled.{not_strange, ok_same, err_not_ok}

module _ {K V : Type 0} (T : Tables K V) (p i l r : ℕ) (us : List (K × V)) (e : K × V) (ws es fs : List (K × V)) (as' bs ks ls : List ℕ) (q : Pairs T p i l r us e ws es fs as' bs ks ls) where
  pub left_edge : get_or (head_at T p).edges i 0 ≡ l
  left_edge = edge_is (head_at T p).edges as' (l ∷ r ∷ bs) i 0 i q.parent.edges_are q.edges_here (omega arith) (omega arith)

  pub right_edge : get_or (head_at T p).edges (i + 1) 0 ≡ r
  right_edge = edge_is (head_at T p).edges as' (l ∷ r ∷ bs) i 1 (i + 1) q.parent.edges_are q.edges_here (omega arith) (omega arith)

  -- none of the checks fails
  pub parent_lies : Sized T → Strange T p → ⊥
  parent_lies s z = not_strange T p (us ++ e ∷ ws) (as' ++ l ∷ r ∷ bs) s q.parent z

  pub index_within : (n : ℕ) → (head_at T p).len ≡ n → n ≤ i → ⊥
  index_within n len z = omega (arith, q.parent.len_is, q.here, length-append us (e ∷ ws))

  pub left_lies : (x : ℕ) → x ≡ get_or (head_at T p).edges i 0 → Sized T → Strange T x → ⊥
  left_lies x is s z = not_strange T l es ks s q.left (subst (Strange T) (is ∙ left_edge) z)

  pub right_lies : (x : ℕ) → x ≡ get_or (head_at T p).edges (i + 1) 0 → Sized T → Strange T x → ⊥
  right_lies x is s z = not_strange T r fs ls s q.right (subst (Strange T) (is ∙ right_edge) z)

  pub all_differ : (x y : ℕ) → x ≡ get_or (head_at T p).edges i 0 → y ≡ get_or (head_at T p).edges (i + 1) 0
      → ((x ≡ p) ⊎ (((x ≡ p → ⊥) × (y ≡ p)) ⊎ ((x ≡ p → ⊥) × (y ≡ p → ⊥) × (x ≡ y)))) → ⊥
  all_differ x y u v w =
      let a : x ≡ l = u ∙ left_edge in
      let b : y ≡ r = v ∙ right_edge in
      ⊎_elim (λ (z : x ≡ p). q.left_other (sym a ∙ z))
      (⊎_elim (λ (z : (x ≡ p → ⊥) × (y ≡ p)). q.right_other (sym b ∙ z.1)) (λ (z : (x ≡ p → ⊥) × (y ≡ p → ⊥) × (x ≡ y)). q.differ (sym a ∙ z.2 ∙ b))) w

  pub pair_is : (k x m y n : ℕ) → (head_at T p).len ≡ k → x ≡ get_or (head_at T p).edges i 0 → y ≡ get_or (head_at T p).edges (i + 1) 0 → (head_at T x).len ≡ m → (head_at T y).len ≡ n
      → ◌≡◌ {A = Pair} (record { node = p; idx = i; len = k; left = x; left_len = m; right = y; right_len = n })
      (record { node = p; idx = i; len = length (us ++ e ∷ ws); left = l; left_len = length es; right = r; right_len = length fs })
  pair_is k x m y n lp u v ll lr =
      let a : x ≡ l = u ∙ left_edge in
      let b : y ≡ r = v ∙ right_edge in
      let c : k ≡ length (us ++ e ∷ ws) = sym lp ∙ q.parent.len_is in
      let d : m ≡ length es = sym ll ∙ ap (λ z. (head_at T z).len) a ∙ q.left.len_is in
      let f : n ≡ length fs = sym lr ∙ ap (λ z. (head_at T z).len) b ∙ q.right.len_is in
      cc

-- ---- the same tables under another name

-- an edge read in the one is that of the other
pub same_edge : {K V : Type 0} {T T' : Tables K V} (m i x : ℕ) → T ≡ T' → x ≡ get_or (head_at T m).edges i 0 → x ≡ get_or (head_at T' m).edges i 0
same_edge m i x eq is = is ∙ ap (λ (t : Tables _ _). get_or (head_at t m).edges i 0) eq

-- ---- joined by the choice for their lengths

module _ {K V : Type 0} (s : Side) (T T' : Tables K V) (h p i : ℕ) where
  -- what the choice for a pair that was read says is done with the children that the tables hold
  pub joined_as : (q : Pair) (c : Choice) (res : Result (ℕ × Option ℕ) Fault) → q.idx ≡ i → PairedOf T p i (Ok q) → c ≡ choice s q.left_len q.right_len → JoinsAs c s T T' h p q.idx q.left q.right res → JoinsChildren s T T' h p i res
  unfolding PairedOf JoinsChildren
  joined_as q c res here held is did = λ l r us e ws es fs xs bs ks ls sized pairs.
      let eq = ok_same _ _ (held l r us e ws es fs xs bs ks ls sized pairs) in
      subst (λ (x : Pair). JoinsAs (choice s x.left_len x.right_len) s T T' h p i x.left x.right res) eq (subst (λ k. JoinsAs k s T T' h p i q.left q.right res) is (subst (λ j. JoinsAs c s T T' h p j q.left q.right res) here did))

  pub joined_none : (f : Fault) (res : Result (ℕ × Option ℕ) Fault) → PairedOf T p i (Err f) → JoinsChildren s T T' h p i res
  unfolding PairedOf JoinsChildren
  joined_none f res held = λ l r us e ws es fs xs bs ks ls sized pairs. absurd (err_not_ok _ _ (held l r us e ws es fs xs bs ks ls sized pairs))
