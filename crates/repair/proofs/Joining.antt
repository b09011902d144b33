-- What is done with two neighbours, by their lengths. Assumes nothing.
use Rattle.std.proofs.Common.{◌≡◌, ℕ, suc, ◌+◌, ◌-◌, ◌<◌, ◌≤◌, Bool, true, false, cond, ltb, leb, List, ◌∷◌, ◌++◌, map, length, Some, None, Ok, Err, Option, Result, sym, refl, ap, ◌∙◌, subst, ap₂, ◌⊎◌, inl, inr, ⊎_elim, arith}
use lib.ListN.{length-map}
use Rattle.std.proofs.lemmas.Bool.{cond-true, cond-false, cond_both, lt-ltb, le-ltb, le-leb, lt-leb, ltb-true, ltb-false, leb-true, leb-false}
use Rattle.std.proofs.lemmas.Option.{none-some}
use Rattle.supply.specs.declared.faults.Fault.{Fault}
use Rattle.supply.specs.Stocks.{Stock, Returned, Declined}
use Rattle.node.specs.declared.choice.Choice.{Choice}
use Rattle.node.specs.declared.choice.Choice.TheVariants.{Merge, Move, Leave}
use Rattle.node.specs.declared.ends.Side.{Side}
use Rattle.node.specs.declared.ends.Side.TheVariants.{First, Last}
use Rattle.node.specs.Links.{edge}
use Rattle.node.specs.Shape.{Tree, number, row, kids, mk}
use Rattle.node.specs.Store.{Tables, Node, head_at}
use Rattle.node.specs.Operations.{Strange, CanMerge, Merges, StealsLeft, StealsRight}
use Rattle.node.specs.Neighbours.{Steals, merge_answer, steal_answer, JoinsAs, JoinsChildren}
use Rattle.node.specs.Rules.{whole, parted, at_side, merged, moved, chosen, joint}
use Rattle.node.specs.Balance.{mark}
use Rattle.node.proofs.Balances.{mark_unused}
use Rattle.node.proofs.Frames.{height_suc}
use Rattle.node.proofs.Numbers.{same_self}
use Rattle.node.proofs.Runs.{edge_is}
use Rattle.node.proofs.Tabled.{ok_same, err_not_ok, not_strange}
use Rattle.repair.specs.Joint.{border, Neighbours, Joined}
use Rattle.repair.proofs.Becoming.{became_none}
use Rattle.repair.proofs.Pairs.{body, held_l_lem, held_r, pairs, sum, merge_done, merge_became, merge_link, left_done, left_became, left_link, right_done, right_became, right_link}

-- ---- the rule

module _ {E : Type 0} (s : Side) (l : Tree E) (e : E) (r : Tree E) where
  abbrev a : ℕ
  a = length (row l)

  abbrev b : ℕ
  b = length (row r)

  pub joint_merge : a + b + 1 ≤ 11 → joint s l e r ≡ whole (merged l e r)
  joint_merge q = ap (λ c. chosen s c l e r) (cond-true (leb (a + b + 1) 11) Merge _ (le-leb (a + b + 1) 11 q))

  joint_more : 11 < a + b + 1 → joint s l e r ≡ chosen s (cond (ltb (at_side s a b) 6) (Move (6 - at_side s a b)) Leave) l e r
  joint_more q = ap (λ c. chosen s c l e r) (cond-false (leb (a + b + 1) 11) Merge _ (lt-leb (a + b + 1) 11 q))

  pub joint_move : 11 < a + b + 1 → at_side s a b < 6 → joint s l e r ≡ moved s (6 - at_side s a b) l e r
  joint_move q k = joint_more q ∙ ap (λ c. chosen s c l e r) (cond-true (ltb (at_side s a b) 6) (Move (6 - at_side s a b)) Leave (lt-ltb (at_side s a b) 6 k))

  pub joint_leave : 11 < a + b + 1 → 6 ≤ at_side s a b → joint s l e r ≡ parted l e r
  joint_leave q k = joint_more q ∙ ap (λ c. chosen s c l e r) (cond-false (ltb (at_side s a b) 6) (Move (6 - at_side s a b)) Leave (le-ltb (at_side s a b) 6 k))

module _ {K V : Type 0} (T : Tables K V) (S : Stock) (h p i : ℕ) (us : List (K × V)) (e : K × V) (ws : List (K × V)) (A : List (Tree (K × V))) (l r : Tree (K × V)) (B : List (Tree (K × V)))
    (w : Neighbours T S (suc h) p i us e ws A l r B) where
  next_node : (s : Side) → Node T (number (at_side s l r)) (row (at_side s l r)) (map number (kids (at_side s l r)))
  next_node First = (held_l_lem T S h p i us e ws A l r B w).body
  next_node Last = (held_r T S h p i us e ws A l r B w).body

  next_edge : (s : Side) → edge T.heads p (at_side s i (i + 1)) ≡ number (at_side s l r)
  next_edge First =
      edge_is (head_at T p).edges (map number A) (number l ∷ number r ∷ map number B) i 0 i (body T S h p i us e ws A l r B w).edges_are (length-map A number ∙ w.edges_here) (omega arith) (omega arith)
  next_edge Last =
      edge_is (head_at T p).edges (map number A) (number l ∷ number r ∷ map number B) i 1 (i + 1) (body T S h p i us e ws A l r B w).edges_are (length-map A number ∙ w.edges_here) (omega arith) (omega arith)

  next_length : (s : Side) → length (row (at_side s l r)) ≡ at_side s (length (row l)) (length (row r))
  next_length First = refl
  next_length Last = refl

  inside : p < length T.heads
  inside = (body T S h p i us e ws A l r B w).inside

  few : (length (row l) ≤ 11) × (length (row r) ≤ 11)
  few = ((held_l_lem T S h p i us e ws A l r B w).body.few, (held_r T S h p i us e ws A l r B w).body.few)

  module _ (more : 11 < length (row l) + length (row r) + 1) where
    abbrev old : Tree (K × V)
    old = mk p (us ++ e ∷ ws) (A ++ l ∷ r ∷ B)

    module _ (T' : Tables K V) (res : Result (Unit {0}) Fault) where
      from_left : length (row r) < 6 → StealsLeft T T' (suc h) p i (6 - length (row r)) res → (res ≡ Ok tt) × Joined Last T T' S S (suc h) p us e ws A l r B (joint Last l e r) (Ok (number r))
      from_left q did = (
        (left_done T S h p i us e ws A l r B w T' (6 - length (row r)) res did (omega arith) (omega arith) (omega arith)).0,
        subst (λ g. Joined Last T T' S S (suc h) p us e ws A l r B g (Ok (number r))) (sym (joint_move Last l e r more q)) (record {
          answer = refl;
          became = left_became T S h p i us e ws A l r B w T' (6 - length (row r)) res did (omega arith) (omega arith) (omega arith);
          link = left_link T S h p i us e ws A l r B w T' (6 - length (row r)) res did (omega arith) (omega arith) (omega arith);
        }),
      )

      from_right : length (row l) < 6 → StealsRight T T' (suc h) p i (6 - length (row l)) res → (res ≡ Ok tt) × Joined First T T' S S (suc h) p us e ws A l r B (joint First l e r) (Ok (number l))
      from_right q did = (
        (right_done T S h p i us e ws A l r B w T' (6 - length (row l)) res did (omega arith) (omega arith) (omega arith)).0,
        subst (λ g. Joined First T T' S S (suc h) p us e ws A l r B g (Ok (number l))) (sym (joint_move First l e r more q)) (record {
          answer = refl;
          became = right_became T S h p i us e ws A l r B w T' (6 - length (row l)) res did (omega arith) (omega arith) (omega arith);
          link = right_link T S h p i us e ws A l r B w T' (6 - length (row l)) res did (omega arith) (omega arith) (omega arith);
        }),
      )

      from_side : (s : Side) → at_side s (length (row l)) (length (row r)) < 6 → Steals s T T' (suc h) p i (6 - at_side s (length (row l)) (length (row r))) res
          → (res ≡ Ok tt) × Joined s T T' S S (suc h) p us e ws A l r B (joint s l e r) (Ok (number (at_side s l r)))
      from_side First q did = from_right q did
      from_side Last q did = from_left q did

    left_as_is : (s : Side) → 6 ≤ at_side s (length (row l)) (length (row r)) → Joined s T T S S (suc h) p us e ws A l r B (joint s l e r) (Ok (number (at_side s l r)))
    left_as_is s q =
        subst (λ g. Joined s T T S S (suc h) p us e ws A l r B g (Ok (number (at_side s l r)))) (sym (joint_leave s l e r more q)) (record {
          answer = ap Ok (at_border s);
          became = became_none T S (suc h) old w.owns.holds;
          link = record { parent_same = refl; place_same = refl };
        })
      where
        at_border : (s : Side) → number (at_side s l r) ≡ number (border s (parted l e r))
        at_border First = refl
        at_border Last = refl

-- ---- the one at the border, by its edge

module _ {K V : Type 0} (s : Side) (T : Tables K V) (h p i : ℕ) where
  -- what is asked, at a height above 0
  lowered : (S : Stock) (us : List (K × V)) (e : K × V) (ws : List (K × V)) (A : List (Tree (K × V))) (l r : Tree (K × V)) (B : List (Tree (K × V)))
      → Neighbours T S h p i us e ws A l r B → Neighbours T S (suc (h - 1)) p i us e ws A l r B
  lowered S us e ws A l r B w = subst (λ k. Neighbours T S k p i us e ws A l r B) (height_suc h w.above) w

  module _ (S : Stock) (us : List (K × V)) (e : K × V) (ws : List (K × V)) (A : List (Tree (K × V))) (l r : Tree (K × V)) (B : List (Tree (K × V))) (w : Neighbours T S h p i us e ws A l r B) where
    w' : Neighbours T S (suc (h - 1)) p i us e ws A l r B
    w' = lowered S us e ws A l r B w

    pub no_edge : i < 11 → (j : ℕ) → j ≡ at_side s i (i + 1) → (p < length T.heads → j < 12 → ⊥) → ⊥
    no_edge small j at f = f (inside T S (h - 1) p i us e ws A l r B w') (low s at)
      where
        low : (s : Side) → j ≡ at_side s i (i + 1) → j < 12
        low First q = omega arith
        low Last q = omega arith

    -- the border child as the code reads it
    module _ (j child len : ℕ) (at_j : j ≡ at_side s i (i + 1)) (at : child ≡ edge T.heads p j) where
      is_next : child ≡ number (at_side s l r)
      is_next = at ∙ ap (edge T.heads p) at_j ∙ next_edge T S (h - 1) p i us e ws A l r B w' s

      pub no_length : Strange T child → ⊥
      no_length z =
          not_strange T (number (at_side s l r)) (row (at_side s l r)) (map number (kids (at_side s l r))) w.owns.sized (next_node T S (h - 1) p i us e ws A l r B w' s) (subst (Strange T) is_next z)

      module _ (here : (head_at T child).len ≡ len) (more : 11 < length (row l) + length (row r) + 1) where
        is_length : at_side s (length (row l)) (length (row r)) ≡ len
        is_length =
            sym (next_length T S (h - 1) p i us e ws A l r B w' s) ∙ sym (next_node T S (h - 1) p i us e ws A l r B w' s).len_is ∙ sym (ap (λ c. (head_at T c).len) is_next) ∙ here

        back : (T' : Tables K V) (n : ℕ) → child ≡ n → Joined s T T' S S (suc (h - 1)) p us e ws A l r B (joint s l e r) (Ok n) → Joined s T T' S S h p us e ws A l r B (joint s l e r) (Ok child)
        back T' n z v =
            subst (λ k. Joined s T T' S S k p us e ws A l r B (joint s l e r) (Ok child)) (sym (height_suc h w.above))
            (subst (λ m. Joined s T T' S S (suc (h - 1)) p us e ws A l r B (joint s l e r) (Ok m)) (sym z) v)

        pub raised_none : 6 ≤ len → Joined s T T S S h p us e ws A l r B (joint s l e r) (Ok child)
        raised_none q = back T (number (at_side s l r)) is_next (left_as_is T S (h - 1) p i us e ws A l r B w' more s (omega (arith, is_length)))

        raised_some : len < 6 → (T' : Tables K V) (res : Result (Unit {0}) Fault) → Steals s T T' h p i (6 - len) res
            → (res ≡ Ok tt) × Joined s T T' S S h p us e ws A l r B (joint s l e r) (Ok child)
        raised_some q T' res did =
            let d =
            from_side T S (h - 1) p i us e ws A l r B w' more T' res s (omega (arith, is_length))
            (subst (λ k. Steals s T T' k p i (6 - at_side s (length (row l)) (length (row r))) res) (height_suc h w.above)
            (subst (λ n. Steals s T T' h p i (6 - n) res) (sym is_length) did)) in
            (d.0, back T' (number (at_side s l r)) is_next d.1)

        pub raised_right : len < 6 → (T' : Tables K V) (res : Result (Unit {0}) Fault) → s ≡ First → StealsRight T T' h p i (6 - len) res → (res ≡ Ok tt) × Joined s T T' S S h p us e ws A l r B (joint s l e r) (Ok child)
        raised_right q T' res is did = raised_some q T' res (subst (λ z. Steals z T T' h p i (6 - len) res) (sym is) did)

        pub raised_left : len < 6 → (T' : Tables K V) (res : Result (Unit {0}) Fault) → s ≡ Last → StealsLeft T T' h p i (6 - len) res → (res ≡ Ok tt) × Joined s T T' S S h p us e ws A l r B (joint s l e r) (Ok child)
        raised_left q T' res is did = raised_some q T' res (subst (λ z. Steals z T T' h p i (6 - len) res) (sym is) did)

-- ---- merged, or raised

module _ {K V : Type 0} (s : Side) (T : Tables K V) (S : Stock) (h p i : ℕ) (us : List (K × V)) (e : K × V) (ws : List (K × V)) (A : List (Tree (K × V))) (l r : Tree (K × V)) (B : List (Tree (K × V)))
    (w : Neighbours T S h p i us e ws A l r B) where
  v : Neighbours T S (suc (h - 1)) p i us e ws A l r B
  v = subst (λ k. Neighbours T S k p i us e ws A l r B) (height_suc h w.above) w

  pub tells_fit : (res : Result Bool Fault) → CanMerge T p i res → res ≡ Ok (leb (length (row l) + length (row r) + 1) 11)
  unfolding CanMerge
  tells_fit res c = c (number l) (number r) us e ws (row l) (row r) (map number A) (map number B) (map number (kids l)) (map number (kids r)) w.owns.sized (pairs T S (h - 1) p i us e ws A l r B v)

  pub fits_in : (b : Bool) → CanMerge T p i (Ok b) → b ≡ true → length (row l) + length (row r) + 1 ≤ 11
  fits_in b c z = leb-true (length (row l) + length (row r) + 1) 11 (sym (ok_same _ _ (tells_fit (Ok b) c)) ∙ z)

  pub fits_not : (b : Bool) → CanMerge T p i (Ok b) → b ≡ false → 11 < length (row l) + length (row r) + 1
  fits_not b c z = leb-false (length (row l) + length (row r) + 1) 11 (sym (ok_same _ _ (tells_fit (Ok b) c)) ∙ z)

  module _ (fit : length (row l) + length (row r) + 1 ≤ 11) (T' : Tables K V) (res : Result (ℕ × ℕ) Fault) (did : Merges T T' h p i res) where
    did' : Merges T T' (suc (h - 1)) p i res
    did' = subst (λ k. Merges T T' k p i res) (height_suc h w.above) did

    pub merges_to : res ≡ Ok (number l, number r)
    merges_to = (merge_done T S (h - 1) p i us e ws A l r B v T' res did' fit).0

    pub right_out : 0 < mark S (number r)
    right_out = omega (arith, sum T S (h - 1) p i us e ws A l r B v (number r), same_self (number r))

    pub merge_joined : (S' : Stock) → Returned S S' (number r) → Joined s T T' S S' h p us e ws A l r B (joint s l e r) (Ok (number l))
    merge_joined S' d =
        subst (λ k. Joined s T T' S S' k p us e ws A l r B (joint s l e r) (Ok (number l))) (sym (height_suc h w.above))
        (subst (λ g. Joined s T T' S S' (suc (h - 1)) p us e ws A l r B g (Ok (number l))) (sym (joint_merge s l e r fit)) (record {
          answer = ap Ok (at_border s);
          became = merge_became T S (h - 1) p i us e ws A l r B v T' res did' fit S' d;
          link = merge_link T S (h - 1) p i us e ws A l r B v T' res did' fit;
        }))
      where
        at_border : (s : Side) → number l ≡ number (border s (whole (merged l e r)))
        at_border First = refl
        at_border Last = refl

    -- as the code has the two
    module _ (x y : ℕ) (is : res ≡ Ok (x, y)) where
      both : ◌≡◌ {A = ℕ × ℕ} (x, y) (number l, number r)
      both = ok_same _ _ (sym is ∙ merges_to)

      pub is_left : x ≡ number l
      is_left = ap (λ z. z.0) both

      pub is_right : y ≡ number r
      is_right = ap (λ z. z.1) both

      pub not_declined : (S' : Stock) (f : Fault) → Declined S S' y f → ⊥
      not_declined S' f d = omega (arith, right_out, ap (mark S) is_right, mark_unused S y d.not_out)

      pub joined_by : (S' : Stock) → Returned S S' y → Joined s T T' S S' h p us e ws A l r B (joint s l e r) (Ok x)
      joined_by S' d =
          subst (λ n. Joined s T T' S S' h p us e ws A l r B (joint s l e r) (Ok n)) (sym is_left) (merge_joined S' (subst (λ n. Returned S S' n) is_right d))

-- ---- what is left over

some_none : (a b x : ℕ) → ◌≡◌ {A = Result (ℕ × Option ℕ) Fault} (Ok (a, Some b)) (Ok (x, None)) → ⊥
some_none a b x q = none-some b (sym (ap (λ y. y.1) (ok_same (a, Some b) (x, None) q)))

none_same : (a x : ℕ) → ◌≡◌ {A = Result (ℕ × Option ℕ) Fault} (Ok (a, None)) (Ok (x, None)) → a ≡ x
none_same a x q = ap (λ y. y.0) (ok_same (a, None) (x, None) q)

some_inside : (b y : ℕ) → ◌≡◌ {A = Option ℕ} (Some b) (Some y) → b ≡ y
some_inside b y q = cc

some_same : (a b x y : ℕ) → ◌≡◌ {A = Result (ℕ × Option ℕ) Fault} (Ok (a, Some b)) (Ok (x, Some y)) → (a ≡ x) × (b ≡ y)
some_same a b x y q =
    let z = ok_same (a, Some b) (x, Some y) q in
    (ap (λ y. y.0) z, some_inside b y (ap (λ y. y.1) z))

pair_same : (a b x y : ℕ) → a ≡ x → b ≡ y → ◌≡◌ {A = ℕ × ℕ} (a, b) (x, y)
pair_same a b x y p q = ap₂ (λ u v. (u, v)) p q

-- ---- joined by the choice

module _ {K V : Type 0} (s : Side) (T : Tables K V) (S : Stock) (h p i : ℕ) (us : List (K × V)) (e : K × V) (ws : List (K × V)) (A : List (Tree (K × V))) (l r : Tree (K × V)) (B : List (Tree (K × V)))
    (w : Neighbours T S h p i us e ws A l r B) (T' : Tables K V) (res : Result (ℕ × Option ℕ) Fault) where
  u : Neighbours T S (suc (h - 1)) p i us e ws A l r B
  u = subst (λ k. Neighbours T S k p i us e ws A l r B) (height_suc h w.above) w

  abbrev n : ℕ
  n = length (row l) + length (row r) + 1

  abbrev m : ℕ
  m = at_side s (length (row l)) (length (row r))

  -- merged, with the right one left over
  record BecameOne : Type 0 where
    fits : n ≤ 11
    answer : res ≡ Ok (number l, Some (number r))
    did : Merges T T' h p i (Ok (number l, number r))

  -- both kept
  record StayedTwo : Type 0 where
    answer : res ≡ Ok (number (at_side s l r), None)
    joined : Joined s T T' S S h p us e ws A l r B (joint s l e r) (Ok (number (at_side s l r)))

  number_at : (s : Side) → at_side s (number l) (number r) ≡ number (at_side s l r)
  number_at First = refl
  number_at Last = refl

  lifted : Joined s T T' S S (suc (h - 1)) p us e ws A l r B (joint s l e r) (Ok (number (at_side s l r))) → Joined s T T' S S h p us e ws A l r B (joint s l e r) (Ok (number (at_side s l r)))
  lifted j = subst (λ k. Joined s T T' S S k p us e ws A l r B (joint s l e r) (Ok (number (at_side s l r)))) (sym (height_suc h w.above)) j

  one_by_merge : n ≤ 11 → JoinsAs Merge s T T' h p i (number l) (number r) res → BecameOne
  one_by_merge fit (r', d, is) =
      let z = merges_to s T S h p i us e ws A l r B w fit T' r' d in
      record { fits = fit; answer = is ∙ ap merge_answer z; did = subst (λ x. Merges T T' h p i x) z d }

  two_by_move : 11 < n → m < 6 → JoinsAs (Move (6 - m)) s T T' h p i (number l) (number r) res → StayedTwo
  two_by_move more few (r', d, is) =
      let j = from_side T S (h - 1) p i us e ws A l r B u more T' r' s few (subst (λ k. Steals s T T' k p i (6 - m) r') (height_suc h w.above) d) in
      record { answer = is ∙ ap (steal_answer (at_side s (number l) (number r))) j.0 ∙ ap (λ x. Ok (x, None)) (number_at s); joined = lifted j.1 }

  two_by_leave : 11 < n → 6 ≤ m → JoinsAs Leave s T T' h p i (number l) (number r) res → StayedTwo
  two_by_leave more many (same, is) = record {
    answer = is ∙ ap (λ x. Ok (x, None)) (number_at s);
    joined = lifted (subst (λ (t : Tables K V). Joined s T t S S (suc (h - 1)) p us e ws A l r B (joint s l e r) (Ok (number (at_side s l r)))) (sym same) (left_as_is T S (h - 1) p i us e ws A l r B u more s many));
  }

  by_choice : JoinsChildren s T T' h p i res → BecameOne ⊎ StayedTwo
  unfolding JoinsChildren
  by_choice did =
      let c = did (number l) (number r) us e ws (row l) (row r) (map number A) (map number B) (map number (kids l)) (map number (kids r)) w.owns.sized (pairs T S (h - 1) p i us e ws A l r B u) in
      let P : Choice → Type 0 = λ x. JoinsAs x s T T' h p i (number l) (number r) res → BecameOne ⊎ StayedTwo in
      cond_both (leb n 11) Merge (cond (ltb m 6) (Move (6 - m)) Leave) P
      (λ x d. inl (one_by_merge (leb-true n 11 x) d))
      (λ x. cond_both (ltb m 6) (Move (6 - m)) Leave P
      (λ y d. inr (two_by_move (leb-false n 11 x) (ltb-true m 6 y) d))
      (λ y d. inr (two_by_leave (leb-false n 11 x) (ltb-false m 6 y) d)))
      c

  module _ (did : JoinsChildren s T T' h p i res) where
    pub not_refused : (f : Fault) → res ≡ Err f → ⊥
    not_refused f q = ⊎_elim (λ (x : BecameOne). err_not_ok f _ (sym q ∙ x.answer)) (λ (x : StayedTwo). err_not_ok f _ (sym q ∙ x.answer)) (by_choice did)

    pub none_left_over : (x : ℕ) → res ≡ Ok (x, None) → Joined s T T' S S h p us e ws A l r B (joint s l e r) (Ok x)
    none_left_over x q =
        ⊎_elim (λ (z : BecameOne). absurd (some_none (number l) (number r) x (sym z.answer ∙ q)))
        (λ (z : StayedTwo). subst (λ y. Joined s T T' S S h p us e ws A l r B (joint s l e r) (Ok y)) (none_same (number (at_side s l r)) x (sym z.answer ∙ q)) z.joined) (by_choice did)

    -- one is left over
    one_left_over : (x y : ℕ) → res ≡ Ok (x, Some y) → BecameOne × (number l ≡ x) × (number r ≡ y)
    one_left_over x y q =
        ⊎_elim (λ (z : BecameOne). let k = some_same (number l) (number r) x y (sym z.answer ∙ q) in (z, k.0, k.1))
        (λ (z : StayedTwo). absurd (some_none x y (number (at_side s l r)) (sym q ∙ z.answer))) (by_choice did)

    -- and given back
    pub given_back : (x y : ℕ) → res ≡ Ok (x, Some y) → (S' : Stock) → Returned S S' y → Joined s T T' S S' h p us e ws A l r B (joint s l e r) (Ok x)
    given_back x y q S' d =
        let (f, a, b) = one_left_over x y q in
        joined_by s T S h p i us e ws A l r B w f.fits T' _ f.did x y (ap Ok (pair_same (number l) (number r) x y a b)) S' d

    pub not_declined_back : (x y : ℕ) → res ≡ Ok (x, Some y) → (S' : Stock) (f : Fault) → Declined S S' y f → ⊥
    not_declined_back x y q S' f d =
        let (z, a, b) = one_left_over x y q in
        not_declined s T S h p i us e ws A l r B w z.fits T' _ z.did x y (ap Ok (pair_same (number l) (number r) x y a b)) S' f d
