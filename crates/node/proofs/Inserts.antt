-- An entry put into a node that has room. Assumes nothing.
use Rattle.std.proofs.Common.{◌≡◌, ℕ, ◌+◌, ◌-◌, ◌*◌, ◌<◌, List, [], ◌∷◌, ◌++◌, length, All, sym, ap, ◌∙◌, subst, arith, length-append}
use Rattle.node.specs.declared.head.Head.{Head}
use Rattle.node.specs.Cells.{span, Put, Run}
use Rattle.node.specs.Store.{tables, Node, Linked, Changed, head_in, first, second, itself}
use Rattle.node.specs.Links.{Adopted}
use Rattle.node.specs.Operations.{Children}
use Rattle.node.proofs.Spans.{span_len}
use Rattle.std.proofs.lemmas.List.Elements.{All-weaker}
use Rattle.node.proofs.Adopts.{times_append}
use Rattle.node.proofs.Runs.{run_insert, edges_insert, edges_part}
use Rattle.node.proofs.Tabled.{Relinked, Kept, rewritten_none, rewritten_set, refit, refit_same, relinked_none, relinked_adopted, kept_none, kept_put, changed_of, node_of, linked_of}

-- keys ks become ks', values vs become vs': an entry e between es and fs of node m, which has n entries
module _ {K V : Type 0} (H : List Head) (ks ks' : List K) (vs vs' : List V) (m : ℕ) (es fs : List (K × V)) (e : K × V) (cs : List ℕ) (i n : ℕ)
    (node : Node (tables H ks vs) m (es ++ fs) cs) (here : length es ≡ i) (room : length (es ++ fs) < 11) (len : (head_in H m).len ≡ n)
    (p : Put ks ks' (11 * m + i) (e.0 ∷ span ks (11 * m + i) (n - i))) (q : Put vs vs' (11 * m + i) (e.1 ∷ span vs (11 * m + i) (n - i))) where
  long : length fs ≡ n - i
  long = omega (arith, node.len_is, length-append es fs)

  pub inserted_len : n + 1 ≡ length (es ++ e ∷ fs)
  inserted_len = omega (arith, node.len_is, length-append es fs, length-append es (e ∷ fs))

  pub inserted_keys : Kept ks ks' (m ∷ [])
  inserted_keys =
      kept_put ks ks ks' [] (11 * m + i) (e.0 ∷ span ks (11 * m + i) (n - i)) m (kept_none ks) p (omega arith)
      (omega (arith, span_len ks (11 * m + i) (n - i), long, length-append es fs))

  pub inserted_values : Kept vs vs' (m ∷ [])
  inserted_values =
      kept_put vs vs vs' [] (11 * m + i) (e.1 ∷ span vs (11 * m + i) (n - i)) m (kept_none vs) q (omega arith)
      (omega (arith, span_len vs (11 * m + i) (n - i), long, length-append es fs))

  -- whatever the edges become, and whichever links are corrected after that
  module _ (edges : List ℕ) (F : List Head) (ls : List ℕ) (r : Relinked (refit H m (n + 1) edges) F ls) where
    pub inserted_node : (ds : List ℕ) → Run itself edges 0 ds → Node (tables F ks' vs') m (es ++ e ∷ fs) ds
    inserted_node ds w =
        let s = refit_same H m (n + 1) edges node.inside in
        node_of H (refit H m (n + 1) edges) F ks ks' vs vs' ls r m (es ++ e ∷ fs) ds
        (omega (arith, node.inside, (rewritten_set H H [] (rewritten_none H) m (n + 1) edges node.inside).size))
        (omega (arith, length-append es fs, length-append es (e ∷ fs)))
        (s.0 ∙ inserted_len)
        (subst (λ (x : List ℕ). Run itself x 0 ds) (sym s.1) w)
        (run_insert first ks ks' (11 * m) es fs e i (n - i) node.keys_are here long p)
        (run_insert second vs vs' (11 * m) es fs e i (n - i) node.values_are here long q)

    pub inserted_rest : Changed (tables H ks vs) (tables F ks' vs') (m ∷ []) ls
    inserted_rest =
        changed_of H (refit H m (n + 1) edges) F ks ks' vs vs' (m ∷ []) ls
        (rewritten_set H H [] (rewritten_none H) m (n + 1) edges node.inside) r inserted_keys inserted_values

-- with an edge to c behind the entry: the edges of m become edges
module _ {K V : Type 0} (H : List Head) (ks ks' : List K) (vs vs' : List V) (m : ℕ) (es fs : List (K × V)) (e : K × V) (cs ds : List ℕ) (c i n : ℕ)
    (node : Node (tables H ks vs) m (es ++ fs) (cs ++ ds)) (here : length es ≡ i) (left : length cs ≡ i + 1) (right : length ds ≡ length fs) (room : length (es ++ fs) < 11)
    (len : (head_in H m).len ≡ n) (edges : List ℕ) (put : Put (head_in H m).edges edges (i + 1) (c ∷ span (head_in H m).edges (i + 1) (n - i))) where
  abbrev G : List Head
  G = refit H m (n + 1) edges

  run : Run itself edges 0 (cs ++ c ∷ ds)
  run = edges_insert (head_in H m).edges edges cs ds c (i + 1) (n - i) node.edges_are left (omega (arith, node.len_is, length-append es fs)) put

  -- the edges whose children are corrected
  moved : span (head_in G m).edges (i + 1) (n + 2 - (i + 1)) ≡ c ∷ ds
  moved =
      ap (λ x. span x (i + 1) (n + 2 - (i + 1))) (refit_same H m (n + 1) edges node.inside).1
      ∙ edges_part edges cs (c ∷ ds) (i + 1) (n + 2 - (i + 1)) run left (omega (arith, node.len_is, length-append es fs))

  module _ (kids : Children (tables H ks vs) (c ∷ ds)) where
    pub edge_inside : All (λ x. x < length G) (span (head_in G m).edges (i + 1) (n + 2 - (i + 1)))
    edge_inside =
        let size = (rewritten_set H H [] (rewritten_none H) m (n + 1) edges node.inside).size in
        subst (λ (xs : List ℕ). All (λ x. x < length G) xs) (sym moved) (All-weaker (λ x. x < length H) (λ x. x < length G) (λ x l. omega arith) (c ∷ ds) kids.inside)

    module _ (F : List Head) (a : Adopted G F m (i + 1) (span (head_in G m).edges (i + 1) (n + 2 - (i + 1))))
        (p : Put ks ks' (11 * m + i) (e.0 ∷ span ks (11 * m + i) (n - i))) (q : Put vs vs' (11 * m + i) (e.1 ∷ span vs (11 * m + i) (n - i))) where
      adopted : Adopted G F m (i + 1) (c ∷ ds)
      adopted = subst (λ (xs : List ℕ). Adopted G F m (i + 1) xs) moved a

      pub edge_inserted : Node (tables F ks' vs') m (es ++ e ∷ fs) (cs ++ c ∷ ds) × Linked (tables F ks' vs') m (i + 1) (c ∷ ds) × Changed (tables H ks vs) (tables F ks' vs') (m ∷ []) (c ∷ ds)
      edge_inserted =
          let r = relinked_adopted G F m (i + 1) (c ∷ ds) adopted in (
            inserted_node H ks ks' vs vs' m es fs e (cs ++ ds) i n node here room len p q edges F (c ∷ ds) r (cs ++ c ∷ ds) run,
            linked_of G F F ks' vs' m (i + 1) (c ∷ ds) [] adopted (relinked_none F) (λ x. omega (arith, kids.once x, times_append x (c ∷ ds) [])),
            inserted_rest H ks ks' vs vs' m es fs e (cs ++ ds) i n node here room len p q edges F (c ∷ ds) r,
          )
