-- A node after a write to one of its values. Assumes nothing.
use Rattle.std.proofs.Common.{◌≡◌, ℕ, ◌+◌, ◌*◌, ◌<◌, List, [], ◌∷◌, ◌++◌, length, set, sym, refl, ◌∙◌, arith, length-append}
use Rattle.node.specs.declared.head.Head.{Head}
use Rattle.node.specs.Cells.{Put}
use Rattle.node.specs.Store.{tables, Sized, Node, Changed, first, second}
use Rattle.node.proofs.Spans.{written}
use Rattle.node.proofs.Adopts.{times_one}
use Rattle.node.proofs.Runs.{put_others, run_next, run_changed}

module _ {K V : Type 0} (hs : List Head) (ks : List K) (vs : List V) (m i : ℕ) (v : V) (es : List (K × V)) (e : K × V) (fs : List (K × V)) (cs : List ℕ)
    (sized : Sized (tables hs ks vs)) (n : Node (tables hs ks vs) m (es ++ e ∷ fs) cs) (p : length es ≡ i) where
  pub low_index : i < 11
  low_index = omega (arith, n.few, length-append es (e ∷ fs))

  pub room : 11 * m + i < length vs
  room = omega (arith, low_index, n.inside, sized.values_room)

  cell : Put vs (set vs (11 * m + i) v) (11 * m + i) (v ∷ [])
  cell = written vs (11 * m + i) v room

  long : length (es ++ (first e, v) ∷ fs) ≡ length (es ++ e ∷ fs)
  long = length-append es ((first e, v) ∷ fs) ∙ sym (length-append es (e ∷ fs))

  pub value_written : Node (tables hs ks (set vs (11 * m + i) v)) m (es ++ (first e, v) ∷ fs) cs
  value_written = record {
    inside = n.inside;
    few = omega (arith, long, n.few);
    len_is = n.len_is ∙ sym long;
    keys_are = run_changed first ks ks (11 * m) es e (first e, v) fs i p n.keys_are refl (run_next first ks (11 * m) es e fs i p n.keys_are).1 refl;
    values_are = run_changed second vs (set vs (11 * m + i) v) (11 * m) es e (first e, v) fs i p n.values_are
        (cell.before (11 * m) i (omega arith)) cell.here (cell.behind (11 * m + i + 1) (length fs) (omega arith));
    edges_are = n.edges_are;
  }

  pub rest_kept : Changed (tables hs ks vs) (tables hs ks (set vs (11 * m + i) v)) (m ∷ []) []
  rest_kept = record {
    heads_len = refl;
    keys_len = refl;
    values_len = cell.size;
    bodies = λ x z. record {
      len_same = refl;
      edges_same = refl;
      keys_same = refl;
      values_same = put_others vs (set vs (11 * m + i) v) (11 * m + i) (v ∷ []) m cell (omega arith) (omega (arith, low_index)) x (times_one x m z);
    };
    links = λ x z. record { parent_same = refl; place_same = refl };
  }
