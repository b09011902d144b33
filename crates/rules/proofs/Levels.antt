-- The top of a tree: a new root leaf, and a root put above another. Assumes nothing.
use Rattle.std.proofs.Common.{◌≡◌, ℕ, zero, suc, ◌<◌, List, [], ◌∷◌, length, take, set, refl, ap, ◌∙◌, arith, length-set, get_or-set_other, get_or-set_same}
use Rattle.node.specs.declared.head.Head.{Head}
use Rattle.node.specs.Store.{tables, Node, Linked, Changed, head_in, no_head}
use Rattle.node.specs.Balance.{Rooted}
use Rattle.node.specs.Levels.{new_leaf, push_level}
use Rattle.node.proofs.Adopts.{times_one, kept_by_set}
use Rattle.rules.specs.Levels.{LevelsStand}

set_first : (es : List ℕ) (c : ℕ) → 0 < length es → take 1 (set es 0 c) ≡ c ∷ []
set_first [] c l = absurd (omega arith)
set_first (e ∷ es) c l = refl

module _ {K V : Type 0} (H : List Head) (ks : List K) (vs : List V) (m : ℕ) (m-in : m < length H) where
  abbrev leaf_head : Head
  leaf_head = record { parent = 65535; place = 0; len = 0; edges = (head_in H m).edges }

  pub leaf_changed : Changed (tables H ks vs) (tables (new_leaf H m) ks vs) (m ∷ []) (m ∷ [])
  leaf_changed = record {
    heads_len = length-set H m leaf_head;
    keys_len = refl;
    values_len = refl;
    bodies = λ x z. record {
      len_same = ap (λ h. h.len) (get_or-set_other H m x leaf_head no_head (times_one x m z));
      edges_same = ap (λ h. h.edges) (get_or-set_other H m x leaf_head no_head (times_one x m z));
      keys_same = refl;
      values_same = refl;
    };
    links = λ x z. record {
      parent_same = ap (λ h. h.parent) (get_or-set_other H m x leaf_head no_head (times_one x m z));
      place_same = ap (λ h. h.place) (get_or-set_other H m x leaf_head no_head (times_one x m z));
    };
  }

  pub leaf_node : Node (tables (new_leaf H m) ks vs) m [] []
  leaf_node = record {
    inside = omega (arith, length-set H m leaf_head);
    few = omega arith;
    len_is = ap (λ h. h.len) (get_or-set_same H m leaf_head no_head m-in);
    keys_are = refl;
    values_are = refl;
    edges_are = refl;
  }

  pub leaf_root : Rooted (tables (new_leaf H m) ks vs) m
  leaf_root = ap (λ h. h.parent) (get_or-set_same H m leaf_head no_head m-in)

  module _ (c : ℕ) (c-in : c < length H) (other : m ≡ c → ⊥) (room : 0 < length (head_in H m).edges) where
    abbrev top_head : Head
    top_head = record { parent = 65535; place = 0; len = 0; edges = set (head_in H m).edges 0 c }

    abbrev G : List Head
    G = set H m top_head

    abbrev child_head : Head
    child_head = record { parent = m; place = 0; len = (head_in G c).len; edges = (head_in G c).edges }

    there : c < length G
    there = omega (arith, length-set H m top_head)

    at_top : head_in (push_level H c m) m ≡ top_head
    at_top = get_or-set_other G c m child_head no_head other ∙ get_or-set_same H m top_head no_head m-in

    pub push_changed : Changed (tables H ks vs) (tables (push_level H c m) ks vs) (m ∷ []) (m ∷ c ∷ [])
    push_changed = record {
      heads_len = length-set G c child_head ∙ length-set H m top_head;
      keys_len = refl;
      values_len = refl;
      bodies = λ x z.
          let away = get_or-set_other H m x top_head no_head (times_one x m z) in
          record {
            len_same = kept_by_set (λ h. h.len) G c child_head refl there x ∙ ap (λ h. h.len) away;
            edges_same = kept_by_set (λ h. h.edges) G c child_head refl there x ∙ ap (λ h. h.edges) away;
            keys_same = refl;
            values_same = refl;
          };
      links = λ x z.
          let away = get_or-set_other G c x child_head no_head (times_one x c (omega arith)) ∙ get_or-set_other H m x top_head no_head (times_one x m (omega arith)) in
          record { parent_same = ap (λ h. h.parent) away; place_same = ap (λ h. h.place) away };
    }

    pub push_node : Node (tables (push_level H c m) ks vs) m [] (c ∷ [])
    push_node = record {
      inside = omega (arith, length-set G c child_head, length-set H m top_head);
      few = omega arith;
      len_is = ap (λ h. h.len) at_top;
      keys_are = refl;
      values_are = refl;
      edges_are = ap (λ h. take 1 h.edges) at_top ∙ set_first (head_in H m).edges c room;
    }

    pub push_root : Rooted (tables (push_level H c m) ks vs) m
    push_root = ap (λ h. h.parent) at_top

    pub push_linked : Linked (tables (push_level H c m) ks vs) m 0 (c ∷ [])
    push_linked zero l =
        let e = get_or-set_same G c child_head no_head there in
        record { parent_is = ap (λ h. h.parent) e; place_is = ap (λ h. h.place) e }
    push_linked (suc j) l = absurd (omega arith)

pub levels_stand : {K V : Type 0} → LevelsStand K V
levels_stand = record {
  leaf = λ H ks vs m l. (leaf_node H ks vs m l, leaf_root H ks vs m l, leaf_changed H ks vs m l);
  push = λ H ks vs m c m-in c-in other room. (
    push_node H ks vs m m-in c c-in other room,
    push_root H ks vs m m-in c c-in other room,
    push_linked H ks vs m m-in c c-in other room,
    push_changed H ks vs m m-in c c-in other room,
  );
}
