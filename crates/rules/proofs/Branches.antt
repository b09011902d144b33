-- Nodes with their children in the tables, before and after a change. Assumes nothing.
use Rattle.std.proofs.Common.{◌≡◌, ℕ, zero, suc, ◌+◌, ◌-◌, ◌<◌, ◌≤◌, List, [], ◌∷◌, map, length, All, sym, refl, ap, ◌∙◌, subst, arith}
use lib.ListN.{length-map}
use Rattle.std.proofs.lemmas.List.{nil_from_length}
use Rattle.std.proofs.lemmas.List.Elements.{All-nil, All-cons, All-head, All-tail}
use Rattle.node.specs.Shape.{Tree, number, row, kids, mk, total, weigh}
use Rattle.node.specs.Store.{Tables, Node, Holds, times}
use Rattle.node.specs.Operations.{Children}
use Rattle.node.specs.Laws.{occurs, below, same}
use Rattle.node.proofs.Frames.{holds_node, holds_leaf, holds_fan, holds_linked, holds_kids, holds_from, holds_from_leaf}
use Rattle.node.proofs.Numbers.{occurs_parts, occurs_mk, tops_occur}
use Rattle.node.proofs.Weaves.{trees_forest}
use Rattle.rules.specs.Held.{Held, HeldStands}

module _ {K V : Type 0} where
  pub held_from : (T : Tables K V) (h : ℕ) (t : Tree (K × V)) → Holds T h t → Held T h (number t) (row t) (kids t)
  held_from T zero t w = record {
    body = holds_node T zero t w;
    fan = record { leaf = λ z. none; inner = λ z. absurd (omega arith) };
    linked = λ j l. absurd (omega (arith, length-map (kids t) number, none));
    all = subst (λ ts. All (Holds T (0 - 1)) ts) (sym (nil_from_length (kids t) none)) (All-nil (Holds T (0 - 1)));
  }
    where
      none : length (kids t) ≡ 0
      none = (holds_leaf T t w).1
  held_from T (suc h) t w = record {
    body = holds_node T (suc h) t w;
    fan = record { leaf = λ z. absurd (omega arith); inner = λ z. omega (arith, holds_fan T h t w) };
    linked = holds_linked T h t w;
    all = subst (λ k. All (Holds T k) (kids t)) (let e : h ≡ suc h - 1 = omega arith in e) (holds_kids T h t w);
  }

  pub held_to : (T : Tables K V) (h m : ℕ) (es : List (K × V)) (ts : List (Tree (K × V))) → Held T h m es ts → Holds T h (mk m es ts)
  held_to T zero m es ts w =
      let z : ts ≡ [] = nil_from_length ts (w.fan.leaf refl) in
      subst (λ us. Holds T zero (mk m es us)) (sym z) (holds_from_leaf T m es (subst (λ us. Node T m es (map number us)) z w.body))
  held_to T (suc h) m es ts w =
      holds_from T h m es ts w.body (omega (arith, w.fan.inner (omega arith))) w.linked
      (subst (λ k. All (Holds T k) ts) (let e : suc h - 1 ≡ h = omega arith in e) w.all)

  pub held_stands : HeldStands K V
  held_stands = record { from = held_from; to = held_to }

module _ {E : Type 0} where
  -- how often a number stands in a node and its children
  pub occurs_held : (x h m : ℕ) (es : List E) (ts : List (Tree E)) → (h ≡ 0 → length ts ≡ 0) → occurs x h (mk m es ts) ≡ same x m + total (occurs x (h - 1)) ts
  unfolding weigh
  occurs_held x zero m es ts z = let e : ts ≡ [] = nil_from_length ts (z refl) in let s : total (occurs x (0 - 1)) ts ≡ 0 = ap (total (occurs x (0 - 1))) e in omega arith
  occurs_held x (suc h) m es ts z =
      occurs_mk x h m es ts ∙ ap (λ k. same x m + total (occurs x k) ts) (let e : h ≡ suc h - 1 = omega arith in e)

  -- at the top of some trees, or below
  pub tops_parts : (x h : ℕ) (ts : List (Tree E)) → total (occurs x h) ts ≡ times x (map number ts) + total (below x h) ts
  tops_parts x h [] = refl
  tops_parts x h (t ∷ ts) = omega (arith, occurs_parts x h t, tops_parts x h ts)

module _ {K V : Type 0} where
  pub tops_inside : (T : Tables K V) (h : ℕ) (ts : List (Tree (K × V))) → All (Holds T h) ts → All (λ x. x < length T.heads) (map number ts)
  tops_inside T h [] a = All-nil (λ x. x < length T.heads)
  tops_inside T h (t ∷ ts) a =
      All-cons (λ x. x < length T.heads) (number t) (map number ts) (holds_node T h t (All-head (Holds T h) t ts a)).inside (tops_inside T h ts (All-tail (Holds T h) t ts a))

  -- children that are different nodes
  pub tops_children : (T : Tables K V) (h : ℕ) (ts : List (Tree (K × V))) → All (Holds T h) ts → ((x : ℕ) → total (occurs x h) ts ≤ 1) → Children T (map number ts)
  tops_children T h ts a o = record { inside = tops_inside T h ts a; once = λ x. omega (arith, o x, tops_occur x h ts) }

  -- a tree by its parts
  pub held_mk : (T : Tables K V) (h m : ℕ) (es : List (K × V)) (ts : List (Tree (K × V))) → Holds T h (mk m es ts) → Held T h m es ts
  held_mk T h m es ts w = subst (λ us. Held T h m es us) (trees_forest ts) (held_from T h (mk m es ts) w)
