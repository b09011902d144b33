-- Two neighbours with their children, before and after a change. Assumes nothing.
use Rattle.std.proofs.Common.{◌≡◌, ℕ, zero, suc, ◌+◌, ◌-◌, ◌<◌, ◌≤◌, List, [], ◌∷◌, ◌++◌, map, length, get_or, take, drop, Ok, All, Result, sym, refl, ap, ◌∙◌, subst, arith, length-append, length-drop, take-append-drop, length-take}
use lib.ListN.{length-map}
use lib.Seq.{split_at}
use Rattle.std.proofs.lemmas.List.Elements.{All-cons, All-head, All-tail, All-append, All-take, All-drop}
use Rattle.std.proofs.lemmas.List.{nil_from_length, map-append}
use Rattle.supply.specs.declared.faults.Fault.{Fault}
use Rattle.supply.specs.Stocks.{Stock, Returned}
use Rattle.node.specs.Shape.{Tree, number, row, kids, mk, total}
use Rattle.node.specs.Store.{Tables, Node, Linked, Holds, SameLink, Changed, times}
use Rattle.node.specs.Operations.{Fan, Pairs, Merges, StealsLeft, StealsRight}
use Rattle.node.specs.Laws.{occurs, same}
use Rattle.node.specs.declared.ends.Side.TheVariants.{First, Last}
use Rattle.node.specs.Rules.{merged, moved}
use Rattle.parts.specs.Rules.{fill}
use Rattle.node.specs.Balance.{mark, Beside}
use Rattle.node.proofs.Adopts.{times_append}
use Rattle.node.proofs.Balances.{mark_most, guard_most, balanced_as, balanced_none, balanced_returned, beside_changed}
use Rattle.node.proofs.Frames.{holds_node, holds_fan, holds_linked, holds_kids, holds_from, linked_parts, linked_append, linked_kept, all_kept}
use Rattle.node.proofs.Numbers.{same_self, occurs_parts, occurs_mk, tops_occur}
use Rattle.node.proofs.Tabled.{fan_at}
use Rattle.node.proofs.Weaves.{trees_forest, total_append, total_cut, all_front, all_back}
use Rattle.rules.specs.Held.{Held}
use Rattle.rules.proofs.Branches.{held_from, held_to, occurs_held, tops_parts, tops_inside}
use Rattle.repair.specs.Repair.{Became}
use Rattle.repair.specs.Joint.{Neighbours}

-- a tree's root and its children
pub occurs_kids : {E : Type 0} (x h : ℕ) (t : Tree E) → (h ≡ 0 → length (kids t) ≡ 0) → occurs x h t ≡ same x (number t) + total (occurs x (h - 1)) (kids t)
occurs_kids x zero t z =
    let s : total (occurs x (0 - 1)) (kids t) ≡ 0 = ap (total (occurs x (0 - 1))) (nil_from_length (kids t) (z refl)) in
    omega (arith, occurs_parts x zero t)
occurs_kids x (suc h) t z = occurs_parts x (suc h) t ∙ ap (λ k. same x (number t) + total (occurs x k) (kids t)) (let e : h ≡ suc h - 1 = omega arith in e)

-- a fan by the numbers of the children, as the operations on their parent want it
fan_as : {E : Type 0} (h n : ℕ) (ts : List (Tree E)) → Fan h n (length ts) → Fan (suc h - 1) n (length (map number ts))
fan_as h n ts f =
    fan_at h (suc h - 1) n (length (map number ts)) (omega arith) (record { leaf = λ z. length-map ts number ∙ f.leaf z; inner = λ z. length-map ts number ∙ f.inner z })

module _ {K V : Type 0} (T : Tables K V) (S : Stock) (h p i : ℕ) (us : List (K × V)) (e : K × V) (ws : List (K × V)) (A : List (Tree (K × V))) (l r : Tree (K × V)) (B : List (Tree (K × V)))
    (w : Neighbours T S (suc h) p i us e ws A l r B) where
  abbrev n_a : List ℕ
  n_a = map number A

  abbrev n_b : List ℕ
  n_b = map number B

  abbrev nl : ℕ
  nl = number l

  abbrev nr : ℕ
  nr = number r

  abbrev kl : List ℕ
  kl = map number (kids l)

  abbrev kr : List ℕ
  kr = map number (kids r)

  abbrev old : Tree (K × V)
  old = mk p (us ++ e ∷ ws) (A ++ l ∷ r ∷ B)

  abbrev top : ℕ → List (Tree (K × V)) → ℕ
  top x ts = total (occurs x h) ts

  abbrev low : ℕ → List (Tree (K × V)) → ℕ
  low x ts = total (occurs x (h - 1)) ts

  holds : Holds T (suc h) old
  holds = w.owns.holds

  same_kids : kids old ≡ A ++ l ∷ r ∷ B
  same_kids = trees_forest (A ++ l ∷ r ∷ B)

  all_kids : All (Holds T h) (A ++ l ∷ r ∷ B)
  all_kids = subst (All (Holds T h)) same_kids (holds_kids T h old holds)

  held_a : All (Holds T h) A
  held_a = all_front (Holds T h) A (l ∷ r ∷ B) all_kids

  held_rest : All (Holds T h) (l ∷ r ∷ B)
  held_rest = all_back (Holds T h) A (l ∷ r ∷ B) all_kids

  held_b : All (Holds T h) B
  held_b = All-tail (Holds T h) r B (All-tail (Holds T h) l (r ∷ B) held_rest)

  pub held_l_lem : Held T h nl (row l) (kids l)
  held_l_lem = held_from T h l (All-head (Holds T h) l (r ∷ B) held_rest)

  pub held_r : Held T h nr (row r) (kids r)
  held_r = held_from T h r (All-head (Holds T h) r B (All-tail (Holds T h) l (r ∷ B) held_rest))

  names : map number (kids old) ≡ n_a ++ nl ∷ nr ∷ n_b
  names = ap (map number) same_kids ∙ map-append number A (l ∷ r ∷ B)

  pub body : Node T p (us ++ e ∷ ws) (n_a ++ nl ∷ nr ∷ n_b)
  body = subst (λ ks. Node T p (us ++ e ∷ ws) ks) names (holds_node T (suc h) old holds)

  linked : Linked T p 0 (n_a ++ nl ∷ nr ∷ n_b)
  linked = subst (λ ks. Linked T p 0 ks) names (holds_linked T h old holds)

  long : length A + suc (suc (length B)) ≡ suc (length us + suc (length ws))
  long = sym (length-append A (l ∷ r ∷ B)) ∙ sym (ap length same_kids) ∙ holds_fan T h old holds ∙ ap suc (length-append us (e ∷ ws))

  pub rest : length B ≡ length ws
  rest = omega (arith, long, w.here, w.edges_here)

  -- each number stands once
  whole : (x : ℕ) → occurs x (suc h) old ≡ same x p + (top x A + (same x nl + (low x (kids l) + (same x nr + (low x (kids r) + top x B)))))
  whole x =
      omega (arith, occurs_mk x h p (us ++ e ∷ ws) (A ++ l ∷ r ∷ B), total_append (occurs x h) A (l ∷ r ∷ B), occurs_kids x h l held_l_lem.fan.leaf, occurs_kids x h r held_r.fan.leaf)

  pub sum : (x : ℕ) → same x p + (top x A + (same x nl + (low x (kids l) + (same x nr + (low x (kids r) + top x B))))) ≤ mark S x
  sum x = omega (arith, whole x, w.owns.owned x)

  left_other : nl ≡ p → ⊥
  left_other z = omega (arith, sum p, same_self p, ap (same p) z, mark_most S p)

  right_other : nr ≡ p → ⊥
  right_other z = omega (arith, sum p, same_self p, ap (same p) z, mark_most S p)

  differ : nl ≡ nr → ⊥
  differ z = omega (arith, sum nl, same_self nl, ap (same nl) z, mark_most S nl)

  pub pairs : Pairs T p i nl nr us e ws (row l) (row r) n_a n_b kl kr
  pairs = record {
    parent = body;
    left = held_l_lem.body;
    right = held_r.body;
    here = w.here;
    edges_here = length-map A number ∙ w.edges_here;
    edges_rest = length-map B number ∙ rest;
    left_other = left_other;
    right_other = right_other;
    differ = differ;
  }

  -- after a change of the three nodes, and of links among their children
  module _ (T' : Tables K V) (bs ls : List ℕ) (c : Changed T T' bs ls) (in-bs : (x : ℕ) → times x bs ≤ same x p + (same x nl + same x nr))
      (in-ls : (x : ℕ) → times x ls ≤ times x kl + (times x kr + times x n_b)) where
    tops : (x : ℕ) → (times x kl ≤ low x (kids l)) × (times x kr ≤ low x (kids r)) × (times x n_b ≤ top x B)
    tops x = (tops_occur x (h - 1) (kids l), tops_occur x (h - 1) (kids r), tops_occur x h B)

    kept_a : All (Holds T' h) A
    kept_a =
        all_kept T T' bs ls h A c (λ x q. omega (arith, sum x, in-bs x, mark_most S x)) (λ x q. omega (arith, sum x, in-ls x, tops x, tops_parts x h A, mark_most S x)) held_a

    kept_b : All (Holds T' h) B
    kept_b =
        all_kept T T' bs ls h B c (λ x q. omega (arith, sum x, in-bs x, mark_most S x)) (λ x q. omega (arith, sum x, in-ls x, tops x, tops_parts x h B, mark_most S x)) held_b

    pub kept_l : All (Holds T' (h - 1)) (kids l)
    kept_l =
        all_kept T T' bs ls (h - 1) (kids l) c (λ x q. omega (arith, sum x, in-bs x, mark_most S x)) (λ x q. omega (arith, sum x, in-ls x, tops x, tops_parts x (h - 1) (kids l), mark_most S x)) held_l_lem.all

    pub kept_r : All (Holds T' (h - 1)) (kids r)
    kept_r =
        all_kept T T' bs ls (h - 1) (kids r) c (λ x q. omega (arith, sum x, in-bs x, mark_most S x)) (λ x q. omega (arith, sum x, in-ls x, tops x, tops_parts x (h - 1) (kids r), mark_most S x)) held_r.all

    beside : Beside T T' S (λ x. occurs x (suc h) old)
    beside =
        beside_changed T T' S (λ x. occurs x (suc h) old) bs ls c (λ x q. omega (arith, whole x, in-bs x, guard_most S x)) (λ x q. omega (arith, whole x, in-ls x, tops x, guard_most S x))

    pub same_link : SameLink T T' p
    same_link = c.links p (omega (arith, sum p, same_self p, in-ls p, tops p, mark_most S p))

    linked_a : Linked T' p 0 n_a
    linked_a =
        linked_kept T T' bs ls p 0 n_a c (λ x q. omega (arith, sum x, in-ls x, tops x, tops_occur x h A, mark_most S x))
        (linked_parts T p 0 n_a (nl ∷ nr ∷ n_b) linked).0

    abbrev at : ℕ
    at = 0 + length n_a

    linked_l : Linked T' p at (nl ∷ [])
    linked_l =
        linked_kept T T' bs ls p at (nl ∷ []) c (λ x q. omega (arith, sum x, in-ls x, tops x, mark_most S x))
        (linked_parts T p at (nl ∷ []) (nr ∷ n_b) (linked_parts T p 0 n_a (nl ∷ nr ∷ n_b) linked).1).0

  -- ---- both merged into the left one

  module _ (T' : Tables K V) (res : Result (ℕ × ℕ) Fault) (did : Merges T T' (suc h) p i res) (fit : length (row l) + length (row r) + 1 ≤ 11) where
    pub merge_done : (res ≡ Ok (nl, nr)) × Node T' p (us ++ ws) (n_a ++ nl ∷ n_b) × Node T' nl (row l ++ e ∷ row r) (kl ++ kr) × Linked T' p (i + 1) n_b × Linked T' nl (length kl) kr
        × Changed T T' (nl ∷ p ∷ []) (n_b ++ kr)
    unfolding Merges
    merge_done =
        did nl nr us e ws (row l) (row r) n_a n_b kl kr w.owns.sized pairs (omega arith)
        (fan_as h (length (row l)) (kids l) held_l_lem.fan)
        (fan_as h (length (row r)) (kids r) held_r.fan)
        fit
        (record {
          inside = All-append (λ c. c < length T.heads) n_b kr (tops_inside T h B held_b) (tops_inside T (h - 1) (kids r) held_r.all);
          once = λ x. omega (arith, sum x, times_append x n_b kr, tops_occur x h B, tops_occur x (h - 1) (kids r), mark_most S x);
        })

    abbrev bs₁ : List ℕ
    bs₁ = nl ∷ p ∷ []

    abbrev ls₁ : List ℕ
    ls₁ = n_b ++ kr

    in_bs₁ : (x : ℕ) → times x bs₁ ≤ same x p + (same x nl + same x nr)
    in_bs₁ x = omega arith

    in_ls₁ : (x : ℕ) → times x ls₁ ≤ times x kl + (times x kr + times x n_b)
    in_ls₁ x = omega (arith, times_append x n_b kr)

    c₁ : Changed T T' bs₁ ls₁
    c₁ = merge_done.5

    merged_held : Held T' h nl (row l ++ e ∷ row r) (kids l ++ kids r)
    merged_held = record {
      body = subst (λ ks. Node T' nl (row l ++ e ∷ row r) ks) (sym (map-append number (kids l) (kids r))) merge_done.2;
      fan = record {
        leaf = λ z. omega (arith, length-append (kids l) (kids r), held_l_lem.fan.leaf z, held_r.fan.leaf z);
        inner = λ z. omega (arith, length-append (kids l) (kids r), held_l_lem.fan.inner z, held_r.fan.inner z, length-append (row l) (e ∷ row r));
      };
      linked = subst (λ ks. Linked T' nl 0 ks) (sym (map-append number (kids l) (kids r)))
          (linked_append T' nl 0 kl kr
          (linked_kept T T' bs₁ ls₁ nl 0 kl c₁ (λ x q. omega (arith, sum x, in_ls₂ x, tops_occur x (h - 1) (kids l), tops_occur x (h - 1) (kids r), tops_occur x h B, mark_most S x)) held_l_lem.linked)
          (subst (λ n. Linked T' nl n kr) (let z : length kl ≡ 0 + length kl = omega arith in z) merge_done.4));
      all = All-append (Holds T' (h - 1)) (kids l) (kids r) (kept_l T' bs₁ ls₁ c₁ in_bs₁ in_ls₁) (kept_r T' bs₁ ls₁ c₁ in_bs₁ in_ls₁);
    }
      where
        in_ls₂ : (x : ℕ) → times x ls₁ ≡ times x n_b + times x kr
        in_ls₂ x = times_append x n_b kr

    abbrev one : Tree (K × V)
    one = mk p (us ++ ws) (A ++ merged l e r ∷ B)

    one_held : Holds T' (suc h) one
    one_held =
        holds_from T' h p (us ++ ws) (A ++ merged l e r ∷ B)
        (subst (λ ks. Node T' p (us ++ ws) ks) (sym joined) merge_done.1)
        (omega (arith, length-append A (merged l e r ∷ B), length-append us ws, rest, w.here, w.edges_here))
        (subst (λ ks. Linked T' p 0 ks) (sym joined)
        (linked_append T' p 0 n_a (nl ∷ n_b) (linked_a T' bs₁ ls₁ c₁ in_bs₁ in_ls₁)
        (linked_append T' p (0 + length n_a) (nl ∷ []) n_b (linked_l T' bs₁ ls₁ c₁ in_bs₁ in_ls₁)
        (subst (λ n. Linked T' p n n_b) (let z : i + 1 ≡ 0 + length n_a + 1 = omega (arith, length-map A number, w.edges_here) in z) merge_done.3))))
        (All-append (Holds T' h) A (merged l e r ∷ B) (kept_a T' bs₁ ls₁ c₁ in_bs₁ in_ls₁)
        (All-cons (Holds T' h) (merged l e r) B (held_to T' h nl (row l ++ e ∷ row r) (kids l ++ kids r) merged_held) (kept_b T' bs₁ ls₁ c₁ in_bs₁ in_ls₁)))
      where
        joined : map number (A ++ merged l e r ∷ B) ≡ n_a ++ nl ∷ n_b
        joined = map-append number A (merged l e r ∷ B)

    one_occurs : (x : ℕ) → occurs x (suc h) old ≡ same x nr + occurs x (suc h) one
    one_occurs x =
        omega (
          arith,
          whole x,
          occurs_mk x h p (us ++ ws) (A ++ merged l e r ∷ B),
          total_append (occurs x h) A (merged l e r ∷ B),
          occurs_held x h nl (row l ++ e ∷ row r) (kids l ++ kids r) merged_held.fan.leaf,
          total_append (occurs x (h - 1)) (kids l) (kids r),
        )

    pub merge_became : (S' : Stock) → Returned S S' nr → Became T T' S S' (suc h) old (suc h) one
    merge_became S' d = record {
      holds = one_held;
      balanced = balanced_as S S' (λ x. same x nr + occurs x (suc h) one) (λ x. occurs x (suc h) one) (λ x. occurs x (suc h) old) (λ x. occurs x (suc h) one)
          (λ x. omega (arith, one_occurs x)) (balanced_returned S S' nr (λ x. occurs x (suc h) one) d);
      beside = beside T' bs₁ ls₁ c₁ in_bs₁ in_ls₁;
    }

    pub merge_link : SameLink T T' p
    merge_link = same_link T' bs₁ ls₁ c₁ in_bs₁ in_ls₁

  -- ---- two again, with entries moved over between them

  module _ (T' : Tables K V) (x : K × V) (es fs : List (K × V)) (tl tr : List (Tree (K × V))) (ls : List ℕ) (parent : Node T' p (us ++ x ∷ ws) (n_a ++ nl ∷ nr ∷ n_b))
      (left : Held T' h nl es tl) (right : Held T' h nr fs tr) (c : Changed T T' (nr ∷ nl ∷ p ∷ []) ls) (in-ls : (y : ℕ) → times y ls ≤ times y kl + times y kr)
      (sums : (y : ℕ) → low y tl + low y tr ≡ low y (kids l) + low y (kids r)) where
    abbrev bs₂ : List ℕ
    bs₂ = nr ∷ nl ∷ p ∷ []

    in_bs₂ : (y : ℕ) → times y bs₂ ≤ same y p + (same y nl + same y nr)
    in_bs₂ y = omega arith

    in_ls₂ : (y : ℕ) → times y ls ≤ times y kl + (times y kr + times y n_b)
    in_ls₂ y = omega (arith, in-ls y)

    abbrev two : Tree (K × V)
    two = mk p (us ++ x ∷ ws) (A ++ mk nl es tl ∷ mk nr fs tr ∷ B)

    two_linked : Linked T' p 0 (n_a ++ nl ∷ nr ∷ n_b)
    two_linked =
        linked_kept T T' bs₂ ls p 0 (n_a ++ nl ∷ nr ∷ n_b) c
        (λ y q. omega (arith, sum y, in-ls y, times_append y n_a (nl ∷ nr ∷ n_b), tops_occur y h A, tops_occur y h B, tops_occur y (h - 1) (kids l), tops_occur y (h - 1) (kids r), mark_most S y))
        linked

    two_held : Holds T' (suc h) two
    two_held =
        holds_from T' h p (us ++ x ∷ ws) (A ++ mk nl es tl ∷ mk nr fs tr ∷ B)
        (subst (λ ks. Node T' p (us ++ x ∷ ws) ks) (sym joined) parent)
        (omega (arith, length-append A (mk nl es tl ∷ mk nr fs tr ∷ B), length-append us (x ∷ ws), rest, w.here, w.edges_here))
        (subst (λ ks. Linked T' p 0 ks) (sym joined) two_linked)
        (All-append (Holds T' h) A (mk nl es tl ∷ mk nr fs tr ∷ B) (kept_a T' bs₂ ls c in_bs₂ in_ls₂)
        (All-cons (Holds T' h) (mk nl es tl) (mk nr fs tr ∷ B) (held_to T' h nl es tl left) (All-cons (Holds T' h) (mk nr fs tr) B (held_to T' h nr fs tr right) (kept_b T' bs₂ ls c in_bs₂ in_ls₂))))
      where
        joined : map number (A ++ mk nl es tl ∷ mk nr fs tr ∷ B) ≡ n_a ++ nl ∷ nr ∷ n_b
        joined = map-append number A (mk nl es tl ∷ mk nr fs tr ∷ B)

    two_occurs : (y : ℕ) → occurs y (suc h) old ≡ occurs y (suc h) two
    two_occurs y =
        omega (
          arith,
          whole y,
          sums y,
          occurs_mk y h p (us ++ x ∷ ws) (A ++ mk nl es tl ∷ mk nr fs tr ∷ B),
          total_append (occurs y h) A (mk nl es tl ∷ mk nr fs tr ∷ B),
          occurs_held y h nl es tl left.fan.leaf,
          occurs_held y h nr fs tr right.fan.leaf,
        )

    two_became : Became T T' S S (suc h) old (suc h) two
    two_became = record {
      holds = two_held;
      balanced = balanced_as S S (λ y. occurs y (suc h) old) (λ y. occurs y (suc h) old) (λ y. occurs y (suc h) old) (λ y. occurs y (suc h) two)
          (λ y. omega (arith, two_occurs y)) (balanced_none S (λ y. occurs y (suc h) old));
      beside = beside T' bs₂ ls c in_bs₂ in_ls₂;
    }

    two_link : SameLink T T' p
    two_link = same_link T' bs₂ ls c in_bs₂ in_ls₂

  pairs_as : (es fs : List (K × V)) (ks ls : List ℕ) → row l ≡ es → row r ≡ fs → kl ≡ ks → kr ≡ ls → Pairs T p i nl nr us e ws es fs n_a n_b ks ls
  pairs_as es fs ks ls a b c d =
      subst (λ z. Pairs T p i nl nr us e ws es fs n_a n_b ks z) d
      (subst (λ z. Pairs T p i nl nr us e ws es fs n_a n_b z kr) c
      (subst (λ z. Pairs T p i nl nr us e ws es z n_a n_b kl kr) b
      (subst (λ z. Pairs T p i nl nr us e ws z (row r) n_a n_b kl kr) a pairs)))

  -- ---- from the left one

  module _ (T' : Tables K V) (n : ℕ) (res : Result (Unit {0}) Fault) (did : StealsLeft T T' (suc h) p i n res) (some : 0 < n) (enough : n ≤ length (row l)) (room : n + length (row r) ≤ 11) where
    abbrev keep : ℕ
    keep = length (row l) - n

    abbrev es₁ : List (K × V)
    es₁ = take keep (row l)

    abbrev x₁ : K × V
    x₁ = get_or (row l) keep e

    abbrev xs₁ : List (K × V)
    xs₁ = drop (suc keep) (row l)

    abbrev ta : List (Tree (K × V))
    ta = take (suc keep) (kids l)

    abbrev tb : List (Tree (K × V))
    tb = drop (suc keep) (kids l)

    numbers_l : kl ≡ map number ta ++ map number tb
    numbers_l = ap (map number) (sym (take-append-drop (suc keep) (kids l))) ∙ map-append number ta tb

    fan_a : Fan h (length es₁) (length ta)
    fan_a = record {
      leaf = λ z. omega (arith, length-take (suc keep) (kids l), held_l_lem.fan.leaf z);
      inner = λ z. omega (arith, length-take (suc keep) (kids l), length-take keep (row l), held_l_lem.fan.inner z);
    }

    fan_b : Fan h (length xs₁) (length tb)
    fan_b = record {
      leaf = λ z. omega (arith, length-drop (suc keep) (kids l), held_l_lem.fan.leaf z);
      inner = λ z. omega (arith, length-drop (suc keep) (kids l), length-drop (suc keep) (row l), held_l_lem.fan.inner z);
    }

    times_parts : (y : ℕ) → times y kl ≡ times y (map number ta) + times y (map number tb)
    times_parts y = ap (times y) numbers_l ∙ times_append y (map number ta) (map number tb)

    pub left_done : (res ≡ Ok tt) × Node T' p (us ++ x₁ ∷ ws) (n_a ++ nl ∷ nr ∷ n_b) × Node T' nl es₁ (map number ta) × Node T' nr (xs₁ ++ e ∷ row r) (map number tb ++ kr)
        × Linked T' nr 0 (map number tb ++ kr) × Changed T T' (nr ∷ nl ∷ p ∷ []) (map number tb ++ kr)
    unfolding StealsLeft
    left_done =
        did nl nr us e ws es₁ x₁ xs₁ (row r) n_a n_b (map number ta) (map number tb) kr w.owns.sized
        (pairs_as (es₁ ++ x₁ ∷ xs₁) (row r) (map number ta ++ map number tb) kr (split_at (row l) keep e (omega arith)) refl numbers_l refl)
        (omega arith) (omega (arith, length-drop (suc keep) (row l)))
        (fan_as h (length es₁) ta fan_a) (fan_as h (length xs₁) tb fan_b) (fan_as h (length (row r)) (kids r) held_r.fan) room
        (record {
          inside = All-append (λ c. c < length T.heads) (map number tb) kr (tops_inside T (h - 1) tb (All-drop (Holds T (h - 1)) (suc keep) (kids l) held_l_lem.all)) (tops_inside T (h - 1) (kids r) held_r.all);
          once = λ y. omega (arith, sum y, times_append y (map number tb) kr, times_parts y, tops_occur y (h - 1) (kids l), tops_occur y (h - 1) (kids r), mark_most S y);
        })

    abbrev ls₃ : List ℕ
    ls₃ = map number tb ++ kr

    in_ls₃ : (y : ℕ) → times y ls₃ ≤ times y kl + times y kr
    in_ls₃ y = omega (arith, times_append y (map number tb) kr, times_parts y)

    c₃ : Changed T T' (nr ∷ nl ∷ p ∷ []) ls₃
    c₃ = left_done.5

    in_bs₃ : (y : ℕ) → times y (nr ∷ nl ∷ p ∷ []) ≤ same y p + (same y nl + same y nr)
    in_bs₃ y = omega arith

    in_all₃ : (y : ℕ) → times y ls₃ ≤ times y kl + (times y kr + times y n_b)
    in_all₃ y = omega (arith, in_ls₃ y)

    left_l : Held T' h nl es₁ ta
    left_l = record {
      body = left_done.2;
      fan = fan_a;
      linked = linked_kept T T' (nr ∷ nl ∷ p ∷ []) ls₃ nl 0 (map number ta) c₃
          (λ y q. omega (arith, sum y, times_append y (map number tb) kr, times_parts y, tops_occur y (h - 1) (kids l), tops_occur y (h - 1) (kids r), mark_most S y))
          (linked_parts T nl 0 (map number ta) (map number tb) (subst (λ ks. Linked T nl 0 ks) numbers_l held_l_lem.linked)).0;
      all = All-take (Holds T' (h - 1)) (suc keep) (kids l) (kept_l T' (nr ∷ nl ∷ p ∷ []) ls₃ c₃ in_bs₃ in_all₃);
    }

    left_r : Held T' h nr (xs₁ ++ e ∷ row r) (tb ++ kids r)
    left_r = record {
      body = subst (λ ks. Node T' nr (xs₁ ++ e ∷ row r) ks) (sym (map-append number tb (kids r))) left_done.3;
      fan = record {
        leaf = λ z. omega (arith, length-append tb (kids r), fan_b.leaf z, held_r.fan.leaf z);
        inner = λ z. omega (arith, length-append tb (kids r), length-append xs₁ (e ∷ row r), fan_b.inner z, held_r.fan.inner z);
      };
      linked = subst (λ ks. Linked T' nr 0 ks) (sym (map-append number tb (kids r))) left_done.4;
      all = All-append (Holds T' (h - 1)) tb (kids r)
          (All-drop (Holds T' (h - 1)) (suc keep) (kids l) (kept_l T' (nr ∷ nl ∷ p ∷ []) ls₃ c₃ in_bs₃ in_all₃))
          (kept_r T' (nr ∷ nl ∷ p ∷ []) ls₃ c₃ in_bs₃ in_all₃);
    }

    sums₃ : (y : ℕ) → low y ta + low y (tb ++ kids r) ≡ low y (kids l) + low y (kids r)
    sums₃ y = omega (arith, total_append (occurs y (h - 1)) tb (kids r), total_cut (occurs y (h - 1)) (suc keep) (kids l))

    pub left_became : Became T T' S S (suc h) old (suc h) (fill p us ws A B (moved Last n l e r))
    left_became = two_became T' x₁ es₁ (xs₁ ++ e ∷ row r) ta (tb ++ kids r) ls₃ left_done.1 left_l left_r c₃ in_ls₃ sums₃

    pub left_link : SameLink T T' p
    left_link = two_link T' x₁ es₁ (xs₁ ++ e ∷ row r) ta (tb ++ kids r) ls₃ left_done.1 left_l left_r c₃ in_ls₃ sums₃

  -- ---- from the right one

  module _ (T' : Tables K V) (n : ℕ) (res : Result (Unit {0}) Fault) (did : StealsRight T T' (suc h) p i n res) (some : 0 < n) (enough : n ≤ length (row r)) (room : length (row l) + n ≤ 11) where
    abbrev xs₂ : List (K × V)
    xs₂ = take (n - 1) (row r)

    abbrev x₂ : K × V
    x₂ = get_or (row r) (n - 1) e

    abbrev fs₂ : List (K × V)
    fs₂ = drop n (row r)

    abbrev tc : List (Tree (K × V))
    tc = take n (kids r)

    abbrev td : List (Tree (K × V))
    td = drop n (kids r)

    row_r : row r ≡ xs₂ ++ x₂ ∷ fs₂
    row_r = split_at (row r) (n - 1) e (omega arith) ∙ ap (λ k. xs₂ ++ x₂ ∷ drop k (row r)) (let z : suc (n - 1) ≡ n = omega arith in z)

    numbers_r : kr ≡ map number tc ++ map number td
    numbers_r = ap (map number) (sym (take-append-drop n (kids r))) ∙ map-append number tc td

    times_r_lem : (y : ℕ) → times y kr ≡ times y (map number tc) + times y (map number td)
    times_r_lem y = ap (times y) numbers_r ∙ times_append y (map number tc) (map number td)

    fan_c : Fan h (length xs₂) (length tc)
    fan_c = record {
      leaf = λ z. omega (arith, length-take n (kids r), held_r.fan.leaf z);
      inner = λ z. omega (arith, length-take n (kids r), length-take (n - 1) (row r), held_r.fan.inner z);
    }

    fan_d : Fan h (length fs₂) (length td)
    fan_d = record {
      leaf = λ z. omega (arith, length-drop n (kids r), held_r.fan.leaf z);
      inner = λ z. omega (arith, length-drop n (kids r), length-drop n (row r), held_r.fan.inner z);
    }

    abbrev ls₄ : List ℕ
    ls₄ = map number tc ++ map number td

    pub right_done : (res ≡ Ok tt) × Node T' p (us ++ x₂ ∷ ws) (n_a ++ nl ∷ nr ∷ n_b) × Node T' nl (row l ++ e ∷ xs₂) (kl ++ map number tc) × Node T' nr fs₂ (map number td)
        × Linked T' nl (length kl) (map number tc) × Linked T' nr 0 (map number td) × Changed T T' (nr ∷ nl ∷ p ∷ []) ls₄
    unfolding StealsRight
    right_done =
        did nl nr us e ws (row l) xs₂ x₂ fs₂ n_a n_b kl (map number tc) (map number td) w.owns.sized
        (pairs_as (row l) (xs₂ ++ x₂ ∷ fs₂) kl ls₄ refl row_r refl numbers_r)
        (omega arith) (omega (arith, length-take (n - 1) (row r)))
        (fan_as h (length (row l)) (kids l) held_l_lem.fan) (fan_as h (length xs₂) tc fan_c) (fan_as h (length fs₂) td fan_d) room
        (record {
          inside = All-append (λ c. c < length T.heads) (map number tc) (map number td) (tops_inside T (h - 1) tc (All-take (Holds T (h - 1)) n (kids r) held_r.all)) (tops_inside T (h - 1) td (All-drop (Holds T (h - 1)) n (kids r) held_r.all));
          once = λ y. omega (arith, sum y, times_append y (map number tc) (map number td), times_r_lem y, tops_occur y (h - 1) (kids r), mark_most S y);
        })

    in_ls₄ : (y : ℕ) → times y ls₄ ≤ times y kl + times y kr
    in_ls₄ y = omega (arith, times_append y (map number tc) (map number td), times_r_lem y)

    c₄ : Changed T T' (nr ∷ nl ∷ p ∷ []) ls₄
    c₄ = right_done.6

    in_bs₄ : (y : ℕ) → times y (nr ∷ nl ∷ p ∷ []) ≤ same y p + (same y nl + same y nr)
    in_bs₄ y = omega arith

    in_all₄ : (y : ℕ) → times y ls₄ ≤ times y kl + (times y kr + times y n_b)
    in_all₄ y = omega (arith, in_ls₄ y)

    right_l : Held T' h nl (row l ++ e ∷ xs₂) (kids l ++ tc)
    right_l = record {
      body = subst (λ ks. Node T' nl (row l ++ e ∷ xs₂) ks) (sym (map-append number (kids l) tc)) right_done.2;
      fan = record {
        leaf = λ z. omega (arith, length-append (kids l) tc, held_l_lem.fan.leaf z, fan_c.leaf z);
        inner = λ z. omega (arith, length-append (kids l) tc, length-append (row l) (e ∷ xs₂), held_l_lem.fan.inner z, fan_c.inner z);
      };
      linked = subst (λ ks. Linked T' nl 0 ks) (sym (map-append number (kids l) tc))
          (linked_append T' nl 0 kl (map number tc)
          (linked_kept T T' (nr ∷ nl ∷ p ∷ []) ls₄ nl 0 kl c₄
          (λ y q. omega (arith, sum y, times_append y (map number tc) (map number td), times_r_lem y, tops_occur y (h - 1) (kids l), tops_occur y (h - 1) (kids r), mark_most S y)) held_l_lem.linked)
          (subst (λ k. Linked T' nl k (map number tc)) (let z : length kl ≡ 0 + length kl = omega arith in z) right_done.4));
      all = All-append (Holds T' (h - 1)) (kids l) tc (kept_l T' (nr ∷ nl ∷ p ∷ []) ls₄ c₄ in_bs₄ in_all₄)
          (All-take (Holds T' (h - 1)) n (kids r) (kept_r T' (nr ∷ nl ∷ p ∷ []) ls₄ c₄ in_bs₄ in_all₄));
    }

    right_r : Held T' h nr fs₂ td
    right_r = record {
      body = right_done.3;
      fan = fan_d;
      linked = right_done.5;
      all = All-drop (Holds T' (h - 1)) n (kids r) (kept_r T' (nr ∷ nl ∷ p ∷ []) ls₄ c₄ in_bs₄ in_all₄);
    }

    sums₄ : (y : ℕ) → low y (kids l ++ tc) + low y td ≡ low y (kids l) + low y (kids r)
    sums₄ y = omega (arith, total_append (occurs y (h - 1)) (kids l) tc, total_cut (occurs y (h - 1)) n (kids r))

    pub right_became : Became T T' S S (suc h) old (suc h) (fill p us ws A B (moved First n l e r))
    right_became = two_became T' x₂ (row l ++ e ∷ xs₂) fs₂ (kids l ++ tc) td ls₄ right_done.1 right_l right_r c₄ in_ls₄ sums₄

    pub right_link : SameLink T T' p
    right_link = two_link T' x₂ (row l ++ e ∷ xs₂) fs₂ (kids l ++ tc) td ls₄ right_done.1 right_l right_r c₄ in_ls₄ sums₄
