-- What replacement does to the list and the form of a tree. Assumes nothing.
use Rattle.std.proofs.Common.{◌≡◌, ℕ, zero, suc, ◌+◌, ◌<◌, Bool, true, false, cond, List, [], ◌∷◌, ◌++◌, map, length, take, drop, Some, None, Option, Ordering, sym, refl, ap, ◌∙◌, subst, append_assoc, arith, take-append-drop, length-take}
use lib.Seq.{split_at}
use Rattle.order.specs.Found.{found_at}
use Rattle.node.specs.Shape.{Tree, node, none, number, row, kids, kid, mk, flat, before, after, weave, total, weigh, Within, root_least}
use Rattle.node.specs.Rules.{whole, swap}
use Rattle.node.proofs.Weaves.{total_append, flat_mk}
use Rattle.rules.proofs.Nodes.{flat_open, flat_patch, weigh_mk, within_mk, within_kid, within_least, within_most, within_fan, within_limbs}
use Rattle.rules.proofs.Grows.{rise_flat, rise_within}
use Rattle.map.specs.Lookup.{nth, seek}
use Rattle.map.specs.Replacing.{alter, amend, Altered, AmendList, AmendFormed}
use Rattle.map.proofs.Finds.{Hit, hit, at, at_le}

module _ {E : Type 0} (f : E → E) where
  alter_length : (i : ℕ) (es : List E) → length (alter f i es) ≡ length es
  alter_length i [] = refl
  alter_length zero (e ∷ es) = refl
  alter_length (suc i) (e ∷ es) = ap suc (alter_length i es)

  alter_at : (i : ℕ) (es : List E) (e : E) (rest : List E) → drop i es ≡ e ∷ rest → alter f i es ≡ take i es ++ f e ∷ rest
  alter_at zero [] e rest q = absurd (omega (arith, ap length q))
  alter_at (suc i) [] e rest q = absurd (omega (arith, ap length q))
  alter_at zero (x ∷ es) e rest q = ap (λ l. alter f zero l) q
  alter_at (suc i) (x ∷ es) e rest q = ap (λ l. x ∷ l) (alter_at i es e rest q)

  lifts : (A P : List E) (e : E) (l l' : List E) → Altered f e l l' → Altered f e (A ++ (l ++ P)) (A ++ (l' ++ P))
  lifts A P e l l' a = record {
    ante = A ++ a.ante;
    post = a.post ++ P;
    was = moved e l a.was;
    now_is = moved (f e) l' a.now_is;
  }
    where
      moved : (x : E) (m : List E) → m ≡ a.ante ++ x ∷ a.post → A ++ (m ++ P) ≡ (A ++ a.ante) ++ x ∷ (a.post ++ P)
      moved x m q = ap (λ r. A ++ (r ++ P)) q ∙ ap (λ r. A ++ r) (append_assoc a.ante (x ∷ a.post) P) ∙ sym (append_assoc A a.ante (x ∷ (a.post ++ P)))

  abbrev or_else : E → Option E → E
  or_else d None = d
  or_else d (Some e) = e

  module _ (place : E → Ordering) where
    hit_is : (t : Tree E) (x : Hit place (row t)) (e : E) → nth (row t) (at place t) ≡ Some e → x.entry ≡ e
    hit_is t x e q = ap (or_else x.entry) (sym x.nth_is ∙ q)

    leaf_altered : (t : Tree E) (x : Hit place (row t)) → Altered f x.entry (row t) (alter f (at place t) (row t))
    leaf_altered t x = record {
      ante = take (at place t) (row t);
      post = x.rest;
      was = sym (take-append-drop (at place t) (row t)) ∙ ap (λ r. take (at place t) (row t) ++ r) x.there;
      now_is = alter_at (at place t) (row t) x.entry x.rest x.there;
    }

    module _ (least h : ℕ) (t : Tree E) (w : Within least (suc h) t) where
      abbrev ante : List E
      ante = before (map (flat h) (take (at place t) (kids t))) (take (at place t) (row t))

      abbrev behind : List (List E)
      behind = map (flat h) (drop (suc (at place t)) (kids t))

      -- the list with another entry behind child `at place t`
      open_with : (x : E) (rest : List E) → weave (map (flat h) (kids t)) (take (at place t) (row t) ++ x ∷ rest) ≡ (ante ++ flat h (kid t (at place t))) ++ x ∷ weave behind rest
      open_with x rest =
          let fan = within_fan least (suc h) t w in
          let q = at_le place t in
          ap (λ r. weave (map (flat h) r) (take (at place t) (row t) ++ x ∷ rest)) (split_at (kids t) (at place t) (node 0 [] none) (omega arith))
          ∙ flat_patch h (whole (kid t (at place t))) (take (at place t) (kids t)) (drop (suc (at place t)) (kids t)) (take (at place t) (row t)) (x ∷ rest) (simp length-take (omega arith))
          ∙ sym (append_assoc ante (flat h (kid t (at place t))) (x ∷ weave behind rest))

      inner_altered : (x : Hit place (row t)) → Altered f x.entry (weave (map (flat h) (kids t)) (row t)) (flat (suc h) (mk (number t) (alter f (at place t) (row t)) (kids t)))
      unfolding leaf_altered
      inner_altered x =
          let a = leaf_altered t x in
          record {
            ante = ante ++ flat h (kid t (at place t));
            post = weave behind x.rest;
            was = ap (λ r. weave (map (flat h) (kids t)) r) a.was ∙ open_with x.entry x.rest;
            now_is = flat_mk h (number t) (alter f (at place t) (row t)) (kids t) ∙ ap (λ r. weave (map (flat h) (kids t)) r) a.now_is ∙ open_with (f x.entry) x.rest;
          }

      below_altered : (e : E) (k : Tree E) → Altered f e (flat h (kid t (at place t))) (flat h k)
          → Altered f e (flat (suc h) t) (flat (suc h) (mk (number t) (row t) (swap (at place t) (k ∷ []) (kids t))))
      below_altered e k a =
          let fan = within_fan least (suc h) t w in
          let post : List E = after behind (drop (at place t) (row t)) in
          let c = lifts ante post e (flat h (kid t (at place t))) (flat h k) a in
          record {
            ante = c.ante;
            post = c.post;
            was = flat_open h t (at place t) (at_le place t) fan ∙ c.was;
            now_is = rise_flat h 0 (number t) (at place t) (row t) (kids t) (whole k) (at_le place t) fan ∙ c.now_is;
          }

    amended : (least h : ℕ) (t : Tree E) → Within least h t → (e : E) → seek place h t ≡ Some e → Altered f e (flat h t) (flat h (amend f place h t))
    unfolding seek amend flat
    amended least zero t w e q = go (found_at place (row t)) refl q
      where
        go : (c : Bool) → found_at place (row t) ≡ c → cond c (nth (row t) (at place t)) None ≡ Some e → Altered f e (row t) (cond c (alter f (at place t) (row t)) (row t))
        go true p q = let x = hit place (row t) p in subst (λ y. Altered f y (row t) (alter f (at place t) (row t))) (hit_is t x e q) (leaf_altered t x)
        go false p q = let z : ◌≡◌ {A = ℕ} 0 1 = cc in absurd (omega arith)
    amended least (suc h) t w e q = go (found_at place (row t)) refl q (amended 4 h (kid t (at place t)) (within_kid least h t (at place t) w (at_le place t)) e)
      where
        go : (c : Bool) → found_at place (row t) ≡ c → cond c (nth (row t) (at place t)) (seek place h (kid t (at place t))) ≡ Some e
            → (seek place h (kid t (at place t)) ≡ Some e → Altered f e (flat h (kid t (at place t))) (flat h (amend f place h (kid t (at place t)))))
            → Altered f e (flat (suc h) t)
            (flat (suc h) (cond c (mk (number t) (alter f (at place t) (row t)) (kids t)) (mk (number t) (row t) (swap (at place t) (amend f place h (kid t (at place t)) ∷ []) (kids t)))))
        go true p q ih =
            let x = hit place (row t) p in
            subst (λ y. Altered f y (flat (suc h) t) (flat (suc h) (mk (number t) (alter f (at place t) (row t)) (kids t)))) (hit_is t x e q) (inner_altered least h t w x)
        go false p q ih = below_altered least h t w e (amend f place h (kid t (at place t))) (ih q)

    amend_within : (least h : ℕ) (t : Tree E) → Within least h t → Within least h (amend f place h t)
    unfolding amend
    amend_within least zero t w = go (found_at place (row t))
      where
        go : (c : Bool) → Within least zero (mk (number t) (cond c (alter f (at place t) (row t)) (row t)) (kids t))
        go true =
            let l = alter_length (at place t) (row t) in
            within_mk least zero (number t) (alter f (at place t) (row t)) (kids t) (omega (arith, within_least least zero t w)) (omega (arith, within_most least zero t w)) (within_fan least zero t w) tt
        go false = within_mk least zero (number t) (row t) (kids t) (within_least least zero t w) (within_most least zero t w) (within_fan least zero t w) tt
    amend_within least (suc h) t w = go (found_at place (row t)) (amend_within 4 h (kid t (at place t)) (within_kid least h t (at place t) w (at_le place t)))
      where
        go : (c : Bool) → Within 4 h (amend f place h (kid t (at place t)))
            → Within least (suc h) (cond c (mk (number t) (alter f (at place t) (row t)) (kids t)) (mk (number t) (row t) (swap (at place t) (amend f place h (kid t (at place t)) ∷ []) (kids t))))
        go true ih =
            let l = alter_length (at place t) (row t) in
            within_mk least (suc h) (number t) (alter f (at place t) (row t)) (kids t) (omega (arith, within_least least (suc h) t w)) (omega (arith, within_most least (suc h) t w))
            (omega (arith, within_fan least (suc h) t w)) (within_limbs least (suc h) t w)
        go false ih =
            rise_within least h 0 (number t) (at place t) (row t) (kids t) (whole (amend f place h (kid t (at place t))))
            (within_least least (suc h) t w) (within_most least (suc h) t w) (at_le place t) (within_fan least (suc h) t w) (within_limbs least (suc h) t w) ih

    amend_weigh : (v : ℕ → ℕ) (least h : ℕ) (t : Tree E) → Within least h t → weigh v h (amend f place h t) ≡ weigh v h t
    unfolding amend weigh
    amend_weigh v least zero t w = refl
    amend_weigh v least (suc h) t w = go (found_at place (row t)) (amend_weigh v 4 h (kid t (at place t)) (within_kid least h t (at place t) w (at_le place t)))
      where
        go : (c : Bool) → weigh v h (amend f place h (kid t (at place t))) ≡ weigh v h (kid t (at place t))
            → weigh v (suc h) (cond c (mk (number t) (alter f (at place t) (row t)) (kids t)) (mk (number t) (row t) (swap (at place t) (amend f place h (kid t (at place t)) ∷ []) (kids t))))
            ≡ v (number t) + total (weigh v h) (kids t)
        go true ih = weigh_mk v h (number t) (alter f (at place t) (row t)) (kids t)
        go false ih =
            let i : ℕ = at place t in
            let k : Tree E = amend f place h (kid t i) in
            let q : i < length (kids t) = omega (arith, at_le place t, within_fan least (suc h) t w) in
            omega (
              arith,
              ih,
              weigh_mk v h (number t) (row t) (take i (kids t) ++ k ∷ drop (suc i) (kids t)),
              total_append (weigh v h) (take i (kids t)) (k ∷ drop (suc i) (kids t)),
              total_append (weigh v h) (take i (kids t)) (kid t i ∷ drop (suc i) (kids t)),
              ap (total (weigh v h)) (split_at (kids t) i (node 0 [] none) q),
            )

pub amend_list : {E : Type 0} → AmendList E
amend_list f place h t w e q = amended f place (root_least h) h t w e q

pub amend_formed : {E : Type 0} → AmendFormed E
amend_formed f place h t w = (amend_within f place (root_least h) h t w, λ v. amend_weigh f place v (root_least h) h t w)
