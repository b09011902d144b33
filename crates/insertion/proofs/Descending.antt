-- Insertion below a node, from what came of its child. Assumes nothing.
use Rattle.std.proofs.Common.{◌≡◌, ℕ, zero, suc, ◌+◌, ◌-◌, ◌<◌, ◌≤◌, Bool, true, false, cond, eqb, ltb, leb, List, [], ◌∷◌, ◌++◌, map, length, get_or, take, drop, All, sym, refl, ap, ◌∙◌, subst, ⊎_elim, arith, eqb-true}
use lib.ListN.{length-map}
use lib.Seq.{split_at}
use borrow.Author.Tests.{eqb-false}
use Rattle.std.proofs.lemmas.List.{map-append}
use Rattle.std.proofs.lemmas.List.Elements.{All-append, All-take, All-drop, All-cons}
use Rattle.std.proofs.lemmas.Bool.{cond-true, cond-false, lt-ltb, le-ltb, le-leb, lt-leb, cases_lt}
use Rattle.supply.specs.Stocks.{Stock}
use Rattle.node.specs.Shape.{Tree, node, none, number, row, kids, kid, mk, total}
use Rattle.node.specs.Store.{Tables, Node, Linked, Holds, SameLink, numbers, times}
use Rattle.node.specs.Laws.{occurs, below, same}
use Rattle.node.specs.Rules.{Grown, whole, parted, settle, swap, put}
use Rattle.node.specs.Sorted.{index}
use Rattle.node.specs.Balance.{mark, guard, Owns, Beside}
use Rattle.node.proofs.Balances.{mark_most, beside_more}
use Rattle.node.proofs.Frames.{height_suc, node_same, linked_same, frame_all}
use Rattle.node.proofs.Numbers.{occurs_parts, same_self, same_other}
use Rattle.node.proofs.Weaves.{total_append, total_around, total_at}
use Rattle.rules.specs.Held.{Held}
use Rattle.rules.specs.Rules.{grow, run, rise}
use Rattle.rules.proofs.Branches.{held_from, occurs_held, tops_parts}
use Rattle.insertion.specs.Descent.{need_at, above_child}

-- ---- the rule at a node above the leaves

module _ {E : Type 0} (b : E → Bool) (t : Tree E) where
  abbrev at : ℕ
  at = index b (row t)

  abbrev child : Tree E
  child = kid t at

  pub grow_down : (fresh : ℕ → ℕ) (e : E) (h : ℕ) → 0 < h → grow fresh b e h t ≡ rise (fresh h) (number t) at (row t) (kids t) (grow fresh b e (h - 1) child)
  unfolding grow
  grow_down fresh e h up = subst (λ k. grow fresh b e k t ≡ rise (fresh k) (number t) at (row t) (kids t) (grow fresh b e (h - 1) child)) (sym (height_suc h up)) refl

  pub run_down : (h : ℕ) → 0 < h → run b h t ≡ cond (ltb (run b (h - 1) child) h) (run b (h - 1) child) (cond (ltb (length (row t)) 11) h (suc h))
  unfolding run
  run_down h up =
      subst (λ k. run b k t ≡ cond (ltb (run b (h - 1) child) k) (run b (h - 1) child) (cond (ltb (length (row t)) 11) k (suc k))) (sym (height_suc h up)) refl

-- a tree that stayed whole had a node with room at its height or below; one that was parted had none
abbrev pub Ran : {E : Type 0} → ℕ → ℕ → Grown E → Type 0
Ran h n (whole k) = n ≤ h
Ran h n (parted l x r) = n ≡ suc h

module _ {E : Type 0} where
  picks : (h : ℕ) (k l x' r : Tree E) (x y : E) (q : Tree E) (c d : Bool) → Ran h (cond c h (suc h)) (cond c (whole k) (cond d (parted l x r) (parted x' y q)))
  picks h k l x' r x y q true d = omega arith
  picks h k l x' r x y q false true = refl
  picks h k l x' r x y q false false = refl

  settle_ran : (h fresh m i : ℕ) (es : List E) (ks : List (Tree E)) (x : E) (new : List (Tree E)) → Ran h (cond (ltb (length es) 11) h (suc h)) (settle fresh m i es ks x new)
  settle_ran h fresh m i es ks x new =
      picks h (mk m (put i x es) (swap i new ks)) (mk m (put i x (take 6 es)) (swap i new (take 7 ks))) (mk m (take 6 es) (take 7 ks)) (mk fresh (drop 7 es) (drop 7 ks)) (get_or es 6 x) (get_or es 6 x)
      (mk fresh (put (i - 7) x (drop 7 es)) (swap (i - 7) new (drop 7 ks))) (ltb (length es) 11) (leb i 6)

  pub grow_ran : (fresh : ℕ → ℕ) (b : E → Bool) (e : E) (h : ℕ) (t : Tree E) → Ran h (run b h t) (grow fresh b e h t)
  unfolding grow run
  grow_ran fresh b e zero t = settle_ran 0 (fresh 0) (number t) (index b (row t)) (row t) [] e []
  grow_ran fresh b e (suc h) t = go (run b h (kid t (index b (row t)))) (grow fresh b e h (kid t (index b (row t)))) (grow_ran fresh b e h (kid t (index b (row t))))
    where
      go : (n : ℕ) (g : Grown E) → Ran h n g → Ran (suc h) (cond (ltb n (suc h)) n (cond (ltb (length (row t)) 11) (suc h) (suc (suc h)))) (rise (fresh (suc h)) (number t) (index b (row t)) (row t) (kids t) g)
      go n (whole k) q = let z : cond (ltb n (suc h)) n (cond (ltb (length (row t)) 11) (suc h) (suc (suc h))) ≡ n = cond-true (ltb n (suc h)) _ _ (lt-ltb n (suc h) (omega arith)) in omega arith
      go n (parted l x r) q =
          subst (λ k. Ran (suc h) k (settle (fresh (suc h)) (number t) (index b (row t)) (row t) (kids t) x (l ∷ r ∷ [])))
          (sym (cond-false (ltb n (suc h)) n (cond (ltb (length (row t)) 11) (suc h) (suc (suc h))) (le-ltb n (suc h) (omega arith))))
          (settle_ran (suc h) (fresh (suc h)) (number t) (index b (row t)) (row t) (kids t) x (l ∷ r ∷ []))

  ran_most : (h n : ℕ) (g : Grown E) → Ran h n g → n ≤ suc h
  ran_most h n (whole k) q = omega arith
  ran_most h n (parted l x r) q = omega arith

  pub run_most : (b : E → Bool) (h : ℕ) (t : Tree E) → E → run b h t ≤ suc h
  run_most b h t e = ran_most h (run b h t) (grow (λ l. l) b e h t) (grow_ran (λ l. l) b e h t)

needs_same : (n r len h a : ℕ) → 0 < h → n ≡ cond (ltb r h) r (cond (ltb len 11) h (suc h)) → r ≤ h
    → n + cond (leb (suc h) n) a 0 ≡ r + cond (leb (suc (h - 1)) r) (cond (ltb len 11) 0 (a + 1)) 0
needs_same n r len h a up e l =
    ⊎_elim
    (λ (q : r < h).
    let z : n ≡ r = e ∙ cond-true (ltb r h) _ _ (lt-ltb r h q) in
    let u : cond (leb (suc h) n) a 0 ≡ 0 = cond-false (leb (suc h) n) a 0 (lt-leb (suc h) n (omega arith)) in
    let v : cond (leb (suc (h - 1)) r) (cond (ltb len 11) 0 (a + 1)) 0 ≡ 0 = cond-false (leb (suc (h - 1)) r) _ 0 (lt-leb (suc (h - 1)) r (omega arith)) in
    omega arith)
    (λ (q : h ≤ r).
    let z : n ≡ cond (ltb len 11) h (suc h) = e ∙ cond-false (ltb r h) _ _ (le-ltb r h q) in
    let v : cond (leb (suc (h - 1)) r) (cond (ltb len 11) 0 (a + 1)) 0 ≡ cond (ltb len 11) 0 (a + 1) = cond-true (leb (suc (h - 1)) r) _ 0 (le-leb (suc (h - 1)) r (omega arith)) in
    ⊎_elim
    (λ (f : len < 11).
    let c = lt-ltb len 11 f in
    let z₁ : n ≡ h = z ∙ cond-true (ltb len 11) _ _ c in
    let v₁ : cond (ltb len 11) 0 (a + 1) ≡ 0 = cond-true (ltb len 11) _ _ c in
    let u : cond (leb (suc h) n) a 0 ≡ 0 = cond-false (leb (suc h) n) a 0 (lt-leb (suc h) n (omega arith)) in
    omega arith)
    (λ (f : 11 ≤ len).
    let c = le-ltb len 11 f in
    let z₁ : n ≡ suc h = z ∙ cond-false (ltb len 11) _ _ c in
    let v₁ : cond (ltb len 11) 0 (a + 1) ≡ a + 1 = cond-false (ltb len 11) _ _ c in
    let u : cond (leb (suc h) n) a 0 ≡ a = cond-true (leb (suc h) n) a 0 (le-leb (suc h) n (omega arith)) in
    omega arith)
    (cases_lt len 11))
    (cases_lt r h)

-- the need of a node is that of its child, with what is above that one
pub need_down : {E : Type 0} (b : E → Bool) (e : E) (h : ℕ) (t : Tree E) (above : ℕ) → 0 < h
    → need_at b h t above ≡ need_at b (h - 1) (kid t (index b (row t))) (above_child (length (row t)) above)
need_down b e h t above up =
    needs_same (run b h t) (run b (h - 1) (kid t (index b (row t)))) (length (row t)) h above up (run_down b t h up) (omega (arith, run_most b (h - 1) (kid t (index b (row t))) e))

-- ---- the children

pub occurs_at : {E : Type 0} (x h : ℕ) (t : Tree E) → 0 < h → occurs x h t ≡ same x (number t) + total (occurs x (h - 1)) (kids t)
occurs_at x h t up = subst (λ k. occurs x k t ≡ same x (number t) + total (occurs x (h - 1)) (kids t)) (sym (height_suc h up)) (occurs_parts x (suc (h - 1)) t)

-- of a node with one child in another form, and the others as they were
module _ {K V : Type 0} (T T₁ : Tables K V) (S : Stock) (h : ℕ) (t : Tree (K × V)) (i : ℕ) (owns : Owns T S h t) (up : 0 < h) (l : i < length (kids t))
    (b : Beside T T₁ S (λ x. occurs x (h - 1) (kid t i))) (lk : SameLink T T₁ (number (kid t i))) where
  abbrev ks : List (Tree (K × V))
  ks = kids t

  abbrev occ : ℕ → List (Tree (K × V)) → ℕ
  occ x ts = total (occurs x (h - 1)) ts

  w : Held T h (number t) (row t) (kids t)
  w = held_from T h t owns.holds

  pub sum : (x : ℕ) → occurs x h t ≡ same x (number t) + (occ x (take i ks) + (occurs x (h - 1) (kid t i) + occ x (drop (suc i) ks)))
  sum x = omega (arith, occurs_at x h t up, total_around (occurs x (h - 1)) ks i (node 0 [] none) l)

  pub root_apart : occurs (number t) (h - 1) (kid t i) < mark S (number t)
  root_apart = omega (arith, sum (number t), same_self (number t), owns.owned (number t), mark_most S (number t))

  -- the same with what is barred
  root_guarded : occurs (number t) (h - 1) (kid t i) < guard S (number t)
  root_guarded = omega (arith, root_apart)

  tops_linked : (x : ℕ) → 0 < times x (numbers t) → SameLink T T₁ x
  tops_linked x p = go (eqb x (number (kid t i))) refl
    where
      go : (c : Bool) → eqb x (number (kid t i)) ≡ c → SameLink T T₁ x
      go true q = subst (SameLink T T₁) (sym (eqb-true x (number (kid t i)) q)) lk
      go false q =
          b.links x (omega (
            arith,
            tops_parts x (h - 1) ks,
            occurs_parts x (h - 1) (kid t i),
            same_other x (number (kid t i)) (eqb-false x (number (kid t i)) q),
            total_at (below x (h - 1)) ks i (node 0 [] none) l,
            occurs_at x h t up,
            owns.owned x,
            mark_most S x,
          ))

  others : (ts : List (Tree (K × V))) → ((x : ℕ) → occ x ts + occurs x (h - 1) (kid t i) ≤ mark S x) → All (Holds T (h - 1)) ts → All (Holds T₁ (h - 1)) ts
  others ts o a =
      frame_all T T₁ (h - 1) ts b.heads_len (λ x p. b.bodies x (omega (arith, o x))) (λ x p. b.links x (omega (arith, o x, tops_parts x (h - 1) ts))) a

  pub beside_root : Beside T T₁ S (λ x. occurs x h t)
  beside_root = beside_more T T₁ S (λ x. occurs x (h - 1) (kid t i)) (λ x. occurs x h t) (λ x. omega (arith, sum x)) b

  pub link_root : SameLink T T₁ (number t)
  link_root = b.links (number t) root_guarded

  module _ (k : Tree (K × V)) (v : Holds T₁ (h - 1) k) (e : number k ≡ number (kid t i)) where
    abbrev new : List (Tree (K × V))
    new = swap i (k ∷ []) ks

    parts : ks ≡ take i ks ++ kid t i ∷ drop (suc i) ks
    parts = split_at ks i (node 0 [] none) l

    same_numbers : numbers t ≡ map number new
    same_numbers =
        ap (map number) parts ∙ map-append number (take i ks) (kid t i ∷ drop (suc i) ks) ∙ ap (λ n. map number (take i ks) ++ n ∷ map number (drop (suc i) ks)) (sym e)
        ∙ sym (map-append number (take i ks) (k ∷ drop (suc i) ks))

    long : length new ≡ length ks
    long = sym (length-map new number) ∙ ap length (sym same_numbers) ∙ length-map ks number

    pub reseat : Held T₁ h (number t) (row t) new
    reseat = record {
      body = subst (λ ns. Node T₁ (number t) (row t) ns) same_numbers (node_same T T₁ (number t) (row t) (numbers t) b.heads_len (b.bodies (number t) root_guarded) w.body);
      fan = record { leaf = λ z. absurd (omega arith); inner = λ z. omega (arith, long, w.fan.inner z) };
      linked = subst (λ ns. Linked T₁ (number t) 0 ns) same_numbers (linked_same T T₁ (number t) 0 (numbers t) tops_linked w.linked);
      all = All-append (Holds T₁ (h - 1)) (take i ks) (k ∷ drop (suc i) ks)
          (others (take i ks) (λ x. omega (arith, sum x, owns.owned x)) (All-take (Holds T (h - 1)) i ks w.all))
          (All-cons (Holds T₁ (h - 1)) k (drop (suc i) ks) v (others (drop (suc i) ks) (λ x. omega (arith, sum x, owns.owned x)) (All-drop (Holds T (h - 1)) (suc i) ks w.all)));
    }

    pub sum_new : (x : ℕ) → occ x new ≡ occ x (take i ks) + (occurs x (h - 1) k + occ x (drop (suc i) ks))
    sum_new x = total_append (occurs x (h - 1)) (take i ks) (k ∷ drop (suc i) ks)

    pub occurs_new : (x : ℕ) → occurs x h (mk (number t) (row t) new) ≡ same x (number t) + occ x new
    occurs_new x = occurs_held x h (number t) (row t) new (λ z. absurd (omega arith))
