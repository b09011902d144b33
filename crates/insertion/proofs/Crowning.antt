-- A new node with its first entry: the root of a new tree, or a root above two trees. Assumes nothing.
use Rattle.std.proofs.lemmas.List.Elements.{All-nil, All-head, All-tail}
use Rattle.std.proofs.Common.{◌≡◌, ℕ, suc, ◌+◌, ◌-◌, ◌<◌, ◌≤◌, List, [], ◌∷◌, ◌++◌, map, length, Ok, All, Result, sym, refl, ap, ◌∙◌, subst, append-nil, arith}
use Rattle.supply.specs.declared.faults.Fault.{Fault}
use Rattle.supply.specs.Stocks.{Stock, Given}
use Rattle.node.specs.declared.head.Head.{Head}
use Rattle.node.specs.Shape.{Tree, number, mk, total}
use Rattle.node.specs.Store.{Tables, tables, Sized, Holds, Changed, head_in, times}
use Rattle.node.specs.Laws.{occurs, same}
use Rattle.node.specs.Levels.{new_leaf, push_level}
use Rattle.node.specs.Balance.{mark, Rooted, Balanced}
use Rattle.node.proofs.Adopts.{times_append}
use Rattle.node.proofs.Balances.{mark_most, guard_most, mark_unused, balanced_as, balanced_given, beside_both, beside_more, beside_changed}
use Rattle.node.proofs.Frames.{all_kept}
use Rattle.node.proofs.Numbers.{same_self, tops_occur, occurs_root}
use Rattle.node.proofs.Weaves.{total_append, all_one, all_two}
use Rattle.rules.specs.Held.{Held}
use Rattle.rules.proofs.Branches.{held_to, occurs_held, tops_parts}
use Rattle.rules.proofs.Levels.{leaf_changed, leaf_node, leaf_root, push_changed, push_node, push_root, push_linked}
use Rattle.map.specs.Inserts.{Edges, InsertsIn}
use Rattle.map.proofs.Inserting.{sized_kept}
use Rattle.insertion.specs.Roots.{Planted}
use Rattle.insertion.proofs.Settling.{fit_held}

pub planted_as : {K V : Type 0} {T T' : Tables K V} {S S' : Stock} {p : ℕ × Tree (K × V)} {n : ℕ} (f f' : ℕ → ℕ) → ((x : ℕ) → f x ≡ f' x) → Planted T T' S S' f p n → Planted T T' S S' f' p n
planted_as {K} {V} {T} {T'} {S} {S'} {p} {n} f f' e w = record {
  held = w.held;
  root = w.root;
  balance = balanced_as S S' f (λ x. occurs x p.0 p.1) f' (λ x. occurs x p.0 p.1) (λ x. omega (arith, e x)) w.balance;
  beside = beside_more T T' S f f' (λ x. omega (arith, e x)) w.beside;
  taken = w.taken;
}

-- node m is new, with the children us; then an entry comes, and the children rs
module _ {K V : Type 0} (T T₁ T₂ : Tables K V) (S S' : Stock) (h m : ℕ) (e : K × V) (c : ℕ) (r : Result (Unit {0}) Fault) (us rs : List (Tree (K × V))) (given : Given S S' m) (sized : Sized T)
    (owned : (z : ℕ) → total (occurs z (h - 1)) us + total (occurs z (h - 1)) rs ≤ mark S z) (made : Changed T T₁ (m ∷ []) (m ∷ map number us)) (root : Rooted T₁ m)
    (w : Held T₁ h m [] us) (new : All (Holds T₁ (h - 1)) rs) (ed : Edges h c (map number rs)) (did : InsertsIn T₁ T₂ h m 0 e c r) where
  abbrev occ : ℕ → List (Tree (K × V)) → ℕ
  occ z ts = total (occurs z (h - 1)) ts

  abbrev f : ℕ → ℕ
  f z = occ z us + occ z rs

  balance_given : Balanced S S' f (λ z. same z m + f z)
  balance_given = balanced_given S S' m f given

  unused : (z : ℕ) → same z m + f z ≤ 1
  unused z = omega (arith, balance_given.marks z, owned z, mark_most S' z)

  done : (r ≡ Ok tt) × Held T₂ h m (e ∷ []) (us ++ (rs ++ [])) × Changed T₁ T₂ (m ∷ []) (map number rs ++ [])
  done = fit_held T₁ T₂ h m 0 e c r [] [] us [] rs (sized_kept T T₁ (m ∷ []) (m ∷ map number us) made sized)
      (subst (λ ts. Held T₁ h m [] ts) (sym (append-nil us)) w) new refl w.fan ed (omega arith) (λ z. omega (arith, unused z)) did

  kids : us ++ (rs ++ []) ≡ us ++ rs
  kids = ap (λ ts. us ++ ts) (append-nil rs)

  tops : (z : ℕ) → times z (m ∷ map number us) ≤ same z m + occ z us
  tops z = omega (arith, tops_occur z (h - 1) us)

  tops_new : (z : ℕ) → times z (map number rs ++ []) ≤ occ z rs
  tops_new z = omega (arith, times_append z (map number rs) [], tops_occur z (h - 1) rs)

  one_times : (z : ℕ) → times z (m ∷ []) ≡ same z m
  one_times z = omega arith

  pub crowned : (r ≡ Ok tt) × Planted T T₂ S S' f (h, mk m (e ∷ []) (us ++ rs)) 1
  crowned =
      let v : Held T₂ h m (e ∷ []) (us ++ rs) = subst (λ ts. Held T₂ h m (e ∷ []) ts) kids done.1 in (
        done.0,
        record {
          held = held_to T₂ h m (e ∷ []) (us ++ rs) v;
          root = (done.2.links m (omega (arith, tops_new m, unused m, same_self m))).parent_same ∙ root;
          balance = balanced_as S S' f (λ z. same z m + f z) f (λ z. occurs z h (mk m (e ∷ []) (us ++ rs)))
              (λ z. omega (arith, occurs_held z h m (e ∷ []) (us ++ rs) v.fan.leaf, total_append (occurs z (h - 1)) us rs)) balance_given;
          beside = beside_both T T₁ T₂ S S' f (λ z. same z m + f z) balance_given
              (beside_changed T T₁ S f (m ∷ []) (m ∷ map number us) made
              (λ z l. omega (arith, one_times z, balance_given.marks z, balance_given.bars z, guard_most S' z))
              (λ z l. omega (arith, tops z, balance_given.marks z, balance_given.bars z, guard_most S' z)))
              (beside_changed T₁ T₂ S' (λ z. same z m + f z) (m ∷ []) (map number rs ++ []) done.2
              (λ z l. omega (arith, one_times z, guard_most S' z))
              (λ z l. omega (arith, tops_new z, guard_most S' z)));
          taken = given.allowance;
        },
      )

-- the same calls in the words of the trees
pub crown_call : {K V : Type 0} (H G : List Head) (ks : List K) (vs : List V) (T₂ : Tables K V) (h m : ℕ) (e : K × V) (r : Result (Unit {0}) Fault) (l y : Tree (K × V)) (a b : ℕ) → number l ≡ a → number y ≡ b
    → G ≡ push_level H a m → InsertsIn (tables G ks vs) T₂ (h + 1) m 0 e b r → InsertsIn (tables (push_level H (number l) m) ks vs) T₂ (suc h) m 0 e (number y) r
crown_call H G ks vs T₂ h m e r l y a b p q s did =
    subst (λ k. InsertsIn (tables (push_level H (number l) m) ks vs) T₂ k m 0 e (number y) r) (let z : h + 1 ≡ suc h = omega arith in z)
    (subst (λ n. InsertsIn (tables (push_level H (number l) m) ks vs) T₂ (h + 1) m 0 e n r) (sym q)
    (subst (λ hs. InsertsIn (tables hs ks vs) T₂ (h + 1) m 0 e b r) (s ∙ ap (λ n. push_level H n m) (sym p)) did))

pub first_call : {K V : Type 0} (H G : List Head) (ks : List K) (vs : List V) (T₂ : Tables K V) (m : ℕ) (e : K × V) (r : Result (Unit {0}) Fault)
    → G ≡ new_leaf H m → InsertsIn (tables G ks vs) T₂ 0 m 0 e 0 r → InsertsIn (tables (new_leaf H m) ks vs) T₂ 0 m 0 e 0 r
first_call H G ks vs T₂ m e r s did = subst (λ hs. InsertsIn (tables hs ks vs) T₂ 0 m 0 e 0 r) s did

-- a new leaf
module _ {K V : Type 0} (H : List Head) (ks : List K) (vs : List V) {G : List Head} (T₂ : Tables K V) (S S' : Stock) (m : ℕ) (e : K × V) (r : Result (Unit {0}) Fault) (given : Given S S' m)
    (sized : Sized (tables H ks vs)) (made : (m < length H) × (G ≡ new_leaf H m)) (did : InsertsIn (tables G ks vs) T₂ 0 m 0 e 0 r) where
  pub first_leaf : (r ≡ Ok tt) × Planted (tables H ks vs) T₂ S S' (λ _. 0) (0, mk m (e ∷ []) []) 1
  first_leaf =
      crowned (tables H ks vs) (tables (new_leaf H m) ks vs) T₂ S S' 0 m e 0 r [] [] given sized (λ z. omega arith) (leaf_changed H ks vs m made.0) (leaf_root H ks vs m made.0)
      (record {
        body = leaf_node H ks vs m made.0;
        fan = record { leaf = λ z. refl; inner = λ z. absurd (omega arith) };
        linked = λ j l. absurd (omega arith);
        all = All-nil (Holds (tables (new_leaf H m) ks vs) (0 - 1));
      })
      (All-nil (Holds (tables (new_leaf H m) ks vs) (0 - 1))) (record { leaf = λ z. refl; inner = λ z. absurd (omega arith) }) (first_call H G ks vs T₂ m e r made.1 did)

-- a root above two trees
module _ {K V : Type 0} (H : List Head) (ks : List K) (vs : List V) (T₂ : Tables K V) (S S' : Stock) (h m : ℕ) (e : K × V) (r : Result (Unit {0}) Fault) (l y : Tree (K × V)) {a b : ℕ} {G : List Head} (given : Given S S' m)
    (sized : Sized (tables H ks vs)) (u : Holds (tables H ks vs) h l) (v : Holds (tables H ks vs) h y) (at-l : number l ≡ a) (at_y : number y ≡ b) (owned : (z : ℕ) → occurs z h l + occurs z h y ≤ mark S z)
    (pushed : (m < length H) × (a < length H) × (m ≡ a → ⊥) × (0 < length (head_in H m).edges) × (G ≡ push_level H a m))
    (call : InsertsIn (tables G ks vs) T₂ (h + 1) m 0 e b r) where
  abbrev T : Tables K V
  T = tables H ks vs

  abbrev T₁ : Tables K V
  T₁ = tables (push_level H (number l) m) ks vs

  inside : m < length H
  inside = pushed.0

  left_in : number l < length H
  left_in = omega (arith, pushed.1)

  other : m ≡ number l → ⊥
  other z = pushed.2 (z ∙ at-l)

  room : 0 < length (head_in H m).edges
  room = pushed.3

  did : InsertsIn T₁ T₂ (suc h) m 0 e (number y) r
  did = crown_call H G ks vs T₂ h m e r l y a b at-l at_y pushed.4 call

  made : Changed T T₁ (m ∷ []) (m ∷ number l ∷ [])
  made = push_changed H ks vs m inside (number l) left_in other room

  free : (z : ℕ) → same z m + (occurs z h l + occurs z h y) ≤ 1
  free z = omega (arith, (balanced_given S S' m (λ z. occurs z h l + occurs z h y) given).marks z, owned z, mark_most S' z)

  kept : All (Holds T₁ h) (l ∷ y ∷ [])
  kept =
      all_kept T T₁ (m ∷ []) (m ∷ number l ∷ []) h (l ∷ y ∷ []) made
      (λ z p. let q : times z (m ∷ []) ≡ same z m = omega arith in omega (arith, free z))
      (λ z p.
      let q : times z (m ∷ number l ∷ []) ≡ same z m + same z (number l) = omega arith in
      omega (arith, free z, tops_parts z h (l ∷ y ∷ []), tops_parts z h (l ∷ []), tops_parts z h (y ∷ [])))
      (all_two (Holds T h) l y u v)

  back : suc h - 1 ≡ h
  back = omega arith

  pub new_root : (r ≡ Ok tt) × Planted T T₂ S S' (λ z. occurs z h l + occurs z h y) (suc h, mk m (e ∷ []) (l ∷ y ∷ [])) 1
  new_root =
      let low : (z : ℕ) (t : Tree (K × V)) → occurs z (suc h - 1) t ≡ occurs z h t = λ z t. ap (λ k. occurs z k t) back in
      let held : All (Holds T₁ (suc h - 1)) (l ∷ y ∷ []) = subst (λ k. All (Holds T₁ k) (l ∷ y ∷ [])) (sym back) kept in
      let d =
      crowned T T₁ T₂ S S' (suc h) m e (number y) r (l ∷ []) (y ∷ []) given sized (λ z. omega (arith, owned z, low z l, low z y)) made (push_root H ks vs m inside (number l) left_in other room)
      (record {
        body = push_node H ks vs m inside (number l) left_in other room;
        fan = record { leaf = λ z. absurd (omega arith); inner = λ z. refl };
        linked = push_linked H ks vs m inside (number l) left_in other room;
        all = all_one (Holds T₁ (suc h - 1)) l (All-head (Holds T₁ (suc h - 1)) l (y ∷ []) held);
      })
      (All-tail (Holds T₁ (suc h - 1)) l (y ∷ []) held) (record { leaf = λ z. absurd (omega arith); inner = λ z. refl }) did in
      (d.0, planted_as (λ z. total (occurs z (suc h - 1)) (l ∷ []) + total (occurs z (suc h - 1)) (y ∷ [])) (λ z. occurs z h l + occurs z h y) (λ z. omega (arith, low z l, low z y)) d.1)

-- a number that was taken is none of a tree whose nodes were out
pub apart_from : {E : Type 0} (S S' : Stock) (m h : ℕ) (t : Tree E) → Given S S' m → ((x : ℕ) → occurs x h t ≤ mark S x) → m ≡ number t → ⊥
apart_from S S' m h t given owned e =
    let z : occurs m h t ≡ occurs (number t) h t = ap (λ x. occurs x h t) e in
    omega (arith, owned m, occurs_root h t, mark_unused S m given.unused)
