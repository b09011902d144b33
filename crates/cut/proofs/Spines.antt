-- A spine taken from the supply. Assumes nothing.
use Rattle.std.proofs.Common.{◌≡◌, ℕ, zero, suc, ◌+◌, ◌<◌, ◌≤◌, false, cond, eqb, List, [], ◌∷◌, length, sym, refl, ap, ◌∙◌, subst, ap₂, arith}
use Rattle.std.proofs.lemmas.List.Elements.{All-nil, All-cons}
use Rattle.std.proofs.lemmas.Bool.Decides.{nat_tests}
use Rattle.supply.specs.Stocks.{Stock, is_out, Given}
use Rattle.node.specs.declared.head.Head.{Head}
use Rattle.node.specs.Shape.{Tree, number, mk}
use Rattle.node.specs.Store.{Tables, tables, Node, Linked, Holds, Changed, head_in, times}
use Rattle.node.specs.Laws.{occurs, below, same}
use Rattle.node.specs.Balance.{mark, guard, Balanced}
use Rattle.node.specs.Levels.{new_leaf, push_level}
use Rattle.node.proofs.Numbers.{same_self, same_other, occurs_parts, occurs_below, occurs_mk}
use Rattle.node.proofs.Frames.{holds_node, holds_from, holds_from_leaf, frame_changed}
use Rattle.node.proofs.Balances.{mark_most, guard_most, bar_none, mark_unused, balanced_both, balanced_as, balanced_given, beside_both, beside_changed}
use Rattle.rules.proofs.Levels.{leaf_changed, leaf_node, leaf_root, push_changed, push_node, push_root, push_linked}
use Rattle.parts.specs.Rules.{spine}
use Rattle.cut.specs.Spine.{SpineTaken}

-- ---- the tree

module _ {E : Type 0} where
  pub spine_leaf : (fresh : ℕ → ℕ) → spine {E = E} fresh zero ≡ mk (fresh 0) [] []
  unfolding spine
  spine_leaf fresh = refl

  pub spine_inner : (fresh : ℕ → ℕ) (h : ℕ) → spine {E = E} fresh (suc h) ≡ mk (fresh (suc h)) [] (spine fresh h ∷ [])
  unfolding spine
  spine_inner fresh h = refl

  -- of the fresh numbers only those up to its height are read
  pub spine_agrees : (f g : ℕ → ℕ) (h : ℕ) → ((l : ℕ) → l ≤ h → f l ≡ g l) → spine {E = E} f h ≡ spine g h
  unfolding spine
  spine_agrees f g zero a = ap (λ n. mk n [] []) (a 0 (omega arith))
  spine_agrees f g (suc h) a = ap₂ (λ n k. mk n [] (k ∷ [])) (a (suc h) (omega arith)) (spine_agrees f g h (λ l q. a l (omega arith)))

-- another number at one height
abbrev pub topped : (ℕ → ℕ) → ℕ → ℕ → ℕ → ℕ
topped fresh h m l = cond (eqb l h) m (fresh l)

pub topped_at : (fresh : ℕ → ℕ) (h m : ℕ) → topped fresh h m h ≡ m
topped_at fresh h m = grind (arith, nat_tests)

pub topped_off : (fresh : ℕ → ℕ) (h m l : ℕ) → (l ≡ h → ⊥) → fresh l ≡ topped fresh h m l
topped_off fresh h m l n = grind (arith, nat_tests)

-- a number that was not out is none of those that were
pub unmarked : (S : Stock) (n x : ℕ) → is_out S n ≡ false → 0 < mark S x → same x n ≡ 0
unmarked S n x u l = same_other x n (λ (e : x ≡ n). let z : mark S x ≡ mark S n = ap (mark S) e in omega (arith, mark_unused S n u))

-- a number that is taken is none that was out or is barred
pub unguarded : (S S' : Stock) (n x : ℕ) → Given S S' n → 0 < guard S x → same x n ≡ 0
unguarded S S' n x d l = same_other x n (λ (e : x ≡ n). let z : guard S x ≡ guard S n = ap (guard S) e in omega (arith, mark_unused S n d.unused, bar_none S n d.allowed))

-- ---- tables and supply

-- a tree of numbers that were taken stands in what is out
taken_marked : (S S' : Stock) (g : ℕ → ℕ) → Balanced S S' (λ _. 0) g → (x : ℕ) → g x ≤ mark S' x
taken_marked S S' g b x = omega (arith, b.marks x)

module _ {K V : Type 0} where
  -- a leaf
  pub spine_first : (H : List Head) (ks : List K) (vs : List V) (S S' : Stock) (m : ℕ) → m < length H → Given S S' m → SpineTaken (tables H ks vs) (tables (new_leaf H m) ks vs) S S' zero m
  spine_first H ks vs S S' m m-in d =
      let fresh : ℕ → ℕ = λ _. m in
      let e : spine {E = K × V} fresh zero ≡ mk m [] [] = spine_leaf fresh in
      let f : (x : ℕ) → times x (m ∷ []) ≡ same x m = λ x. omega arith in
      let away : (x : ℕ) → 0 < guard S x → times x (m ∷ []) ≡ 0 = λ x l. omega (arith, unguarded S S' m x d l) in
      record {
        fresh = fresh;
        top = ap number e;
        holds = subst (Holds (tables (new_leaf H m) ks vs) zero) (sym e) (holds_from_leaf (tables (new_leaf H m) ks vs) m [] (leaf_node H ks vs m m-in));
        root = leaf_root H ks vs m m-in;
        balanced = balanced_as S S' (λ _. 0) (λ x. same x m + 0) (λ _. 0) (λ x. occurs x zero (spine {E = K × V} fresh zero))
            (λ x. omega (arith, ap (occurs x zero) e, occurs_parts {E = K × V} x zero (mk m [] []))) (balanced_given S S' m (λ _. 0) d);
        beside = beside_changed (tables H ks vs) (tables (new_leaf H m) ks vs) S (λ _. 0) (m ∷ []) (m ∷ []) (leaf_changed H ks vs m m-in) away away;
        allowance = omega (arith, d.allowance);
      }

  -- a node above a spine
  module _ (H H₁ : List Head) (ks : List K) (vs : List V) (S S₁ S₂ : Stock) (h c m : ℕ) (w : SpineTaken (tables H ks vs) (tables H₁ ks vs) S S₁ h c) (d : Given S₁ S₂ m) where
    abbrev low : Tree (K × V)
    low = spine w.fresh h

    marked : (x : ℕ) → occurs x h low ≤ mark S₁ x
    marked = taken_marked S S₁ (λ x. occurs x h low) w.balanced

    -- the new number is none of the spine's
    new_off : (x : ℕ) → 0 < occurs x h low → same x m ≡ 0
    new_off x l = unmarked S₁ m x d.unused (omega (arith, marked x))

    child_in : c < length H₁
    child_in = subst (λ n. n < length H₁) w.top (holds_node (tables H₁ ks vs) h low w.holds).inside

    root_marked : same c c ≤ occurs c h low
    root_marked = omega (arith, occurs_parts c h low, ap (same c) w.top)

    pub new_other : m ≡ c → ⊥
    new_other e = omega (arith, new_off c (omega (arith, root_marked, same_self c)), ap (same c) e, same_self c)

    pub new_child_in : c < length H₁
    new_child_in = child_in

    module _ (m-in : m < length H₁) (room : 0 < length (head_in H₁ m).edges) where
      abbrev T₁ : Tables K V
      T₁ = tables H₁ ks vs

      abbrev T₂ : Tables K V
      T₂ = tables (push_level H₁ c m) ks vs

      changed : Changed T₁ T₂ (m ∷ []) (m ∷ c ∷ [])
      changed = push_changed H₁ ks vs m m-in c child_in new_other room

      -- below the spine's own root
      root_off : (x : ℕ) → 0 < below x h low → same x c ≡ 0
      root_off x l = same_other x c (λ (e : x ≡ c).
          let z : same x (number low) ≡ 1 = ap (same x) (w.top ∙ sym e) ∙ same_self x in
          omega (arith, occurs_parts x h low, marked x, mark_most S₁ x))

      low_held : Holds T₂ h low
      low_held =
          frame_changed T₁ T₂ (m ∷ []) (m ∷ c ∷ []) h low changed
          (λ x l. omega (arith, new_off x l))
          (λ x l. omega (arith, new_off x (omega (arith, occurs_below x h low)), root_off x l))
          w.holds

      abbrev fresh' : ℕ → ℕ
      fresh' = topped w.fresh (suc h) m

      abbrev high : Tree (K × V)
      high = mk m [] (low ∷ [])

      made : spine fresh' (suc h) ≡ high
      made = spine_inner fresh' h ∙ ap₂ (λ n k. mk n [] (k ∷ [])) (topped_at w.fresh (suc h) m) (sym (spine_agrees w.fresh fresh' h (λ l q. topped_off w.fresh (suc h) m l (omega arith))))

      high_held : Holds T₂ (suc h) high
      high_held =
          holds_from T₂ h m [] (low ∷ [])
          (subst (λ n. Node T₂ m [] (n ∷ [])) (sym w.top) (push_node H₁ ks vs m m-in c child_in new_other room))
          refl
          (subst (λ n. Linked T₂ m 0 (n ∷ [])) (sym w.top) (push_linked H₁ ks vs m m-in c child_in new_other room))
          (All-cons (Holds T₂ h) low [] low_held (All-nil (Holds T₂ h)))

      pub spine_more : SpineTaken (tables H ks vs) T₂ S S₂ (suc h) m
      spine_more = record {
        fresh = fresh';
        top = ap number made;
        holds = subst (Holds T₂ (suc h)) (sym made) high_held;
        root = push_root H₁ ks vs m m-in c child_in new_other room;
        balanced = balanced_as S S₂ (λ _. 0) (λ x. same x m + occurs x h low) (λ _. 0) (λ x. occurs x (suc h) (spine fresh' (suc h)))
            (λ x. omega (arith, ap (occurs x (suc h)) made, occurs_mk x h m [] (low ∷ [])))
            (balanced_both S S₁ S₂ (λ _. 0) (λ x. occurs x h low) (λ x. same x m + occurs x h low) w.balanced (balanced_given S₁ S₂ m (λ x. occurs x h low) d));
        beside = beside_both (tables H ks vs) T₁ T₂ S S₁ (λ _. 0) (λ x. occurs x h low) w.balanced w.beside
            (beside_changed T₁ T₂ S₁ (λ x. occurs x h low) (m ∷ []) (m ∷ c ∷ []) changed
            (λ x l. omega (arith, unguarded S₁ S₂ m x d (omega arith)))
            (λ x l. omega (arith, unguarded S₁ S₂ m x d (omega arith), beside_root x l)));
        allowance = omega (arith, w.allowance, d.allowance);
      }
        where
          beside_root : (x : ℕ) → occurs x h low < guard S₁ x → same x c ≡ 0
          beside_root x l = same_other x c (λ (e : x ≡ c).
              let z : same x (number low) ≡ 1 = ap (same x) (w.top ∙ sym e) ∙ same_self x in
              omega (arith, occurs_parts x h low, guard_most S₁ x))
