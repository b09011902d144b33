-- Both parts of a cut in the tables, their borders repaired one after the other. Assumes nothing.
use Rattle.node.specs.Kinds.{root_of}
use Rattle.std.proofs.Common.{◌≡◌, ℕ, zero, suc, ◌+◌, ◌<◌, ◌≤◌, Bool, [], ◌∷◌, ◌++◌, length, take, drop, Ok, Result, Ordering, sym, ap, ◌∙◌, subst, ap₂, arith}
use Rattle.supply.specs.declared.faults.Fault.{Fault}
use Rattle.supply.specs.Stocks.{Stock}
use Rattle.node.specs.declared.ends.Side.TheVariants.{First, Last}
use Rattle.node.specs.declared.nodes.NodeRef.{NodeRef}
use Rattle.node.specs.Shape.{Tree, node, none, number, row, kids, kid, mk}
use Rattle.node.specs.Sorted.{index}
use Rattle.node.specs.Store.{Tables, Holds}
use Rattle.node.specs.Laws.{occurs}
use Rattle.node.specs.Balance.{mark, Owns, Rooted, Balanced}
use Rattle.node.proofs.Balances.{balanced_none, balanced_both, balanced_as, beside_both, beside_more, beside_holds, beside_sized}
use Rattle.node.proofs.Frames.{holds_fan, holds_kid}
use Rattle.node.proofs.Numbers.{occurs_root, occurs_parts, occurs_mk}
use Rattle.node.proofs.Weaves.{total_append, total_around}
use Rattle.node.proofs.Tabled.{ok_same}
use Rattle.rules.proofs.Ways.{index_le}
use Rattle.parts.specs.Rules.{cut_left, cut_right, spine}
use Rattle.repair.specs.Repair.{Topped, Repairs}
use Rattle.cut.specs.Spine.{SpineTaken}
use Rattle.cut.specs.Descent.{beneath, Parted, Cuts}
use Rattle.cut.specs.Split.{left_of, right_of, made_of, Halved, HalvesAt}
use Rattle.cut.proofs.Descends.{left_number, right_number}

-- the numbers of both parts are those of the tree and of the spine
pub cut_occurs : {K V : Type 0} (T : Tables K V) (b : (K × V) → Bool) (fresh : ℕ → ℕ) (x h : ℕ) (t : Tree (K × V)) → Holds T h t
    → occurs x h (cut_left b h t) + occurs x h (cut_right fresh b h t) ≡ occurs x h t + occurs x h (spine {E = K × V} fresh h)
unfolding cut_left cut_right spine
cut_occurs {K} {V} T b fresh x zero t w =
    omega (
      arith,
      occurs_parts x zero (mk (number t) (take (index b (row t)) (row t)) []),
      occurs_parts x zero (mk (fresh 0) (drop (index b (row t)) (row t)) []),
      occurs_parts x zero t,
      occurs_parts {E = K × V} x zero (mk (fresh 0) [] []),
    )
cut_occurs {K} {V} T b fresh x (suc h) t w =
    let i : ℕ = index b (row t) in
    let in' : i < length (kids t) = omega (arith, index_le b (row t), holds_fan T h t w) in
    omega (
      arith,
      cut_occurs T b fresh x h (kid t i) (holds_kid T h t i w in'),
      occurs_mk x h (number t) (take i (row t)) (take i (kids t) ++ cut_left b h (kid t i) ∷ []),
      occurs_mk x h (fresh (suc h)) (drop i (row t)) (cut_right fresh b h (kid t i) ∷ drop (suc i) (kids t)),
      total_append (occurs x h) (take i (kids t)) (cut_left b h (kid t i) ∷ []),
      total_around (occurs x h) (kids t) i (node 0 [] none) in',
      occurs_parts x (suc h) t,
      occurs_mk {E = K × V} x h (fresh (suc h)) [] (spine fresh h ∷ []),
    )

module _ {K V : Type 0} (place : K → Ordering) (T : Tables K V) (S : Stock) (h m : ℕ) (t : Tree (K × V)) (o : Owns T S h t) (e : number t ≡ m) (z : Rooted T m) (low : h ≤ 5)
    (T₁ : Tables K V) (S₁ : Stock) (n : ℕ) (taken : SpineTaken T T₁ S S₁ h n) where
  abbrev fresh : ℕ → ℕ
  fresh = taken.fresh

  abbrev v : Tree (K × V)
  v = spine fresh h

  abbrev b : K × V → Bool
  b = beneath place

  -- a spine was taken
  free : (x : ℕ) → occurs x h t + occurs x h v ≤ mark S₁ x
  free x = omega (arith, taken.balanced.marks x, o.owned x)

  here : 0 < occurs m h t
  here = subst (λ k. 0 < occurs k h t) e (occurs_root h t)

  held₁ : Holds T₁ h t
  held₁ = beside_holds T T₁ S (λ _. 0) h t taken.beside (λ x. omega (arith, o.owned x)) o.holds

  root₁ : Rooted T₁ m
  root₁ = (taken.beside.links m (omega (arith, here, o.owned m))).parent_same ∙ z

  abbrev L : Tree (K × V)
  L = cut_left b h t

  abbrev R : Tree (K × V)
  R = cut_right fresh b h t

  sums : (x : ℕ) → occurs x h L + occurs x h R ≡ occurs x h t + occurs x h v
  sums x = cut_occurs T b fresh x h t o.holds

  module _ (T₂ : Tables K V) (q : Result ℕ Fault) (did : Cuts place T₁ T₂ h m n q) where
    pub cut_done : (q ≡ Ok (made_of place h t)) × Parted place T₁ T₂ S₁ h t fresh
    unfolding Cuts
    cut_done = did S₁ t fresh (beside_sized T T₁ S (λ _. 0) taken.beside o.sized) held₁ taken.holds e taken.top free

    parted : Parted place T₁ T₂ S₁ h t fresh
    parted = cut_done.1

    left_owns : Owns T₂ S₁ h L
    left_owns = record {
      sized = beside_sized T₁ T₂ S₁ (λ x. occurs x h t + occurs x h v) parted.beside (beside_sized T T₁ S (λ _. 0) taken.beside o.sized);
      fits = omega (arith, taken.balanced.size, o.fits, taken.beside.heads_len, parted.beside.heads_len);
      holds = parted.left;
      owned = λ x. omega (arith, sums x, free x);
    }

    left_is : number L ≡ m
    left_is = left_number b h t ∙ e

    right_is : number R ≡ n
    right_is = right_number fresh b h t ∙ taken.top

    root₂ : Rooted T₂ m
    root₂ = subst (λ k. Rooted T₁ k → Rooted T₂ k) e (λ y. parted.left_link.parent_same ∙ y) root₁

    root₃ : Rooted T₂ n
    root₃ = subst (λ k. Rooted T₁ k → Rooted T₂ k) taken.top (λ y. parted.right_link.parent_same ∙ y) taken.root

    module _ (T₃ : Tables K V) (S₃ : Stock) (q₂ : Result NodeRef Fault) (did₂ : Repairs Last T₂ T₃ S₁ S₃ h m q₂) where
      abbrev l : ℕ × Tree (K × V)
      l = left_of place h t

      pub left_done : Topped T₂ T₃ S₁ S₃ h L l q₂
      unfolding Repairs
      left_done = did₂ L left_owns left_is root₂ low

      abbrev f_l : ℕ → ℕ
      f_l x = occurs x h L

      gained : (x : ℕ) → mark S₃ x + occurs x h L ≡ mark S₁ x + occurs x l.0 l.1
      gained x = left_done.became.balanced.marks x

      right_here : 0 < occurs n h R
      right_here = subst (λ k. 0 < occurs k h R) right_is (occurs_root h R)

      right_owns : Owns T₃ S₃ h R
      right_owns = record {
        sized = beside_sized T₂ T₃ S₁ f_l left_done.became.beside left_owns.sized;
        fits = omega (arith, left_done.became.balanced.size, left_owns.fits, left_done.became.beside.heads_len);
        holds = beside_holds T₂ T₃ S₁ f_l h R left_done.became.beside (λ x. omega (arith, sums x, free x)) parted.right;
        owned = λ x. omega (arith, gained x, sums x, free x);
      }

      root₄ : Rooted T₃ n
      root₄ = (left_done.became.beside.links n (omega (arith, right_here, sums n, free n))).parent_same ∙ root₃

      module _ (T₄ : Tables K V) (S₄ : Stock) (q₃ : Result NodeRef Fault) (did₃ : Repairs First T₃ T₄ S₃ S₄ h n q₃) where
        abbrev r : ℕ × Tree (K × V)
        r = right_of place fresh h t

        pub right_done : Topped T₃ T₄ S₃ S₄ h R r q₃
        unfolding Repairs
        right_done = did₃ R right_owns right_is root₄ low

        abbrev f_r : ℕ → ℕ
        f_r x = occurs x h R

        abbrev g_l : ℕ → ℕ
        g_l x = occurs x l.0 l.1

        abbrev g_r : ℕ → ℕ
        g_r x = occurs x r.0 r.1

        abbrev f₀ : ℕ → ℕ
        f₀ x = occurs x h t

        abbrev f₁ : ℕ → ℕ
        f₁ x = occurs x h t + occurs x h v

        bal₁ : Balanced S S₁ f₀ f₁
        bal₁ = balanced_as S S₁ (λ _. 0) (λ x. occurs x h v) f₀ f₁ (λ x. omega arith) taken.balanced

        bal₂ : Balanced S₁ S₃ f₁ (λ x. g_l x + f_r x)
        bal₂ = balanced_as S₁ S₃ f_l g_l f₁ (λ x. g_l x + f_r x) (λ x. omega (arith, sums x)) left_done.became.balanced

        bal₃ : Balanced S₃ S₄ (λ x. g_l x + f_r x) (λ x. g_l x + g_r x)
        bal₃ = balanced_as S₃ S₄ f_r g_r (λ x. g_l x + f_r x) (λ x. g_l x + g_r x) (λ x. omega arith) right_done.became.balanced

        left_kept : (x : ℕ) → f_r x + g_l x ≤ mark S₃ x
        left_kept x = omega (arith, gained x, sums x, free x)

        left_top : 0 < g_l (number l.1)
        left_top = occurs_root l.0 l.1

        pub halved : Halved T T₄ S S₄ h t l r
        halved = record {
          left = beside_holds T₃ T₄ S₃ f_r l.0 l.1 right_done.became.beside left_kept left_done.became.holds;
          right = right_done.became.holds;
          left_root = (right_done.became.beside.links (number l.1) (omega (arith, left_top, left_kept (number l.1)))).parent_same ∙ left_done.root;
          right_root = right_done.root;
          balanced = balanced_both S S₁ S₄ f₀ f₁ (λ x. g_l x + g_r x) bal₁ (balanced_both S₁ S₃ S₄ f₁ (λ x. g_l x + f_r x) (λ x. g_l x + g_r x) bal₂ bal₃);
          beside = beside_both T T₁ T₄ S S₁ f₀ f₁ bal₁ (beside_more T T₁ S (λ _. 0) f₀ (λ x. omega arith) taken.beside)
              (beside_both T₁ T₂ T₄ S₁ S₁ f₁ f₁ (balanced_none S₁ f₁) parted.beside
              (beside_both T₂ T₃ T₄ S₁ S₃ f₁ (λ x. g_l x + f_r x) bal₂
              (beside_more T₂ T₃ S₁ f_l f₁ (λ x. omega (arith, sums x)) left_done.became.beside)
              (beside_more T₃ T₄ S₃ f_r (λ x. g_l x + f_r x) (λ x. omega arith) right_done.became.beside)));
        }

        pub halves_at : (made : ℕ) (left right : NodeRef) → q ≡ Ok made → q₂ ≡ Ok left → q₃ ≡ Ok right → HalvesAt place T T₄ S S₄ h t (Ok (left, right, made))
        halves_at made left right a c d = record {
          fresh = fresh;
          answer = same_three (ok_same _ _ (sym c ∙ left_done.answer)) (ok_same _ _ (sym d ∙ right_done.answer)) (ok_same _ _ (sym a ∙ cut_done.0));
          halved = halved;
        }
          where
            same_three : left ≡ root_of l → right ≡ root_of r → made ≡ made_of place h t
                → ◌≡◌ {A = Result (NodeRef × NodeRef × ℕ) Fault} (Ok (left, right, made)) (Ok (root_of l, root_of r, made_of place h t))
            same_three x y w = ap (λ k. Ok (k, right, made)) x ∙ ap₂ (λ k j. Ok (root_of l, k, j)) y w
