-- Nodes given back one after another, up to a root. Assumes nothing.
use Rattle.std.proofs.Common.{◌≡◌, ℕ, zero, suc, ◌+◌, ◌-◌, ◌<◌, ◌≤◌, true, false, List, [], ◌∷◌, length, is_err, Ok, Err, All, Result, sym, refl, ap, ◌∙◌, subst, arith}
use Rattle.std.proofs.lemmas.List.Elements.{All-tail}
use Rattle.std.proofs.lemmas.Result.{IfOk-from_err, IfOk-weaker}
use Rattle.supply.specs.declared.faults.Fault.{Fault}
use Rattle.supply.specs.declared.faults.Fault.TheVariants.{Breach}
use Rattle.supply.specs.Stocks.{Stock, is_out, Returned}
use Rattle.node.specs.declared.head.Head.{Head}
use Rattle.node.specs.Balance.{Balanced}
use Rattle.node.specs.Laws.{same}
use Rattle.node.specs.Store.{head_in, times}
use Rattle.node.proofs.Balances.{mark_unused, balanced_none, balanced_both, balanced_returned}
use Rattle.node.proofs.Frames.{height_suc}
use Rattle.node.proofs.Numbers.{same_self}
use Rattle.node.specs.Breaches.{Breached}
use Rattle.walk.specs.Climbs.{ups, Tops}
use Rattle.walk.specs.Leaving.{Leaves}

module _ (H : List Head) where
  ups_zero : (m : ℕ) → ups H zero m ≡ []
  unfolding ups
  ups_zero m = refl

  ups_suc : (n m : ℕ) → ups H (suc n) m ≡ m ∷ ups H n (head_in H m).parent
  unfolding ups
  ups_suc n m = refl

  ups_none : (n m : ℕ) → n ≡ 0 → ups H n m ≡ []
  ups_none n m z = ap (λ k. ups H k m) z ∙ ups_zero m

  ups_more : (n m : ℕ) → 0 < n → ups H n m ≡ m ∷ ups H (n - 1) (head_in H m).parent
  ups_more n m l = ap (λ k. ups H k m) (height_suc n l) ∙ ups_suc (n - 1) m

  pub leaves_none : (S : Stock) (n m : ℕ) → n ≡ 0 → Leaves S S H n m (Ok tt)
  leaves_none S n m z = record {
    fault = tt;
    given = subst (λ xs. Balanced S S (λ x. times x xs) (λ _. 0)) (sym (ups_none n m z)) (balanced_none S (λ _. 0));
    whole = λ a b. refl;
  }

  pub leaves_outside : (S S' : Stock) (n m : ℕ) → 0 < n → length H ≤ m → Leaves S S' H n m (Err Breach)
  leaves_outside S S' n m l o = record {
    fault = refl;
    given = tt;
    whole = λ a b. absurd (let c = subst (λ xs. All (λ x. x < length H) xs) (ups_more n m l) a in omega (arith, c 0 m (omega arith)));
  }

  pub leaves_declined : (S S' : Stock) (n m : ℕ) (r : Result (Unit {0}) Fault) → 0 < n → is_err r ≡ true → Breached r → is_out S m ≡ false → Leaves S S' H n m r
  leaves_declined S S' n m r l e f o = record {
    fault = f;
    given = IfOk-from_err r _ e;
    whole = λ a b. absurd (omega (arith, b m, ap (times m) (ups_more n m l), same_self m, mark_unused S m o));
  }

  pub leaves_more : (S S₁ S' : Stock) (n m : ℕ) (r : Result (Unit {0}) Fault) → 0 < n → Returned S S₁ m → Leaves S₁ S' H (n - 1) (head_in H m).parent r → Leaves S S' H n m r
  leaves_more S S₁ S' n m r l e w =
      let f : ℕ → ℕ = λ x. times x (ups H (n - 1) (head_in H m).parent) in
      let u = ups_more n m l in
      record {
        fault = w.fault;
        given = IfOk-weaker r (λ _. Balanced S₁ S' f (λ _. 0)) (λ _. Balanced S S' (λ x. times x (ups H n m)) (λ _. 0))
            (λ _ b. subst (λ xs. Balanced S S' (λ x. times x xs) (λ _. 0)) (sym u) (balanced_both S S₁ S' (λ x. same x m + f x) f (λ _. 0) (balanced_returned S S₁ m f e) b)) w.given;
        whole = λ a b. w.whole (All-tail (λ x. x < length H) m (ups H (n - 1) (head_in H m).parent) (subst (λ xs. All (λ x. x < length H) xs) u a)) (λ x. omega (arith, b x, ap (times x) u, (balanced_returned S S₁ m (λ _. 0) e).marks x));
      }

  -- ---- up to the root

  pub tops_inside : (n m : ℕ) → Tops H n m → m < length H
  unfolding Tops
  tops_inside zero m w = w.0
  tops_inside (suc n) m w = w.0

  pub tops_root : (n m : ℕ) → Tops H n m → (head_in H m).parent ≡ 65535 → n ≡ 0
  unfolding Tops
  tops_root zero m w e = refl
  tops_root (suc n) m w e = absurd (omega (arith, w.1))

  pub tops_on : (n m : ℕ) → Tops H n m → ((head_in H m).parent ≡ 65535 → ⊥) → (0 < n) × Tops H (n - 1) (head_in H m).parent
  unfolding Tops
  tops_on zero m w e = absurd (e w.1)
  tops_on (suc n) m w e = (omega arith, subst (λ k. Tops H k (head_in H m).parent) (omega arith) w.2)

  -- the answer of a search for the root, from a level on
  abbrev pub Deep : ℕ → ℕ → Result ℕ Fault → Type 0
  Deep level m r = (n : ℕ) → level + n ≤ 5 → Tops H n m → r ≡ Ok (level + n)

  pub deep_here : (level m : ℕ) → (head_in H m).parent ≡ 65535 → Deep level m (Ok level)
  deep_here level m e n l w = let z : level ≡ level + n = omega (arith, tops_root n m w e) in ap (λ k. Ok k) z

  pub deep_more : (level m : ℕ) (r : Result ℕ Fault) → ((head_in H m).parent ≡ 65535 → ⊥) → Deep (level + 1) (head_in H m).parent r → Deep level m r
  deep_more level m r e d n l w =
      let a = tops_on n m w e in
      let z : level + 1 + (n - 1) ≡ level + n = omega (arith, a.0) in
      subst (λ k. r ≡ Ok k) z (d (n - 1) (omega arith) a.1)
