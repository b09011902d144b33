-- One change of tables and supply after another. Assumes nothing.
use Rattle.std.proofs.Common.{◌≡◌, ℕ, ◌+◌, ◌<◌, ◌≤◌, Bool, true, false, cond, eqb, List, refl, sym, ap, ◌∙◌, arith, eqb-true}
use borrow.Author.Tests.{eqb-false}
use Rattle.std.proofs.lemmas.Bool.{true≢false}
use Rattle.supply.specs.Stocks.{Stock, is_out, is_barred, barred_by, Given, Returned}
use Rattle.node.specs.Store.{Tables, Sized, Changed, times}
use Rattle.node.specs.Laws.{same}
use Rattle.node.specs.Balance.{mark, bar, guard, Balanced, Beside, Spared, FrameBeside}
use Rattle.node.proofs.Frames.{frame}
use Rattle.node.proofs.Numbers.{occurs_below}

pub mark_out : (S : Stock) (x : ℕ) → is_out S x ≡ true → mark S x ≡ 1
mark_out S x e = ap (λ b. cond b 1 0) e

pub mark_unused : (S : Stock) (x : ℕ) → is_out S x ≡ false → mark S x ≡ 0
mark_unused S x e = ap (λ b. cond b 1 0) e

pub mark_most : (S : Stock) (x : ℕ) → mark S x ≤ 1
mark_most S x = elim (is_out S x) as (λ b. cond b 1 0 ≤ 1) [ true ↦ omega arith | false ↦ omega arith ]

pub guard_most : (S : Stock) (x : ℕ) → guard S x ≤ 1
guard_most S x = go (is_out S x) (is_barred S x)
  where
    go : (a b : Bool) → cond a 1 0 + cond a 0 (cond b 1 0) ≤ 1
    go true b = omega arith
    go false true = omega arith
    go false false = omega arith

-- a number that is neither out nor barred
pub bar_none : (S : Stock) (x : ℕ) → is_barred S x ≡ false → bar S x ≡ 0
bar_none S x e = go (is_out S x) (is_barred S x) e
  where
    go : (a b : Bool) → b ≡ false → ◌≡◌ {A = ℕ} (cond a 0 (cond b 1 0)) 0
    go true b q = refl
    go false b q = ap (λ c. cond c 1 0) q

-- a number whose mark stays, where what stands aside stays
pub bar_same : (S S' : Stock) (x : ℕ) → S'.aside ≡ S.aside → is_out S' x ≡ is_out S x → bar S' x ≡ bar S x
bar_same S S' x a e = ap (λ o. cond o 0 (cond (barred_by S'.aside.barred x) 1 0)) e ∙ ap (λ d. cond (is_out S x) 0 (cond (barred_by d.barred x) 1 0)) a

-- ---- supplies

pub balanced_none : (S : Stock) (f : ℕ → ℕ) → Balanced S S f f
balanced_none S f = record { size = refl; marks = λ x. refl; allowance = refl; aside = refl; bars = λ x. refl }

pub balanced_both : (S S' S'' : Stock) (f g k : ℕ → ℕ) → Balanced S S' f g → Balanced S' S'' g k → Balanced S S'' f k
balanced_both S S' S'' f g k u v = record {
  size = v.size ∙ u.size;
  marks = λ x. omega (arith, u.marks x, v.marks x);
  allowance = v.allowance ∙ u.allowance;
  aside = v.aside ∙ u.aside;
  bars = λ x. v.bars x ∙ u.bars x;
}

-- the numbers matter only by how often each is there, and others may stand beside them
pub balanced_as : (S S' : Stock) (f g f' g' : ℕ → ℕ) → ((x : ℕ) → f' x + g x ≡ f x + g' x) → Balanced S S' f g → Balanced S S' f' g'
balanced_as S S' f g f' g' e u = record { size = u.size; marks = λ x. omega (arith, u.marks x, e x); allowance = u.allowance; aside = u.aside; bars = u.bars }

-- a number taken, and one given back
pub balanced_given : (S S' : Stock) (n : ℕ) (f : ℕ → ℕ) → Given S S' n → Balanced S S' f (λ x. same x n + f x)
balanced_given S S' n f e = record {
  size = e.size;
  marks = λ x. go x (eqb x n) refl;
  allowance = omega (arith, e.allowance, e.outs);
  aside = e.aside;
  bars = λ x. side x (eqb x n) refl;
}
  where
    at : bar S' n ≡ bar S n
    at = omega (arith, bar_none S n e.allowed, bar_none S' n (ap (λ d. barred_by d.barred n) e.aside ∙ e.allowed))

    side : (x : ℕ) (b : Bool) → eqb x n ≡ b → bar S' x ≡ bar S x
    side x true q = let z : x ≡ n = eqb-true x n q in ap (bar S') z ∙ at ∙ sym (ap (bar S) z)
    side x false q = bar_same S S' x e.aside (e.others x (eqb-false x n q))

    go : (x : ℕ) (b : Bool) → eqb x n ≡ b → mark S' x + f x ≡ mark S x + (cond b 1 0 + f x)
    go x true q =
        let z : x ≡ n = eqb-true x n q in
        omega (arith, ap (mark S) z, ap (mark S') z, mark_out S' n e.out, mark_unused S n e.unused)
    go x false q = let z : mark S' x ≡ mark S x = ap (λ b. cond b 1 0) (e.others x (eqb-false x n q)) in omega arith

pub balanced_returned : (S S' : Stock) (n : ℕ) (f : ℕ → ℕ) → Returned S S' n → Balanced S S' (λ x. same x n + f x) f
balanced_returned S S' n f e = record {
  size = e.size;
  marks = λ x. go x (eqb x n) refl;
  allowance = omega (arith, e.allowance, e.outs);
  aside = e.aside;
  bars = λ x. side x (eqb x n) refl;
}
  where
    at : bar S' n ≡ bar S n
    at = omega (arith, bar_none S n e.allowed, bar_none S' n (ap (λ d. barred_by d.barred n) e.aside ∙ e.allowed))

    side : (x : ℕ) (b : Bool) → eqb x n ≡ b → bar S' x ≡ bar S x
    side x true q = let z : x ≡ n = eqb-true x n q in ap (bar S') z ∙ at ∙ sym (ap (bar S) z)
    side x false q = bar_same S S' x e.aside (e.others x (eqb-false x n q))

    go : (x : ℕ) (b : Bool) → eqb x n ≡ b → mark S' x + (cond b 1 0 + f x) ≡ mark S x + f x
    go x true q =
        let z : x ≡ n = eqb-true x n q in
        omega (arith, ap (mark S) z, ap (mark S') z, mark_out S n e.was_out, mark_unused S' n e.unused)
    go x false q = let z : mark S' x ≡ mark S x = ap (λ b. cond b 1 0) (e.others x (eqb-false x n q)) in omega arith

-- ---- tables

module _ {K V : Type 0} where
  pub beside_none : (T : Tables K V) (S : Stock) (f : ℕ → ℕ) → Beside T T S f
  beside_none T S f = record {
    heads_len = refl;
    keys_len = refl;
    values_len = refl;
    bodies = λ x l. record { len_same = refl; edges_same = refl; keys_same = refl; values_same = refl };
    links = λ x l. record { parent_same = refl; place_same = refl };
  }

  pub beside_both : (T T' T'' : Tables K V) (S S' : Stock) (f g : ℕ → ℕ) → Balanced S S' f g → Beside T T' S f → Beside T' T'' S' g → Beside T T'' S f
  beside_both T T' T'' S S' f g e u v = record {
    heads_len = v.heads_len ∙ u.heads_len;
    keys_len = v.keys_len ∙ u.keys_len;
    values_len = v.values_len ∙ u.values_len;
    bodies = λ x l.
        let p = u.bodies x l in
        let q = v.bodies x (omega (arith, e.marks x, e.bars x)) in
        record { len_same = q.len_same ∙ p.len_same; edges_same = q.edges_same ∙ p.edges_same; keys_same = q.keys_same ∙ p.keys_same; values_same = q.values_same ∙ p.values_same };
    links = λ x l.
        let p = u.links x l in
        let q = v.links x (omega (arith, e.marks x, e.bars x)) in
        record { parent_same = q.parent_same ∙ p.parent_same; place_same = q.place_same ∙ p.place_same };
  }

  -- a larger part leaves less beside it
  pub beside_more : (T T' : Tables K V) (S : Stock) (f g : ℕ → ℕ) → ((x : ℕ) → f x ≤ g x) → Beside T T' S f → Beside T T' S g
  beside_more T T' S f g e u = record {
    heads_len = u.heads_len;
    keys_len = u.keys_len;
    values_len = u.values_len;
    bodies = λ x l. u.bodies x (omega (arith, e x));
    links = λ x l. u.links x (omega (arith, e x));
  }

  pub beside_changed : (T T' : Tables K V) (S : Stock) (f : ℕ → ℕ) (bs ls : List ℕ) → Changed T T' bs ls
      → ((x : ℕ) → f x < guard S x → times x bs ≡ 0) → ((x : ℕ) → f x < guard S x → times x ls ≡ 0) → Beside T T' S f
  beside_changed T T' S f bs ls c p q = record {
    heads_len = c.heads_len;
    keys_len = c.keys_len;
    values_len = c.values_len;
    bodies = λ x l. c.bodies x (p x l);
    links = λ x l. c.links x (q x l);
  }

  pub beside_holds : FrameBeside K V
  beside_holds T T' S f h t b e w =
      frame T T' h t b.heads_len (λ x p. b.bodies x (omega (arith, e x))) (λ x p. b.links x (omega (arith, e x, occurs_below x h t))) w

  -- nothing that is barred has changed, where no number of the part is
  pub beside_spared : (T T' : Tables K V) (S : Stock) (f : ℕ → ℕ) → Beside T T' S f → ((x : ℕ) → f x ≤ mark S x) → ((x : ℕ) → is_out S x ≡ true → is_barred S x ≡ false) → Spared T T' S
  beside_spared T T' S f b o clear x q = (b.bodies x low, b.links x low)
    where
      not_out : (c : Bool) → is_out S x ≡ c → c ≡ false
      not_out true e = absurd (true≢false (sym q ∙ clear x e))
      not_out false e = refl

      bar_is : (c : Bool) → is_out S x ≡ c → c ≡ false → bar S x ≡ 1
      bar_is c e z = ap (λ d. cond d 0 (cond (is_barred S x) 1 0)) (e ∙ z) ∙ ap (λ d. cond d 1 0) q

      low : f x < guard S x
      low = omega (arith, o x, mark_unused S x (not_out (is_out S x) refl), bar_is (is_out S x) refl (not_out (is_out S x) refl))

  pub spared_none : (T : Tables K V) (S : Stock) → Spared T T S
  spared_none T S x q = (record { len_same = refl; edges_same = refl; keys_same = refl; values_same = refl }, record { parent_same = refl; place_same = refl })

  pub beside_sized : (T T' : Tables K V) (S : Stock) (f : ℕ → ℕ) → Beside T T' S f → Sized T → Sized T'
  beside_sized T T' S f b s = record {
    most = omega (arith, b.heads_len, s.most);
    keys_room = omega (arith, b.heads_len, b.keys_len, s.keys_room);
    values_room = omega (arith, b.heads_len, b.values_len, s.values_room);
  }
