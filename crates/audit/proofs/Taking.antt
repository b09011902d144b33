-- What a pass takes: node numbers, told by how often each is there, and keys. Assumes nothing.
use Rattle.std.proofs.Common.{◌≡◌, ℕ, ◌+◌, ◌<◌, ◌≤◌, Bool, true, false, cond, List, [], ◌++◌, length, get_or, sym, refl, ap, ◌∙◌, subst, ⊎_elim, arith, length-set}
use Rattle.std.proofs.lemmas.List.{get_or-set_same, get_or-set_other, get_or_default, get_or_past}
use Rattle.std.proofs.lemmas.Bool.{cases_eq, cases_lt, both_ways}
use Rattle.std.specs.declared.cmp.Ordering.{Ordering}
use Rattle.node.specs.Laws.{same}
use Rattle.node.proofs.Numbers.{same_self, same_other}
use Rattle.audit.specs.declared.marks.Met.{Met}
use Rattle.audit.specs.Marks.{weight, Unmet, with_mark}
use Rattle.audit.specs.Runs.{Notes, noted}
use Rattle.audit.specs.Passes.{Trail, marked, noting}
use Rattle.audit.proofs.Notes.{noted_append, notes_parts, noted_nil}

-- ---- marks

pub unmet_below : (m : Met) (x : ℕ) → Unmet m x → x < length m.nodes
unmet_below m x u = ⊎_elim (λ (l : x < length m.nodes). l) (λ (l : length m.nodes ≤ x). absurd (both_ways true (sym (get_or_past m.nodes x true l) ∙ u) refl)) (cases_lt x (length m.nodes))

pub unmet_weight : (m : Met) (x : ℕ) → Unmet m x → weight m x ≡ 0
unmet_weight m x u = ap (λ b. cond b 1 0) (get_or_default m.nodes x false true (unmet_below m x u) ∙ u)

pub weight_unmet : (m : Met) (x : ℕ) → x < length m.nodes → weight m x ≡ 0 → Unmet m x
weight_unmet m x l z = get_or_default m.nodes x true false l ∙ go (get_or m.nodes x false) z
  where
    go : (b : Bool) → ◌≡◌ {A = ℕ} (cond b 1 0) 0 → b ≡ false
    go true z = absurd (omega arith)
    go false z = refl

pub weight_marked : (m : Met) (x y : ℕ) → Unmet m x → weight (with_mark m x) y ≡ weight m y + same y x
weight_marked m x y u =
    ⊎_elim
    (λ (e : y ≡ x).
    let a : weight (with_mark m x) x ≡ 1 = ap (λ b. cond b 1 0) (get_or-set_same m.nodes x true false (unmet_below m x u)) in
    let b : weight m x ≡ 0 = unmet_weight m x u in
    let c : same x x ≡ 1 = same_self x in
    subst (λ y. weight (with_mark m x) y ≡ weight m y + same y x) (sym e) (omega arith))
    (λ (e : y ≡ x → ⊥).
    let a : weight (with_mark m x) y ≡ weight m y = ap (λ b. cond b 1 0) (get_or-set_other m.nodes x y true false e) in
    let c : same y x ≡ 0 = same_other y x e in
    omega arith)
    (cases_eq y x)

-- ---- what was taken, and what can be

module _ {K : Type 0} where
  pub record Took (w : ℕ → ℕ) (ks : List K) (s s' : Trail K) : Type 0 where
    pub met : (x : ℕ) → weight s'.met x ≡ weight s.met x + w x
    pub size : length s'.met.nodes ≡ length s.met.nodes
    pub run : s'.run ≡ noted ks s.run

  pub record Free (compares : K → K → Ordering) (w : ℕ → ℕ) (ks : List K) (s : Trail K) : Type 0 where
    pub fresh : (x : ℕ) → weight s.met x + w x ≤ 1
    pub notes : Notes compares ks s.run
    pub room : length s.met.nodes ≡ 4096

  pub took_as : (w v : ℕ → ℕ) (ks ls : List K) (s s' : Trail K) → ((x : ℕ) → w x ≡ v x) → ks ≡ ls → Took w ks s s' → Took v ls s s'
  took_as w v ks ls s s' f e t = record { met = λ x. t.met x ∙ ap (λ n. weight s.met x + n) (f x); size = t.size; run = t.run ∙ ap (λ k. noted k s.run) e }

  pub took_join : (w v : ℕ → ℕ) (ks ls : List K) (s s' s2 : Trail K) → Took w ks s s' → Took v ls s' s2 → Took (λ x. w x + v x) (ks ++ ls) s s2
  took_join w v ks ls s s' s2 t u = record {
    met = λ x. omega (arith, t.met x, u.met x);
    size = u.size ∙ t.size;
    run = u.run ∙ ap (noted ls) t.run ∙ sym (noted_append ks ls s.run);
  }

  pub took_same : {s s2 : Trail K} (w : ℕ → ℕ) (ks : List K) (s' : Trail K) → s2 ≡ s' → Took w ks s s' → Took w ks s s2
  took_same {s = s} w ks s' e t = subst (λ x. Took w ks s x) (sym e) t

  module _ (compares : K → K → Ordering) where
    pub free_as : (w v : ℕ → ℕ) (ks ls : List K) (s : Trail K) → ((x : ℕ) → w x ≡ v x) → ks ≡ ls → Free compares w ks s → Free compares v ls s
    free_as w v ks ls s f e t = record { fresh = λ x. omega (arith, t.fresh x, f x); notes = subst (λ k. Notes compares k s.run) e t.notes; room = t.room }

    pub free_front : (w v : ℕ → ℕ) (ks ls : List K) (s : Trail K) → Free compares (λ x. w x + v x) (ks ++ ls) s → Free compares w ks s
    free_front w v ks ls s f = record { fresh = λ x. omega (arith, f.fresh x); notes = (notes_parts compares ks ls s.run f.notes).0; room = f.room }

    pub free_back : (w v : ℕ → ℕ) (ks ls : List K) (s s' : Trail K) → Took w ks s s' → Free compares (λ x. w x + v x) (ks ++ ls) s → Free compares v ls s'
    free_back w v ks ls s s' t f = record {
      fresh = λ x. omega (arith, f.fresh x, t.met x);
      notes = subst (λ r. Notes compares ls r) (sym t.run) (notes_parts compares ks ls s.run f.notes).1;
      room = t.size ∙ f.room;
    }

  pub took_mark : (m : ℕ) (s : Trail K) → Unmet s.met m → Took (λ x. same x m) [] s (marked m s)
  took_mark m s u = record { met = λ x. weight_marked s.met m x u; size = length-set s.met.nodes m true; run = sym (noted_nil s.run) }

  pub took_keys : (ks : List K) (s : Trail K) → Took (λ _. 0) ks s (noting ks s)
  took_keys ks s = record { met = λ x. omega arith; size = refl; run = refl }
