-- What opening, a step, closing and release make of a book. Assumes nothing.
use Rattle.std.proofs.Common.{◌≡◌, ℕ, zero, suc, Bool, true, List, [], ◌∷◌, length, Some, None, Option, Ordering, refl, ap, subst, sym, arith, ◌∙◌}
use Rattle.std.specs.Ordering.{is_lt}
use Rattle.std.proofs.lemmas.Bool.{false≢true}
use Rattle.std.proofs.lemmas.Option.{none-some, same_Some}
use Rattle.std.proofs.lemmas.List.Elements.{All-weaker}
use Rattle.node.specs.declared.ends.Side.{Side}
use Rattle.node.specs.declared.ends.Side.TheVariants.{First, Last}
use Rattle.node.specs.Shape.{Tree, kids, flat, Formed, Within, root_least}
use Rattle.node.specs.Sorted.{Sorted}
use Rattle.node.specs.Store.{first}
use Rattle.rules.proofs.Sorts.{sorted_parts}
use Rattle.map.specs.Lookup.{InOrder}
use Rattle.walk.specs.Steps.{cons, step, Fanned}
use Rattle.walk.proofs.Stepping.{step_takes, step_ends, length_cons}
use Rattle.calls.specs.declared.calls.Answer.{Answer}
use Rattle.calls.specs.declared.calls.Answer.TheVariants.{Opened, Handed, Dropped}
use Rattle.books.specs.Books.{Book, bare, planted, walked, idle, entries}
use Rattle.books.specs.Kinds.{kind_of, is_map, is_walk}
use Rattle.calls.specs.Rules.{open_in, handed_in, step_in, drop_in}
use Rattle.calls.specs.Meaning.{Sound, OpenMeans, StepMeans, DropMeans}
use Rattle.calls.proofs.Keeping.{Kept, ok_same, granted_kept, declined_kept}

-- a formed tree has one child more than entries in each node above the leaves
fans : {E : Type 0} (least h : ℕ) (t : Tree E) → Within least h t → Fanned h t
unfolding Within Fanned
fans least zero t w = w.2
fans least (suc h) t w = (w.2, All-weaker (Within 4 h) (Fanned h) (λ k v. fans 4 h k v) (kids t) w.3)

pub formed_fans : {E : Type 0} (h : ℕ) (t : Tree E) → Formed h t → Fanned h t
formed_fans h t w = fans (root_least h) h t w

handed_same : {K V : Type 0} (x y : Option (K × V)) → ◌≡◌ {A = Answer K V} (Handed x) (Handed y) → x ≡ y
handed_same x y q = cc

-- what is left of sorted entries without one at the end
sorted_rest : {E : Type 0} (le : E → E → Bool) (s : Side) (e : E) (l : List E) → Sorted le (cons s e l) → Sorted le l
sorted_rest le First e l o = o.1
sorted_rest le Last e l o = (sorted_parts le l (e ∷ []) o).0

module _ {K V : Type 0} (compares : K → K → Ordering) where
  -- ---- opening

  pub open_kept : (b : Book (K × V)) → Sound compares b → Kept compares b (open_in b)
  open_kept bare s = granted_kept compares bare idle Opened tt refl
  open_kept (planted h t) s = granted_kept compares (planted h t) (walked h t) Opened (formed_fans h t s.0, s.1) refl
  open_kept (walked h t) s = declined_kept compares (walked h t) (4, []) s
  open_kept idle s = declined_kept compares idle (4, []) s

  pub open_means : (a : ℕ) (b : Book (K × V)) → is_map (kind_of b) ≡ true → OpenMeans compares a b (open_in b).1 (open_in b).0
  open_means a bare m = record { answers = refl; kind = refl; all = refl }
  open_means a (planted h t) m = record { answers = refl; kind = refl; all = refl }
  open_means a (walked h t) m = absurd (false≢true m)
  open_means a idle m = absurd (false≢true m)

  -- ---- a step

  module _ (a : ℕ) (s : Side) (h : ℕ) (t : Tree (K × V)) (w : Fanned h t) (o : InOrder compares (flat h t)) where
    handed_kept : (x : Option ((K × V) × Tree (K × V))) → step s h t ≡ x → Kept compares (walked h t) (handed_in h t x)
    handed_kept None q = granted_kept compares (walked h t) (walked h t) (Handed None) (w, o) refl
    handed_kept (Some p) q =
        let r = step_takes s h t p.0 p.1 w q in
        granted_kept compares (walked h t) (walked h p.1) (Handed (Some p.0))
        (r.fanned, sorted_rest (λ x y. is_lt (compares (first x) (first y))) s p.0 (flat h p.1) (subst (λ l. InOrder compares l) r.flat_is o))
        (omega (arith, ap length r.flat_is, length_cons s p.0 (flat h p.1)))

    handed_means : (x : Option ((K × V) × Tree (K × V))) → step s h t ≡ x → StepMeans compares a (walked h t) (handed_in h t x).1 (handed_in h t x).0 s
    handed_means None q = record {
      answers = (None, refl);
      kind = refl;
      none_left = λ r. ((step_ends s h t w).0 q, refl);
      next = λ e r. absurd (none-some e (handed_same None (Some e) (ok_same (Handed None) (Handed (Some e)) r)));
    }
    handed_means (Some p) q = record {
      answers = (Some p.0, refl);
      kind = refl;
      none_left = λ r. absurd (none-some p.0 (sym (handed_same (Some p.0) None (ok_same (Handed (Some p.0)) (Handed None) r))));
      next = λ e r.
          let z : p.0 ≡ e = same_Some p.0 e (handed_same (Some p.0) (Some e) (ok_same (Handed (Some p.0)) (Handed (Some e)) r)) in
          (step_takes s h t p.0 p.1 w q).flat_is ∙ ap (λ y. cons s y (flat h p.1)) z;
    }

  pub step_kept : (s : Side) (b : Book (K × V)) → Sound compares b → Kept compares b (step_in s b)
  step_kept s bare o = declined_kept compares bare (4, []) o
  step_kept s (planted h t) o = declined_kept compares (planted h t) (4, []) o
  step_kept s (walked h t) o = handed_kept 0 s h t o.0 o.1 (step s h t) refl
  step_kept s idle o = granted_kept compares idle idle (Handed None) tt refl

  pub step_means : (a : ℕ) (s : Side) (b : Book (K × V)) → is_walk (kind_of b) ≡ true → Sound compares b → StepMeans compares a b (step_in s b).1 (step_in s b).0 s
  step_means a s bare m o = absurd (false≢true m)
  step_means a s (planted h t) m o = absurd (false≢true m)
  step_means a s (walked h t) m o = handed_means a s h t o.0 o.1 (step s h t) refl
  step_means a s idle m o = record {
    answers = (None, refl);
    kind = refl;
    none_left = λ r. (refl, refl);
    next = λ e r. absurd (none-some e (handed_same None (Some e) (ok_same (Handed None) (Handed (Some e)) r)));
  }

  -- ---- closing and release

  pub drop_kept : (b : Book (K × V)) → Kept compares b (drop_in b)
  drop_kept b = granted_kept compares b bare (Dropped (length (entries b))) tt (omega arith)

  pub drop_means : (a : ℕ) (b : Book (K × V)) → DropMeans compares a b (drop_in b).1 (drop_in b).0
  drop_means a b = record { answers = refl; none_left = refl }
