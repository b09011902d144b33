-- The book of a place cut in two.
use Rattle.std.proofs.Common.{◌≡◌, ℕ, ◌+◌, ◌<◌, ◌≤◌, cond, List, [], ◌∷◌, length, Some, None, Ok, Err, Result, MatchResult, refl, sym, ap, ◌∙◌, subst, arith, inl, inr}
use Rattle.std.specs.declared.cmp.Ordering.{Ordering}
use Rattle.std.proofs.lemmas.Bool.{cases_lt, lt-ltb, le-ltb}
use Rattle.std.proofs.lemmas.List.{nil_from_length}
use Rattle.std.proofs.lemmas.Option.{none-some}
use Rattle.supply.specs.declared.faults.Fault.{Fault}
use Rattle.supply.specs.declared.faults.Fault.TheVariants.{Short}
use Rattle.supply.specs.Stocks.{Stock}
use Rattle.node.specs.declared.nodes.NodeRef.{NodeRef}
use Rattle.node.specs.Balance.{Rooted, Unchanged}
use Rattle.node.specs.Kinds.{root_of}
use Rattle.node.specs.Shape.{Tree, number, flat}
use Rattle.node.specs.Store.{Tables, Holds}
use Rattle.node.proofs.Balances.{beside_none, beside_more, balanced_as}
use Rattle.node.proofs.Tabled.{err_not_ok, ok_same, err_same}
use Rattle.cut.specs.declared.split.Cut.{Cut}
use Rattle.cut.specs.Split.{left_of, right_of, made_of, Split, SplitOr, SplitsOff}
use Rattle.walk.proofs.Stepping.{some_is}
use Rattle.books.specs.declared.places.Place.{Place}
use Rattle.books.specs.declared.places.Place.TheVariants as P
use Rattle.calls.specs.declared.calls.Answer.TheVariants.{Parted}
use Rattle.books.specs.Books.{Book, bare, planted, TreeAt, BookAt, at_bare, at_tree}
use Rattle.calls.specs.Faults.{fault_code}
use Rattle.calls.specs.Meaning.{Sound}
use Rattle.calls.specs.Asking.{Query}
use Rattle.calls.specs.Rules.{Parts, part_tree, cut_in, tree_book}
use Rattle.calls.proofs.Cutting.{Halved, cut_halved}
use Rattle.acts.specs.Acts.{BothBecome, CutsBy, CutsIn, counts}
use Rattle.acts.proofs.Views.{ReadyTree, bare_book, ready_tree}

-- what a cut answers where nothing is cut
abbrev uncut : Cut
uncut = record { parts = None; counts = (0, 0, 0) }

module _ {K V : Type 0} (compares : K → K → Ordering) where
  -- the answer and both places, where the rule gives o
  abbrev Comes : Tables K V → Tables K V → Stock → Stock → Book (K × V) → Result (Place × Place × (ℕ × ℕ × ℕ)) Fault → Parts K V → Type 0
  Comes T T' S S' b r o = MatchResult r (λ y. (o.0 ≡ Ok (counts y.2)) × BothBecome compares T T' S S' b bare y.0 y.1 (o.1).0 (o.1).1) (λ f. (o ≡ (Err (fault_code f), (b, bare))) × Unchanged T T' S S')

  -- nothing is cut
  stays_whole : (T : Tables K V) (S : Stock) (p : Place) (b : Book (K × V)) → BookAt compares T p b → Comes T T S S b (Ok (p, P.Bare, (0, 0, 0))) (Ok (Parted 0 0 0), (b, bare))
  stays_whole T S p b a = (refl, record { at = a; other = at_bare; beside = beside_none T S _; balanced = record { size = refl; marks = λ x. omega arith; allowance = refl; aside = refl; bars = λ x. refl } })

  pub cuts_nowhere : (T : Tables K V) (S : Stock) (p : Place) (place : Query K) → ((root : NodeRef) (count : ℕ) → p ≡ P.Tree root count → ⊥) → CutsIn compares T T S S p place (Ok (p, P.Bare, (0, 0, 0)))
  unfolding CutsIn
  cuts_nowhere T S p place n b r m = record {
    fresh = λ _. 0;
    acts = subst (λ b'. Comes T T S S b' (Ok (p, P.Bare, (0, 0, 0))) (cut_in (λ _. 0) S.allowance place b')) (sym (bare_book compares T p b n m r.at).1)
        (stays_whole T S p bare (subst (BookAt compares T p) (bare_book compares T p b n m r.at).1 r.at));
  }

  module _ (T T' : Tables K V) (S S' : Stock) (place : Query K) where
    -- ---- what the rule gives of a tree

    module _ (h : ℕ) (t : Tree (K × V)) where
      rule_empty : (fresh : ℕ → ℕ) → flat h t ≡ [] → cut_in fresh S.allowance place (planted h t) ≡ (Ok (Parted 0 0 0), (planted h t, bare))
      rule_empty fresh e = ap (part_tree fresh S.allowance place h t) e

      abbrev in_parts : (ℕ → ℕ) → Parts K V
      in_parts fresh = (
        Ok (Parted (length (flat (left_of place h t).0 (left_of place h t).1)) (length (flat (right_of place fresh h t).0 (right_of place fresh h t).1)) (made_of place h t)),
        (tree_book (left_of place h t), tree_book (right_of place fresh h t)),
      )

      part_declined : (fresh : ℕ → ℕ) (es : List (K × V)) → 0 < length es → S.allowance < h + 1 → part_tree fresh S.allowance place h t es ≡ (Err (6, (h + 1) ∷ S.allowance ∷ []), (planted h t, bare))
      part_declined fresh [] some l = absurd (omega arith)
      part_declined fresh (e ∷ es) some l = ap (λ c. cond c (Err (6, (h + 1) ∷ S.allowance ∷ []), (planted h t, bare)) (in_parts fresh)) (lt-ltb S.allowance (h + 1) l)

      part_granted : (fresh : ℕ → ℕ) (es : List (K × V)) → 0 < length es → h + 1 ≤ S.allowance → part_tree fresh S.allowance place h t es ≡ in_parts fresh
      part_granted fresh [] some l = absurd (omega arith)
      part_granted fresh (e ∷ es) some l = ap (λ c. cond c (Err (6, (h + 1) ∷ S.allowance ∷ []), (planted h t, bare)) (in_parts fresh)) (le-ltb S.allowance (h + 1) l)

    -- ---- and what the cut of the tree comes to

    module _ (root : NodeRef) (count : ℕ) (h : ℕ) (t : Tree (K × V)) (here : TreeAt compares T root count h t) where
      abbrev By : Result (Place × Place × (ℕ × ℕ × ℕ)) Fault → Type 0
      By r = CutsBy compares T T' S S' place (planted h t) r

      none_at : (cut : Cut) → cut.parts ≡ None → SplitOr place T T' S S' h t count (Ok cut) → By (Ok (P.Tree root count, P.Bare, cut.counts))
      none_at cut e d =
          elim (cases_lt 0 count) [
            | inl l ↦ elim (cases_lt S.allowance (h + 1)) [ inl f ↦ absurd (err_not_ok _ cut (sym (d.declined l f).0)) | inr f ↦ absurd (some_none cut e (d.granted l f)) ]
            | inr l ↦ let z : count ≡ 0 = omega arith in empty z (ok_same cut uncut (d.empty z).0) (d.empty z).1
          ]
        where
          some_none : (cut : Cut) → cut.parts ≡ None → Split place T T' S S' h t (Ok cut) → ⊥
          some_none cut e d = none-some _ (sym e ∙ ap (λ c. c.parts) (ok_same cut _ d.answer))

          empty : count ≡ 0 → cut ≡ uncut → Unchanged T T' S S' → By (Ok (P.Tree root count, P.Bare, cut.counts))
          empty z q u = record {
            fresh = λ _. 0;
            acts = subst (Comes T T' S S' (planted h t) (Ok (P.Tree root count, P.Bare, cut.counts))) (sym (rule_empty h t (λ _. 0) (nil_from_length (flat h t) (sym here.count_is ∙ z))))
                (subst (λ c. Comes T T' S S' (planted h t) (Ok (P.Tree root count, P.Bare, c.counts)) (Ok (Parted 0 0 0), (planted h t, bare))) (sym q)
                (subst (λ T'. Comes T T' S S' (planted h t) (Ok (P.Tree root count, P.Bare, (0, 0, 0))) (Ok (Parted 0 0 0), (planted h t, bare))) (sym u.tables_same)
                (subst (λ S'. Comes T T S S' (planted h t) (Ok (P.Tree root count, P.Bare, (0, 0, 0))) (Ok (Parted 0 0 0), (planted h t, bare))) (sym u.stock_same)
                (stays_whole T S (P.Tree root count) (planted h t) (at_tree _ _ here)))));
          }

      -- a part is held where the cut says
      part_at : (n : NodeRef) (count : ℕ) (p : ℕ × Tree (K × V)) → n ≡ root_of p → count ≡ length (flat p.0 p.1) → Holds T' p.0 p.1 → Rooted T' (number p.1) → Sound compares (tree_book p) → TreeAt compares T' n count p.0 p.1
      part_at n count p e c w r s = record { root_is = e; holds = w; formed = s.0; rooted = r; count_is = c; in_order = s.1 }

      some_at : (cut : Cut) (left right : NodeRef) → cut.parts ≡ Some (left, right) → SplitOr place T T' S S' h t count (Ok cut) → By (Ok (P.Tree left cut.counts.0, P.Tree right cut.counts.1, cut.counts))
      some_at cut left right e d =
          elim (cases_lt 0 count) [
            | inl l ↦ elim (cases_lt S.allowance (h + 1)) [ inl f ↦ absurd (err_not_ok _ cut (sym (d.declined l f).0)) | inr f ↦ parted l f (d.granted l f) ]
            | inr l ↦ let z : count ≡ 0 = omega arith in absurd (none-some (left, right) (sym (sym e ∙ ap (λ c. c.parts) (ok_same cut _ (d.empty z).0))))
          ]
        where
          parted : 0 < count → h + 1 ≤ S.allowance → Split place T T' S S' h t (Ok cut) → By (Ok (P.Tree left cut.counts.0, P.Tree right cut.counts.1, cut.counts))
          parted l f d =
              let q = ok_same cut _ d.answer in
              let roots = some_is (left, right) (root_of (left_of place h t), root_of (right_of place d.fresh h t)) (sym e ∙ ap (λ c. c.parts) q) in
              let rule = part_granted h t d.fresh (flat h t) (omega (arith, here.count_is)) f in
              let sound : Halved compares (planted h t) (in_parts h t d.fresh) = subst (Halved compares (planted h t)) rule (cut_halved compares d.fresh S.allowance place (planted h t) (here.formed, here.in_order)) in
              record {
                fresh = d.fresh;
                acts = subst (Comes T T' S S' (planted h t) (Ok (P.Tree left cut.counts.0, P.Tree right cut.counts.1, cut.counts))) (sym rule) (
                  ap (λ c. Ok (counts c.counts)) (sym q),
                  record {
                    at = at_tree _ _ (part_at left cut.counts.0 (left_of place h t) (ap (λ p. p.0) roots) (ap (λ c. c.counts.0) q) d.halved.left d.halved.left_root sound.left);
                    other = at_tree _ _ (part_at right cut.counts.1 (right_of place d.fresh h t) (ap (λ p. p.1) roots) (ap (λ c. c.counts.1) q) d.halved.right d.halved.right_root sound.right);
                    beside = beside_more T T' S _ _ (λ x. omega arith) d.halved.beside;
                    balanced = balanced_as S S' _ _ _ _ (λ x. omega arith) d.halved.balanced;
                  },
                );
              }

      refused_at : (f : Fault) → SplitOr place T T' S S' h t count (Err f) → By (Err f)
      refused_at f d =
          elim (cases_lt 0 count) [
            | inl l ↦ elim (cases_lt S.allowance (h + 1)) [ inl k ↦ let u = d.declined l k in declined l k (err_same f (Short (h + 1) S.allowance) u.0) u.1 | inr k ↦ absurd (err_not_ok f _ (d.granted l k).answer) ]
            | inr l ↦ let z : count ≡ 0 = omega arith in absurd (err_not_ok f _ (d.empty z).0)
          ]
        where
          declined : 0 < count → S.allowance < h + 1 → f ≡ Short (h + 1) S.allowance → Unchanged T T' S S' → By (Err f)
          declined l k q u = record {
            fresh = λ _. 0;
            acts = (part_declined h t (λ _. 0) (flat h t) (omega (arith, here.count_is)) k ∙ ap (λ y. (Err (fault_code y), (planted h t, bare))) (sym q), u);
          }

    module _ (p : Place) (root : NodeRef) (count : ℕ) (e : p ≡ P.Tree root count) where
      split_or : (res : Result Cut Fault) → SplitsOff place T T' S S' root.height root.node count res → (b : Book (K × V)) (v : ReadyTree compares T S root count b) → SplitOr place T T' S S' root.height v.tree count res
      unfolding SplitsOff
      split_or res d b v = d v.tree v.owns v.node_is (subst (Rooted T) v.node_is v.here.rooted) v.here.formed v.here.count_is

      pub cuts_none : (cut : Cut) → cut.parts ≡ None → SplitsOff place T T' S S' root.height root.node count (Ok cut) → CutsIn compares T T' S S' p place (Ok (P.Tree root count, P.Bare, cut.counts))
      unfolding CutsIn
      cuts_none cut q d b r m =
          let v = ready_tree compares T S root count p b e r in
          subst (λ b'. CutsBy compares T T' S S' place b' (Ok (P.Tree root count, P.Bare, cut.counts))) (sym v.book_is) (none_at root count root.height v.tree v.here cut q (split_or (Ok cut) d b v))

      pub cuts_tree : (cut : Cut) (left right : NodeRef) → cut.parts ≡ Some (left, right) → SplitsOff place T T' S S' root.height root.node count (Ok cut)
          → CutsIn compares T T' S S' p place (Ok (P.Tree left cut.counts.0, P.Tree right cut.counts.1, cut.counts))
      unfolding CutsIn
      cuts_tree cut left right q d b r m =
          let v = ready_tree compares T S root count p b e r in
          subst (λ b'. CutsBy compares T T' S S' place b' (Ok (P.Tree left cut.counts.0, P.Tree right cut.counts.1, cut.counts))) (sym v.book_is) (some_at root count root.height v.tree v.here cut left right q (split_or (Ok cut) d b v))

      pub cuts_refused : (f : Fault) → SplitsOff place T T' S S' root.height root.node count (Err f) → CutsIn compares T T' S S' p place (Err f)
      unfolding CutsIn
      cuts_refused f d b r m =
          let v = ready_tree compares T S root count p b e r in
          subst (λ b'. CutsBy compares T T' S S' place b' (Err f)) (sym v.book_is) (refused_at root count root.height v.tree v.here f (split_or (Err f) d b v))
