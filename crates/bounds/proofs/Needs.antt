-- How many nodes trees have at least, and what that says of a bank in good form. Assumes nothing.
use Rattle.std.proofs.Common.{◌≡◌, ℕ, zero, suc, ◌+◌, ◌*◌, ◌^◌, ◌<◌, ◌≤◌, Bool, cond, List, [], ◌∷◌, get_or, nat_lt, nat_eq, Some, None, Err, Option, Result, sym, refl, ap, ◌∙◌, subst, ⊎_elim, arith, pow-suc}
use Rattle.std.specs.declared.cmp.Ordering.{Ordering}
use Rattle.std.proofs.lemmas.Bool.{cond_both, cases_lt, ltb-true}
use Rattle.std.proofs.lemmas.Option.{none-some}
use Rattle.std.proofs.lemmas.List.{get_or_past}
use Rattle.node.specs.Shape.{Tree, flat, Formed}
use Rattle.node.specs.Store.{Tables, Holds}
use Rattle.node.specs.Laws.{fewest}
use Rattle.node.proofs.Balances.{mark_most}
use Rattle.node.proofs.Frames.{held_low}
use Rattle.node.proofs.Heights.{many_nodes, fewest_five}
use Rattle.node.proofs.Weaves.{total_at}
use Rattle.calls.specs.declared.calls.Answer.{Answer}
use Rattle.books.specs.declared.places.Place.{Place}
use Rattle.books.specs.Books.{Book, bare, planted, walked, idle, book_in, uses, BookAt, at_tree}
use Rattle.calls.specs.Refusals.{Code}
use Rattle.calls.specs.Asking.{Query, Cut}
use Rattle.books.specs.Kinds.{Kind, kind_of, is_map, is_bare}
use Rattle.calls.specs.Rules.{no_place, wrong_kind, check_two, checked, cut_in, part_tree, rule, Outcome}
use Rattle.books.specs.States.{State, Models}
use Rattle.calls.proofs.Keeping.{ok_err}
use Rattle.bank.specs.Gate.{kinds}
use Rattle.bounds.specs.Bounds.{NodesLeast, NodesWithin, TreesLow, CutNeeds}

fewest_is : (h : ℕ) → 4 * fewest h + 1 ≡ 5 ^ suc h
fewest_is zero = omega arith
fewest_is (suc h) = omega (arith, fewest_is h, pow-suc 5 (suc h))

pub nodes_least : {E : Type 0} → NodesLeast E
nodes_least zero t w q = absurd (omega arith)
nodes_least (suc h) t w q = omega (arith, fewest_is h, many_nodes h t w)

pub nodes_within : {E : Type 0} → NodesWithin E
nodes_within zero t w q = omega arith
nodes_within (suc h) t w q =
    ⊎_elim (λ (p : h < 5). omega arith) (λ (p : 5 ≤ h). absurd (omega (arith, q, many_nodes h t w, fewest_five h p))) (cases_lt h 5)

-- ---- trees of a bank in good form

bare_planted : {E : Type 0} (h : ℕ) (t : Tree E) → ◌≡◌ {A = Book E} bare (planted h t) → ⊥
bare_planted h t q = let z : ◌≡◌ {A = ℕ} 0 1 = cc in omega arith

tree_at : {K V : Type 0} (compares : K → K → Ordering) (T : Tables K V) (p : Place) (h : ℕ) (t : Tree (K × V)) → BookAt compares T p (planted h t) → Holds T h t × Formed h t
tree_at compares T p h t (at_tree _ _ a) = (a.holds, a.formed)

module _ {K V : Type 0} (compares : K → K → Ordering) (s : State K V) (bs : List (Book (K × V))) (m : Models compares s bs) where
  tree_low : (p h : ℕ) (t : Tree (K × V)) → book_in bs p ≡ planted h t → h ≤ 5
  tree_low p h t e =
      ⊎_elim inside (λ q. absurd (bare_planted h t (sym (get_or_past bs p bare (omega (arith, m.sixteen))) ∙ e))) (cases_lt p 16)
    where
      inside : p < 16 → h ≤ 5
      inside q =
          let b = tree_at compares s.tables _ h t (subst (BookAt compares s.tables _) e (m.held p q)) in
          held_low s.tables h t m.sized b.0 b.1 (λ x. omega (arith, total_at (uses x) bs p bare (omega (arith, m.sixteen)), ap (uses x) e, m.numbers x, mark_most s.stock x))

-- ---- the cut

abbrev Six : ℕ → ℕ → Code
Six n a = (6, n ∷ a ∷ [])

err_same : {X : Type 0} (d e : Code) → ◌≡◌ {A = Result X Code} (Err d) (Err e) → d ≡ e
err_same d e q = cc

err_numbers : {X : Type 0} (n k a b : ℕ) → ◌≡◌ {A = Result X Code} (Err (Six n a)) (Err (Six k b)) → n ≡ k
err_numbers n k a b q = ap (λ (c : Code). get_or c.1 0 0) (err_same (Six n a) (Six k b) q)

err_four : {X : Type 0} (n a : ℕ) → ◌≡◌ {A = Result X Code} (Err (4, [])) (Err (Six n a)) → ⊥
err_four n a q = omega (arith, ap (λ (c : Code). c.0) (err_same (4, []) (Six n a) q))

-- no refusal by places has the number 6
abbrev Other : Option Code → Type 0
Other o = (e : Code) → o ≡ Some e → e.0 ≡ 6 → ⊥

far : Other no_place
far e q z = let y : ◌≡◌ {A = ℕ} 3 e.0 = cc in omega arith

wrong : Other wrong_kind
wrong e q z = let y : ◌≡◌ {A = ℕ} 4 e.0 = cc in omega arith

both : (b : Bool) (x y : Option Code) → Other x → Other y → Other (cond b x y)
both b x y f g = cond_both b x y Other (λ _. f) (λ _. g)

two_other : (kinds : ℕ → Kind) (p o : ℕ) → Other (check_two kinds is_map is_bare p o)
two_other kinds p o =
    both (nat_lt p 16) _ _ (both (nat_lt o 16) _ _ (both (is_map (kinds p)) _ _ (both (is_bare (kinds o)) _ _ (both (nat_eq p o) _ _ wrong (λ e q z. none-some e q)) wrong) wrong) far) far

module _ {K V : Type 0} (fresh : ℕ → ℕ) (a : ℕ) (place : Query K) (n k : ℕ) where
  -- refused for want of n nodes, one for each level, where fewer may be taken
  abbrev Short : Book (K × V) → Type 0
  Short b = (h : ℕ) × (t : Tree (K × V)) × (b ≡ planted h t) × (n ≡ h + 1) × (a < h + 1)

  part_short : (h : ℕ) (t : Tree (K × V)) (l : List (K × V)) → (part_tree fresh a place h t l).0 ≡ Err (Six n k) → Short (planted h t)
  part_short h t [] q = absurd (ok_err _ (Six n k) q)
  part_short h t (e ∷ es) q =
      cond_both {A = Result (Answer K V) Code × (Book (K × V) × Book (K × V))} (nat_lt a (h + 1)) _ _ (λ o. o.0 ≡ Err (Six n k) → Short (planted h t))
      (λ z r. (h, t, refl, sym (err_numbers (h + 1) n a k r), ltb-true a (h + 1) z))
      (λ z r. absurd (ok_err _ (Six n k) r)) q

  cut_short : (b : Book (K × V)) → (cut_in fresh a place b).0 ≡ Err (Six n k) → Short b
  cut_short bare q = absurd (ok_err _ (Six n k) q)
  cut_short (planted h t) q = part_short h t (flat h t) q
  cut_short (walked h t) q = absurd (err_four n k q)
  cut_short idle q = absurd (err_four n k q)

module _ {K V : Type 0} (compares : K → K → Ordering) (fresh : ℕ → ℕ → ℕ) (top : ℕ → ℕ) (a p o : ℕ) (place : Query K) (bs : List (Book (K × V))) (n k : ℕ) where
  rule_short : (rule compares fresh top a (Cut p o place) bs).answer ≡ Err (Six n k) → Short (fresh 0) a place n k (book_in bs p)
  rule_short q = go (check_two (λ x. kind_of (book_in bs x)) is_map is_bare p o) (two_other (λ x. kind_of (book_in bs x)) p o) q
    where
      go : (c : Option Code) → Other c → (checked compares fresh top a (Cut p o place) bs c).answer ≡ Err (Six n k) → Short (fresh 0) a place n k (book_in bs p)
      go None f r = cut_short (fresh 0) a place n k (book_in bs p) r
      go (Some e) f r = absurd (f e refl (ap (λ (c : Code). c.0) (err_same e (Six n k) r)))

pub trees_low : {K V : Type 0} → TreesLow K V
trees_low compares s bs m p h t e = tree_low compares s bs m p h t e

pub cut_needs : {K V : Type 0} → CutNeeds K V
cut_needs {K} {V} compares s s' bs p o place r n a f m w e = go (check_two (kinds s.places) is_map is_bare p o) refl
  where
    go : (c : Option Code) → check_two (kinds s.places) is_map is_bare p o ≡ c → (n ≤ 6) × (s.stock.allowance < n)
    go (Some d) q =
        absurd (two_other (kinds s.places) p o d q (ap (λ (c : Code). c.0) (err_same {X = Answer K V} d (Six n a) (sym (w.refused f d q).0 ∙ e))))
    go None q =
        let k = w.meets f q bs m in
        let z = ap (λ (x : Outcome K V). x.answer) k.next.by_rule in
        let d = rule_short compares k.next.fresh k.next.top s.stock.allowance p o place bs n a (sym z ∙ e) in
        (omega (arith, tree_low compares s bs m p d.0 d.1 d.2, d.3), omega (arith, d.3, d.4))
