-- Runs: the books stay sound, the entries come out even, and no tree is too high. Assumes nothing.
use Rattle.std.proofs.Common.{◌≡◌, ℕ, ◌+◌, ◌*◌, ◌^◌, ◌<◌, ◌≤◌, List, [], ◌∷◌, length, replicate, All, Ordering, ⊎_elim, refl, ap, subst, sym, arith, ◌∙◌}
use Rattle.std.proofs.lemmas.Bool.{cases_lt}
use Rattle.std.proofs.lemmas.List.{get_or_past}
use Rattle.std.proofs.lemmas.List.Elements.{All-replicate}
use Rattle.order.specs.Laws.{Ordered}
use Rattle.supply.specs.Stocks.{Stock}
use Rattle.node.specs.Shape.{Tree, flat}
use Rattle.node.proofs.Heights.{height_bound}
use Rattle.books.specs.Books.{Book, bare, planted, book_in}
use Rattle.calls.specs.Rules.{Outcome, rule}
use Rattle.calls.specs.Meaning.{Sound}
use Rattle.calls.specs.Runs.{Event, Next, Runs, count_all, inserted, handed, dropped, sum_of, Even, Low}
use Rattle.calls.specs.Laws.{RunsStand}
use Rattle.calls.proofs.Placing.{all_at}
use Rattle.calls.proofs.Ruling.{rule_sound, rule_even}

module _ {K V : Type 0} (compares : K → K → Ordering) where
  low_book : (b : Book (K × V)) → Sound compares b → (h : ℕ) (t : Tree (K × V)) → b ≡ planted h t → 1 ≤ length (flat h t) → 2 * 5 ^ h ≤ length (flat h t) + 1
  low_book b s h t q = height_bound h t (subst (Sound compares) q s).0

  pub sound_low : (bs : List (Book (K × V))) → All (Sound compares) bs → Low bs
  sound_low bs s p h t q =
      ⊎_elim
      (λ (l : p < length bs). low_book (book_in bs p) (all_at (Sound compares) bs p l s) h t q)
      (λ (l : length bs ≤ p). low_book bare tt h t (sym (get_or_past bs p bare l) ∙ q))
      (cases_lt p (length bs))

  abbrev pub Standing : List (Event K V) → List (Book (K × V)) → Type 0
  Standing past bs = (length bs ≡ 16) × All (Sound compares) bs × Even past bs

  pub bare_stand : Standing [] (replicate 16 bare)
  bare_stand = (refl, All-replicate (Sound compares) 16 bare tt, refl)

  module _ (ordered : Ordered compares) where
    pub next_stands : (ev : Event K V) (past : List (Event K V)) (S S' : Stock) (bs bs' : List (Book (K × V))) → Next compares ev S bs S' bs' → Standing past bs → Standing (ev ∷ past) bs'
    next_stands ev past S S' bs bs' n s =
        let o : Outcome K V = rule compares n.fresh n.top S.allowance ev.call bs in
        let books_are : o.books ≡ bs' = sym (ap (λ x. x.books) n.by_rule) in
        let answer_is : o.answer ≡ ev.answer = sym (ap (λ x. x.answer) n.by_rule) in
        let stays = rule_sound compares n.fresh n.top S.allowance ev.call bs ordered s.0 s.1 in
        let even : count_all o.books + (handed o.answer + dropped o.answer) ≡ count_all bs + inserted o.answer = rule_even compares n.fresh n.top S.allowance ev.call bs ordered s.0 s.1 in
        let even' : count_all bs' + (handed o.answer + dropped o.answer) ≡ count_all bs + inserted o.answer = subst (λ x. count_all x + (handed o.answer + dropped o.answer) ≡ count_all bs + inserted o.answer) books_are even in
        let even'' : count_all bs' + (handed ev.answer + dropped ev.answer) ≡ count_all bs + inserted ev.answer = subst (λ r. count_all bs' + (handed r + dropped r) ≡ count_all bs + inserted r) answer_is even' in
        let before : count_all bs + (sum_of handed past + sum_of dropped past) ≡ sum_of inserted past = s.2 in
        (subst (λ x. length x ≡ 16) books_are stays.0, subst (λ x. All (Sound compares) x) books_are stays.1, omega (arith, even'', before))

    stand : (past : List (Event K V)) (S : Stock) (bs : List (Book (K × V))) → Runs compares past S bs → Standing past bs
    unfolding Runs
    stand [] S bs q = subst (Standing []) (sym q) bare_stand
    stand (ev ∷ past) S' bs' r = next_stands ev past r.0 S' r.1 bs' r.3 (stand past r.0 r.1 r.2)

pub runs_stand : {K V : Type 0} → RunsStand K V
runs_stand compares past S bs ordered r =
    let s = stand compares ordered past S bs r in
    (s.0, s.1, s.2, sound_low compares bs s.1)
