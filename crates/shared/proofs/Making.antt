-- Moves one after the other. Assumes nothing.
use Rattle.std.proofs.Common.{◌≡◌, ℕ, ◌+◌, ◌<◌, List, [], ◌∷◌, ◌++◌, length, map, take, set, get_or, Result, refl, sym, ap, ◌∙◌, subst}
use Rattle.std.proofs.lemmas.List.{take_more, take_more_set, map-append, reverse-append}
use Rattle.std.specs.declared.cmp.Ordering.{Ordering}
use Rattle.order.specs.Laws.{Ordered}
use Rattle.calls.specs.declared.calls.Answer.{Answer}
use Rattle.calls.specs.declared.calls.Call as Calls
use Rattle.calls.specs.declared.refusals.Refusal.{Refusal}
use Rattle.calls.specs.Refusals.{Code}
use Rattle.calls.specs.Asking.{Query, asked}
use Rattle.calls.specs.Runs.{event}
use Rattle.bank.specs.Calls.{told, itself}
use Rattle.bank.specs.Fitting.{coded}
use Rattle.shared.specs.declared.moves.Move.{Move}
use Rattle.shared.specs.declared.moves.Move.TheVariants.{LayOut, Turn, Call}
use Rattle.shared.specs.declared.moves.Reply.{Reply}
use Rattle.shared.specs.declared.moves.Reply.TheVariants as R
use Rattle.shared.specs.SharedStates.{SharedState}
use Rattle.shared.specs.Moves.{laid, turned, called, LaidOut, TurnsTo, Called, MakesAll}
use Rattle.shared.specs.MoveLists.{AskedMove, asked_move, told_reply, replied, move_of, reply_of, MakesMove, Performed, first_moves, first_replies}
use Rattle.shared.proofs.Standing.{all_stand}

-- one move, from what its method says
module _ {K V P Q : Type 0} (compares : K → K → Ordering) (points : P → Query K) (places : Q → Query K) (m : Move K V P Q) (x : Result (Reply K V) Refusal) (d d' : SharedState K V) where
  pub laid_made : (b : ℕ) (r : Result (Unit {0}) Refusal) → m ≡ LayOut → told_reply x ≡ replied (λ u. R.LaidOut) (coded r) → LaidOut compares b (coded r) d d' → MakesMove compares (asked_move points places m) (told_reply x) d d'
  laid_made b r e q l = record { moved = laid b (coded r); asked = ap (asked_move points places) (sym e); told = sym q; made = l }

  pub turned_made : (n : ℕ) (r : Result (Unit {0}) Refusal) → m ≡ Turn n → told_reply x ≡ replied (λ u. R.Turned) (coded r) → TurnsTo n d d' (coded r) → MakesMove compares (asked_move points places m) (told_reply x) d d'
  turned_made n r e q t = record { moved = turned n (coded r); asked = ap (asked_move points places) (sym e); told = sym q; made = t }

  pub called_made : (b : ℕ) (c : Calls.Call K V P Q) (r : Result (Answer K V) Refusal) → m ≡ Call c → told_reply x ≡ replied R.Answered (told itself r) → Called compares b (event (asked points places c) (told itself r)) d d'
      → MakesMove compares (asked_move points places m) (told_reply x) d d'
  called_made b c r e q a = record { moved = called b (event (asked points places c) (told itself r)); asked = ap (asked_move points places) (sym e); told = sym q; made = a }

module _ {K V : Type 0} {compares : K → K → Ordering} (ordered : Ordered compares) where
  pub made_none : (d : SharedState K V) → Performed compares [] [] d d
  unfolding MakesAll
  made_none d = record { moves = []; asked = refl; told = refl; made = refl; stands = λ before w o. w }

  pub made_more : (ms : List (AskedMove K V)) (rs : List (Result (Reply K V) Code)) (m : AskedMove K V) (r : Result (Reply K V) Code) (d d₁ d₂ : SharedState K V)
      → Performed compares ms rs d d₁ → MakesMove compares m r d₁ d₂ → Performed compares (ms ++ m ∷ []) (rs ++ r ∷ []) d d₂
  unfolding MakesAll
  made_more ms rs m r d d₁ d₂ x y = record {
    moves = y.moved ∷ x.moves;
    asked = ap (λ a. a ∷ map move_of x.moves) y.asked ∙ ap (λ as'. m ∷ as') x.asked ∙ sym (reverse-append ms (m ∷ []));
    told = ap (λ a. a ∷ map reply_of x.moves) y.told ∙ ap (λ as'. r ∷ as') x.told ∙ sym (reverse-append rs (r ∷ []));
    made = (d₁, x.made, y.made);
    stands = λ before w o. all_stand ordered (y.moved ∷ x.moves) before d d₂ w (d₁, x.made, y.made) o;
  }

-- one more of the first moves and of the first replies
replies_more : {K V : Type 0} (n : ℕ) (rs : List (Result (Reply K V) Refusal)) (r : Result (Reply K V) Refusal) → n < length rs → first_replies (n + 1) (set rs n r) ≡ first_replies n rs ++ told_reply r ∷ []
replies_more n rs r l = ap (map told_reply) (take_more_set rs n r l) ∙ map-append told_reply (take n rs) (r ∷ [])

module _ {K V P Q : Type 0} where
  moves_more : (points : P → Query K) (places : Q → Query K) (n : ℕ) (ms : List (Move K V P Q)) (d : Move K V P Q) → n < length ms → first_moves points places (n + 1) ms ≡ first_moves points places n ms ++ asked_move points places (get_or ms n d) ∷ []
  moves_more points places n ms d l = ap (map (asked_move points places)) (take_more ms n d l) ∙ map-append (asked_move points places) (take n ms) (get_or ms n d ∷ [])

  -- one move more, with its reply put down
  pub listed_more : {compares : K → K → Ordering} (ordered : Ordered compares) (points : P → Query K) (places : Q → Query K) (n : ℕ) (ms : List (Move K V P Q)) (m : Move K V P Q) (rs rs' : List (Result (Reply K V) Refusal)) (r : Result (Reply K V) Refusal) (d d₁ d₂ : SharedState K V)
      → n < length ms → n < length rs → m ≡ get_or ms n m → rs' ≡ set rs n r → Performed compares (first_moves points places n ms) (first_replies n rs) d d₁ → MakesMove compares (asked_move points places m) (told_reply r) d₁ d₂
      → Performed compares (first_moves points places (n + 1) ms) (first_replies (n + 1) rs') d d₂
  listed_more {compares} ordered points places n ms m rs rs' r d d₁ d₂ l k q z a b =
      subst (λ x. Performed compares (first_moves points places (n + 1) ms) (first_replies (n + 1) x) d d₂) (sym z)
      (subst (λ x. Performed compares x (first_replies (n + 1) (set rs n r)) d d₂) (sym (moves_more points places n ms m l ∙ ap (λ y. first_moves points places n ms ++ asked_move points places y ∷ []) (sym q)))
      (subst (λ x. Performed compares (first_moves points places n ms ++ asked_move points places m ∷ []) x d d₂) (sym (replies_more n rs r k))
      (made_more ordered (first_moves points places n ms) (first_replies n rs) (asked_move points places m) (told_reply r) d d₁ d₂ a b)))
