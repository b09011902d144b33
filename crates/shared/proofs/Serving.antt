-- What a call of the one that is served does to what both have, from what the bank says of it. Assumes nothing.
use Rattle.std.proofs.Common.{◌≡◌, ℕ, ◌<◌, Result, Bool, true, false, cond, List, [], ◌∷◌, length, replicate, slice_index_or, inl, inr, MatchResult, Ok, Err, refl, sym, ap, ◌∙◌, subst, arith}
use Rattle.std.specs.declared.cmp.Ordering.{Ordering}
use Rattle.supply.specs.declared.callers.Caller.{Caller}
use Rattle.supply.specs.declared.callers.Caller.TheVariants.{First, Second}
use Rattle.supply.specs.Callers.{caller_number}
use Rattle.supply.specs.Shares.{share_stock, share_for}
use Rattle.supply.specs.Stocks.{Stock, is_barred, barred_by}
use Rattle.node.specs.Store.{Tables}
use Rattle.books.specs.declared.places.Place.{Place}
use Rattle.books.specs.declared.places.Place.TheVariants as P
use Rattle.books.specs.Books.{Book, bare}
use Rattle.calls.specs.Refusals.{Code}
use Rattle.calls.specs.Rules.{check}
use Rattle.calls.specs.Runs.{Event}
use Rattle.books.specs.States.{State, Models}
use Rattle.bank.specs.Calls.{Fit, FailsChecks, Met, Keeps, Performs}
use Rattle.bank.specs.Gate.{Fits, kinds}
use Rattle.bank.specs.Layout.{LaysOut, UnusedSupply, laid}
use Rattle.shared.specs.SharedStates.{SharedState, of_caller, caller_state, view, other, shared_of}
use Rattle.shared.specs.Moves.{LeavesOther, Called, LaidOut, laid_for, TurnsTo, turned_to}

pub number_low : (c : Caller) → caller_number c < 2
number_low First = omega arith
number_low Second = omega arith

pub number_same : (c c' : Caller) → caller_number c' ≡ caller_number c → c' ≡ c
number_same First First q = refl
number_same First Second q = absurd (omega arith)
number_same Second First q = absurd (omega arith)
number_same Second Second q = refl

abbrev top : List (List Bool) → List Bool
top [] = []
top (m ∷ ms) = m

abbrev first_term : List ℕ → ℕ
first_term [] = 0
first_term (n ∷ ns) = n

-- the terms as the other caller means them
abbrev crossed : List ℕ → List ℕ
crossed (c ∷ l ∷ l' ∷ ts) = other c ∷ l' ∷ l ∷ ts
crossed ts = ts

module _ {K V : Type 0} (T : Tables K V) (size : ℕ) (c : Caller) (ps ps' : List Place) (B : Stock) (n l : ℕ) (m : List Bool) (l' : ℕ) (m' : List Bool) where
  abbrev pub shared : SharedState K V
  shared = shared_of T size (caller_number c) ps ps' B n l m l' m'

  -- the bank as the one served means it
  abbrev pub own : State K V
  own = record { tables = T; size = size; places = ps; stock = share_stock B n (caller_number c) l m l' m' }

pub view_own : {K V : Type 0} (T : Tables K V) (size : ℕ) (c : Caller) (ps ps' : List Place) (B : Stock) (n l : ℕ) (m : List Bool) (l' : ℕ) (m' : List Bool)
    → view (shared T size c ps ps' B n l m l' m') (caller_number c) ≡ own T size c ps ps' B n l m l' m'
view_own T size First ps ps' B n l m l' m' = refl
view_own T size Second ps ps' B n l m l' m' = refl

pub other_caller : {K V : Type 0} (T : Tables K V) (size : ℕ) (c : Caller) (ps ps' : List Place) (B : Stock) (n l : ℕ) (m : List Bool) (l' : ℕ) (m' : List Bool)
    → of_caller (shared T size c ps ps' B n l m l' m') (other (caller_number c)) ≡ caller_state ps' (share_stock B n (other (caller_number c)) l' m' l m)
other_caller T size First ps ps' B n l m l' m' = refl
other_caller T size Second ps ps' B n l m l' m' = refl

module _ {K V : Type 0} (compares : K → K → Ordering) (ev : Event K V) (T T' : Tables K V) (size size' : ℕ) (c c' : Caller) (ps ps₁ ps' : List Place) (B B' : Stock) (n n₁ l l₁ : ℕ) (m m₁ : List Bool) (l' l₂ : ℕ) (m' m₂ : List Bool)
    (performs : Performs compares ev.call (own T size c ps ps' B n l m l' m') (own T' size' c' ps₁ ps' B' n₁ l₁ m₁ l₂ m₂) ev.answer)
    (keeps : Keeps compares ev.call (own T size c ps ps' B n l m l' m') (own T' size' c' ps₁ ps' B' n₁ l₁ m₁ l₂ m₂) ev.answer) where
  abbrev d : SharedState K V
  d = shared T size c ps ps' B n l m l' m'

  abbrev d' : SharedState K V
  d' = shared T' size' c' ps₁ ps' B' n₁ l₁ m₁ l₂ m₂

  abbrev b : ℕ
  b = caller_number c

  abbrev s : State K V
  s = own T size c ps ps' B n l m l' m'

  abbrev s' : State K V
  s' = own T' size' c' ps₁ ps' B' n₁ l₁ m₁ l₂ m₂

  view_is : view d b ≡ s
  view_is = view_own T size c ps ps' B n l m l' m'

  module _ (aside : s'.stock.aside ≡ s.stock.aside) where
    same_caller : c' ≡ c
    same_caller = number_same c c' (ap (λ a. first_term a.terms) aside)

    there : of_caller d' (other b) ≡ caller_state ps' (share_stock B' n₁ (other (caller_number c')) l₂ m₂ l₁ m₁)
    there = ap (λ k. of_caller d' (other (caller_number k))) (sym same_caller) ∙ other_caller T' size' c' ps₁ ps' B' n₁ l₁ m₁ l₂ m₂

    here : of_caller d (other b) ≡ caller_state ps' (share_stock B n (other b) l' m' l m)
    here = other_caller T size c ps ps' B n l m l' m'

    left_other : LeavesOther b d d'
    left_other = record {
      served = ap caller_number same_caller;
      terms = ap (λ k. k.stock.aside.terms) there ∙ ap (λ a. crossed a.terms) aside ∙ sym (ap (λ k. k.stock.aside.terms) here);
      places = ap (λ k. k.places) there ∙ sym (ap (λ k. k.places) here);
      marks = ap (λ k. k.stock.marks) there ∙ ap (λ a. top a.barred) aside ∙ sym (ap (λ k. k.stock.marks) here);
      barred = λ x o.
          ap (λ z. is_barred z.stock x) view_is
          ∙ ap (λ z. cond z true (barred_by B.aside.barred x)) (sym (ap (λ k. slice_index_or k.stock.marks x false) here) ∙ o);
    }

    view_after : view d' b ≡ s'
    view_after = ap (λ k. view d' (caller_number k)) (sym same_caller) ∙ view_own T' size' c' ps₁ ps' B' n₁ l₁ m₁ l₂ m₂

  aside_of : s' ≡ s → s'.stock.aside ≡ s.stock.aside
  aside_of e = ap (λ z. z.stock.aside) e

  stays_as : s' ≡ s → view d' b ≡ s
  stays_as e = view_after (aside_of e) ∙ e

  met_after : (bs : List (Book (K × V))) → Met compares ev.call s s' ev.answer bs → Met compares ev.call s (view d' b) ev.answer bs
  met_after bs t = subst (λ z. Met compares ev.call s z ev.answer bs) (sym (view_after t.next.aside)) t

  performs_after : Performs compares ev.call s (view d' b) ev.answer
  performs_after = record {
    misfit = λ f. let p = performs.misfit f in (p.0, stays_as p.1);
    refused = λ f e q. let p = performs.refused f e q in (p.0, stays_as p.1);
    size = performs.size;
    reads = performs.reads;
    asks = λ q. stays_as (performs.asks q);
    audits = performs.audits;
    meets = λ f q bs w. met_after bs (performs.meets f q bs w);
  }

  keeps_after : (bs : List (Book (K × V))) → Fit s → Models compares s bs → Met compares ev.call s (view d' b) ev.answer bs
  keeps_after bs f w = met_after bs (keeps bs f w)

  fit_own : Fit (view d b) → Fit s
  fit_own f = subst Fit view_is f

  pub called_of : (FailsChecks ev.call s → d' ≡ d) → Called compares b ev d d'
  called_of same = record {
    by = refl;
    one = number_low c;
    performs = subst (λ z. Performs compares ev.call z (view d' b) ev.answer) (sym view_is) performs_after;
    keeps = λ bs f w. subst (λ z. Met compares ev.call z (view d' b) ev.answer bs) (sym view_is) (keeps_after bs (fit_own f) (subst (λ z. Models compares z bs) view_is w));
    leaves = λ bs f w. left_other ((keeps bs (fit_own f) (subst (λ z. Models compares z bs) view_is w)).next.aside);
    misfit = λ f. left_other (aside_of (performs.misfit (λ g. f (subst Fit (sym view_is) g))).1);
    refused = λ f e q. left_other (aside_of (performs.refused (fit_own f) e (ap (λ z. check (kinds z.places) ev.call) (sym view_is) ∙ q)).1);
    asks = λ q. left_other (aside_of (performs.asks q));
    same = λ r. same (subst (FailsChecks ev.call) view_is r);
  }

-- a call that the checks refuse leaves the state as it was
pub failed_same : {K V : Type 0} {compares : K → K → Ordering} {ev : Event K V} {s s' : State K V} → Performs compares ev.call s s' ev.answer → FailsChecks ev.call s → s' ≡ s
failed_same p (inl n) = (p.misfit n).1
failed_same p (inr r) = (p.refused r.0 r.1.0 r.1.1).1

-- what stands unchanged within something else
pub within_same : {X Y E : Type 0} (f : X → Y) (x x' : X) (r : Result (Unit {0}) E) → MatchResult r (λ _. Unit {0}) (λ _. x' ≡ x) → MatchResult r (λ _. Unit {0}) (λ _. f x' ≡ f x)
within_same f x x' (Ok u) w = tt
within_same f x x' (Err e) w = ap f w

-- ---- a turn

module _ {K V : Type 0} (T : Tables K V) (size : ℕ) (ps ps' : List Place) (B B' : Stock) (n n₁ l l₁ : ℕ) (m m₁ : List Bool) (l' l₂ : ℕ) (m' m₂ : List Bool) where
  pub swapped : (c c' : Caller) → (c ≡ c' → ⊥)
      → ((k : ℕ) → k < 2 → share_for B' n₁ (caller_number c') l₁ m₁ l₂ m₂ k ≡ share_for B n (caller_number c) l m l' m' k)
      → shared T size c' ps' ps B' n₁ l₁ m₁ l₂ m₂ ≡ turned_to (caller_number c') (shared T size c ps ps' B n l m l' m')
  swapped First First d k = absurd (d refl)
  swapped First Second d k =
      ap (λ z. record { tables = T; size = size; served = 1; first = caller_state ps z; second = caller_state ps' (share_stock B' n₁ 1 l₁ m₁ l₂ m₂) }) (k 0 (omega arith))
      ∙ ap (λ z. record { tables = T; size = size; served = 1; first = caller_state ps (share_stock B n 0 l m l' m'); second = caller_state ps' z }) (k 1 (omega arith))
  swapped Second First d k =
      ap (λ z. record { tables = T; size = size; served = 0; first = caller_state ps' z; second = caller_state ps (share_stock B' n₁ 1 l₂ m₂ l₁ m₁) }) (k 0 (omega arith))
      ∙ ap (λ z. record { tables = T; size = size; served = 0; first = caller_state ps' (share_stock B n 0 l' m' l m); second = caller_state ps z }) (k 1 (omega arith))
  swapped Second Second d k = absurd (d refl)

module _ {K V : Type 0} (n : ℕ) (d : SharedState K V) where
  -- a turn that is refused for the caller's number, or for the tables
  pub turned_no_caller : 1 < n → TurnsTo n d d (Err (10, []))
  turned_no_caller l = record { no_caller = λ _. (refl, refl); misfit = λ k. absurd (omega arith); granted = λ k. absurd (omega arith) }

  pub turned_misfit : n < 2 → (Fit (view d d.served) → ⊥) → TurnsTo n d d (Err (1, []))
  turned_misfit l f = record { no_caller = λ k. absurd (omega arith); misfit = λ _ _. (refl, refl); granted = λ _ g. absurd (f g) }

  pub turned_done : n < 2 → Fit (view d d.served) → (d' : SharedState K V) → d' ≡ turned_to n d → TurnsTo n d d' (Ok tt)
  turned_done l f d' e = record { no_caller = λ k. absurd (omega arith); misfit = λ _ g. absurd (g f); granted = λ _ _. (refl, e) }

-- the tables fit as they fit the bank
pub fit_shared : {K V : Type 0} (T : Tables K V) (size : ℕ) (c : Caller) (ps ps' : List Place) (B : Stock) (n l : ℕ) (m : List Bool) (l' : ℕ) (m' : List Bool)
    → Fits (length T.heads) (length T.keys) (length T.values) × (size ≡ length T.heads) → Fit (view (shared T size c ps ps' B n l m l' m') (caller_number c))
fit_shared T size c ps ps' B n l m l' m' w = record { fits = w.0; size_is = w.1 }

pub fit_not : {K V : Type 0} (T : Tables K V) (size : ℕ) (c : Caller) (ps ps' : List Place) (B : Stock) (n l : ℕ) (m : List Bool) (l' : ℕ) (m' : List Bool)
    → (Fits (length T.heads) (length T.keys) (length T.values) → size ≡ length T.heads → ⊥) → Fit (view (shared T size c ps ps' B n l m l' m') (caller_number c)) → ⊥
fit_not T size c ps ps' B n l m l' m' f g = f g.fits g.size_is

-- a turn to the one that is served
pub turned_same : {K V : Type 0} (k : ℕ) (T : Tables K V) (size : ℕ) (c : Caller) (ps ps' : List Place) (B : Stock) (n l : ℕ) (m : List Bool) (l' : ℕ) (m' : List Bool) → caller_number c ≡ k
    → shared T size c ps ps' B n l m l' m' ≡ turned_to k (shared T size c ps ps' B n l m l' m')
turned_same k T size c ps ps' B n l m l' m' e = ap (λ i. turned_to i (shared T size c ps ps' B n l m l' m')) e

-- a turn to the other
pub turned_other : {K V : Type 0} (k : ℕ) (T : Tables K V) (size size' : ℕ) (c c' a : Caller) (ps ps' qs qs' : List Place) (B B' : Stock) (n n₁ l l₁ : ℕ) (m m₁ : List Bool) (l' l₂ : ℕ) (m' m₂ : List Bool)
    → size' ≡ size → c' ≡ a → qs ≡ ps' → qs' ≡ ps → caller_number a ≡ k → (caller_number c ≡ k → ⊥)
    → ((i : ℕ) → i < 2 → share_for B' n₁ (caller_number c') l₁ m₁ l₂ m₂ i ≡ share_for B n (caller_number c) l m l' m' i)
    → shared T size' c' qs qs' B' n₁ l₁ m₁ l₂ m₂ ≡ turned_to k (shared T size c ps ps' B n l m l' m')
turned_other k T size size' c c' a ps ps' qs qs' B B' n n₁ l l₁ m m₁ l' l₂ m' m₂ z e p q i d w =
    ap (λ y. shared T y c' qs qs' B' n₁ l₁ m₁ l₂ m₂) z
    ∙ ap (λ y. shared T size c' y qs' B' n₁ l₁ m₁ l₂ m₂) p
    ∙ ap (λ y. shared T size c' ps' y B' n₁ l₁ m₁ l₂ m₂) q
    ∙ swapped T size ps ps' B B' n n₁ l l₁ m m₁ l' l₂ m' m₂ c c' (λ r. d (ap caller_number (r ∙ e) ∙ i)) w
    ∙ ap (λ y. turned_to y (shared T size c ps ps' B n l m l' m')) (ap caller_number e ∙ i)

-- ---- a laying out

module _ {K V : Type 0} (compares : K → K → Ordering) (T : Tables K V) (size size' : ℕ) (c : Caller) (ps ps₁ ps' : List Place) (B : Stock) (n l : ℕ) (m : List Bool) (l' : ℕ) (m' : List Bool) (r : Result (Unit {0}) Code)
    (lays : LaysOut compares (own T size c ps ps' B n l m l' m') (own T size' c ps₁ ps' B n l m l' m') r) where
  abbrev e : SharedState K V
  e = shared T size c ps ps' B n l m l' m'

  abbrev e' : SharedState K V
  e' = shared T size' c ps₁ ps' B n l m l' m'

  abbrev k : ℕ
  k = caller_number c

  abbrev z : State K V
  z = own T size c ps ps' B n l m l' m'

  abbrev z' : State K V
  z' = own T size' c ps₁ ps' B n l m l' m'

  z_is : view e k ≡ z
  z_is = view_own T size c ps ps' B n l m l' m'

  z'_is : view e' k ≡ z'
  z'_is = view_own T size' c ps₁ ps' B n l m l' m'

  -- the bank's state tells the whole of it
  of_state : (s : State K V) → z' ≡ s → e' ≡ shared T s.size c s.places ps' B n l m l' m'
  of_state s q = ap (λ s. shared T s.size c ps₁ ps' B n l m l' m') q ∙ ap (λ y. shared T s.size c y.places ps' B n l m l' m') q

  laid_shared : (c : Caller) → shared T (length T.heads) c (replicate 16 P.Bare) ps' B n l m l' m' ≡ laid_for (caller_number c) (shared T size c ps ps' B n l m l' m')
  laid_shared First = refl
  laid_shared Second = refl

  unused_own : UnusedSupply (view e k) → UnusedSupply z
  unused_own u = subst (λ s. UnusedSupply s) z_is u

  pub laid_of : LaidOut compares k r e e'
  laid_of = record {
    by = refl;
    one = number_low c;
    misfit = λ f. let p = lays.misfit f in (p.0, of_state z p.1);
    taken = λ f u. let p = lays.taken f (λ w. u (subst (λ s. UnusedSupply s) (sym z_is) w)) in (p.0, of_state z p.1);
    granted = λ f u. let p = lays.granted f (unused_own u) in (p.0, of_state (laid z) p.1 ∙ laid_shared c);
    models = λ f u. subst (λ s. Models compares s (replicate 16 bare)) (sym z'_is) (lays.models f (unused_own u));
  }
