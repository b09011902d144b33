-- Several calls, one after the other. Assumes nothing.
use Rattle.std.proofs.Common.{◌≡◌, ℕ, ◌+◌, ◌<◌, List, [], ◌∷◌, ◌++◌, length, map, take, drop, set, get_or, Result, refl, sym, ap, ◌∙◌, subst, arith}
use Rattle.std.proofs.lemmas.List.{take_more, take_more_set, drop-drop, drop-set-lt, map-append}
use Rattle.std.specs.declared.cmp.Ordering.{Ordering}
use Rattle.order.specs.Laws.{Ordered, Placed, Pointed}
use Rattle.calls.specs.declared.calls.Answer.{Answer}
use Rattle.books.specs.Books.{Book}
use Rattle.calls.specs.Refusals.{Code}
use Rattle.calls.specs.declared.calls.Call.{Call}
use Rattle.calls.specs.declared.refusals.Refusal.{Refusal}
use Rattle.calls.specs.Asking.{Asked, Query, asked}
use Rattle.calls.specs.Runs.{event}
use Rattle.books.specs.States.{State, Models}
use Rattle.calls.proofs.Running.{sound_low, runs_stand}
use Rattle.bank.specs.Calls.{Fit, Performs, told, itself}
use Rattle.bank.specs.Lists.{Chain, MeansEach, MetAll, PerformsAll, first_calls, first_answers}
use Rattle.bank.proofs.Keepings.{all_sound}
use Rattle.bank.proofs.Meetings.{agreeing, met_any}

pub chain_none : {K V : Type 0} (compares : K → K → Ordering) (s : State K V) → Chain compares [] [] s s
unfolding Chain
chain_none compares s = refl

module _ {K V : Type 0} {compares : K → K → Ordering} where
  -- one call more
  pub chain_more : (cs : List (Asked K V)) (rs : List (Result (Answer K V) Code)) (s s₁ s₂ : State K V) (c : Asked K V) (r : Result (Answer K V) Code)
      → Chain compares cs rs s s₁ → Performs compares c s₁ s₂ r → Chain compares (cs ++ c ∷ []) (rs ++ r ∷ []) s s₂
  unfolding Chain
  chain_more [] [] s s₁ s₂ c r q p = (s₂, subst (λ x. Performs compares c x s₂ r) q p, refl)
  chain_more [] (x ∷ rs) s s₁ s₂ c r q p = absurd q
  chain_more (x ∷ cs) [] s s₁ s₂ c r q p = absurd q
  chain_more (x ∷ cs) (y ∷ rs) s s₁ s₂ c r q p = (q.0, q.1, chain_more cs rs q.0 s₁ s₂ c r q.2 p)

-- the tables still fit
pub fits_on : {K V : Type 0} {compares : K → K → Ordering} (s s' : State K V) (bs : List (Book (K × V))) → Fit s → s'.size ≡ s.size → Models compares s' bs → Fit s'
fits_on s s' bs f q m = record {
  fits = record {
    some = omega (arith, f.fits.some, f.size_is, m.size_is);
    most = m.sized.most;
    keys_room = m.sized.keys_room;
    values_room = m.sized.values_room;
  };
  size_is = m.size_is;
}

-- from a chain, in good form
module _ {K V P Q : Type 0} {compares : K → K → Ordering} {points : P → Query K} {places : Q → Query K} (ordered : Ordered compares) (v : Placed compares points) (i : Pointed compares points) (w : Placed compares places) where
  pub all_chained : (cs : List (Call K V P Q)) (rs : List (Result (Answer K V) Code)) (s s' : State K V) → Chain compares (map (asked points places) cs) rs s s' → PerformsAll compares (map (asked points places) cs) s s' rs
  unfolding Chain MeansEach
  all_chained [] [] s s' q bs f m =
      subst (λ z. MetAll compares [] s z [] bs) (sym q) (record {
        books = bs;
        models = m;
        means = (refl, refl);
        size = refl;
        runs = λ past u. u;
        even = λ past u. (runs_stand compares past s.stock bs ordered u).2;
        low = sound_low compares bs (all_sound compares s bs m);
      })
  all_chained [] (r ∷ rs) s s' q bs f m = absurd q
  all_chained (c ∷ cs) [] s s' q bs f m = absurd q
  all_chained (c ∷ cs) (r ∷ rs) s s' q bs f m =
      let x = met_any ordered s (asked points places c) bs m q.0 r f q.1 in
      let y = all_chained cs rs q.0 s' q.2 x.books (fits_on s q.0 x.books f q.1.size x.models) x.models in
      record {
        books = y.books;
        models = y.models;
        means = (q.0, x.books, x.models, x.means (agreeing v w c), y.means);
        size = y.size ∙ q.1.size;
        runs = λ past u. y.runs (event (asked points places c) r ∷ past) (x.runs past u);
        even = λ past u. y.even (event (asked points places c) r ∷ past) (x.runs past u);
        low = y.low;
      }

-- what stands behind the answers that were put down
pub rest_same : {X : Type 0} (n : ℕ) (xs ys : List X) (x : X) → drop n ys ≡ drop n xs → drop (n + 1) (set ys n x) ≡ drop (n + 1) xs
rest_same n xs ys x e = drop-set-lt (n + 1) ys n x (omega arith) ∙ sym (drop-drop 1 n ys) ∙ ap (drop 1) e ∙ drop-drop 1 n xs

-- one more of the first calls and of the first answers
pub answers_more : {K V : Type 0} (n : ℕ) (rs : List (Result (Answer K V) Refusal)) (r : Result (Answer K V) Refusal) → n < length rs → first_answers (n + 1) (set rs n r) ≡ first_answers n rs ++ told itself r ∷ []
answers_more n rs r l = ap (map (told itself)) (take_more_set rs n r l) ∙ map-append (told itself) (take n rs) (r ∷ [])

module _ {K V P Q : Type 0} where
  pub calls_more : (points : P → Query K) (places : Q → Query K) (n : ℕ) (calls : List (Call K V P Q)) (d : Call K V P Q) → n < length calls → first_calls points places (n + 1) calls ≡ first_calls points places n calls ++ asked points places (get_or calls n d) ∷ []
  calls_more points places n calls d l = ap (map (asked points places)) (take_more calls n d l) ∙ map-append (asked points places) (take n calls) (get_or calls n d ∷ [])

  -- one call more, with its answer put down
  pub listed_more : {compares : K → K → Ordering} (points : P → Query K) (places : Q → Query K) (n : ℕ) (calls : List (Call K V P Q)) (c : Call K V P Q) (rs rs' : List (Result (Answer K V) Refusal)) (r : Result (Answer K V) Refusal) (s s₁ s₂ : State K V)
      → n < length calls → n < length rs → c ≡ get_or calls n c → rs' ≡ set rs n r → Chain compares (first_calls points places n calls) (first_answers n rs) s s₁ → Performs compares (asked points places c) s₁ s₂ (told itself r)
      → Chain compares (first_calls points places (n + 1) calls) (first_answers (n + 1) rs') s s₂
  listed_more {compares} points places n calls c rs rs' r s s₁ s₂ l k q z a d =
      subst (λ x. Chain compares (first_calls points places (n + 1) calls) (first_answers (n + 1) x) s s₂) (sym z)
      (subst (λ x. Chain compares x (first_answers (n + 1) (set rs n r)) s s₂) (sym (calls_more points places n calls c l ∙ ap (λ y. first_calls points places n calls ++ asked points places y ∷ []) (sym q)))
      (subst (λ x. Chain compares (first_calls points places n calls ++ asked points places c ∷ []) x s s₂) (sym (answers_more n rs r k))
      (chain_more (first_calls points places n calls) (first_answers n rs) s s₁ s₂ (asked points places c) (told itself r) a d)))
