-- What a call does to a bank in good form, from what it does at its places. Assumes nothing.
use Rattle.std.proofs.Common.{◌≡◌, ◌≢◌, ℕ, ◌+◌, ◌<◌, Bool, true, false, cond, List, ◌∷◌, length, slice_set, nat_lt, nat_eq, Some, None, Ok, Err, Option, Result, refl, sym, ap, ◌∙◌, subst, arith}
use Rattle.std.proofs.lemmas.Bool.{ltb-true}
use Rattle.std.specs.declared.cmp.Ordering.{Ordering}
use Rattle.supply.specs.Stocks.{Stock, size_of, is_out, is_barred, outs_of}
use Rattle.node.specs.Balance.{Beside, Spared}
use Rattle.node.proofs.Balances.{beside_spared, spared_none}
use Rattle.order.specs.Laws.{Ordered, Placed, Pointed}
use Rattle.node.specs.Store.{Tables}
use Rattle.books.specs.declared.places.Place.{Place}
use Rattle.calls.specs.declared.calls.Answer.{Answer}
use Rattle.books.specs.Books.{Book, uses, book_in}
use Rattle.calls.specs.Meaning.{Agreeing, Means, Pointing}
use Rattle.books.specs.Places.{place_in}
use Rattle.calls.specs.Refusals.{Code}
use Rattle.calls.specs.declared.calls.Call.{Call}
use Rattle.calls.specs.declared.calls.Call.TheVariants.{Insert, Lookup, Least, Count, Cut, Open, Step, Close, Release, Audit}
use Rattle.calls.specs.Asking.{Asked, asked}
use Rattle.books.specs.Kinds.{Kind, kind_of}
use Rattle.calls.specs.Rules.{Outcome, outcome, Part, Parts, placed, parted, Shape, asks_at, acts_at, acts_at_both, of_bank, shape, check_shape, rule, checked, act, check, check_one, check_two, no_place, wrong_kind}
use Rattle.calls.specs.Runs.{Event, event, Next, Runs}
use Rattle.books.specs.States.{State, Models}
use Rattle.calls.proofs.Keeping.{ok_err}
use Rattle.calls.proofs.Placing.{again}
use Rattle.calls.proofs.Numbering.{rule_numbers}
use Rattle.calls.proofs.Ruling.{rule_means}
use Rattle.calls.proofs.Running.{sound_low, runs_stand}
use Rattle.acts.specs.Acts.{Becomes, BothBecome}
use Rattle.bank.specs.Calls.{Fit, Met, Performs}
use Rattle.bank.specs.Gate.{kinds}
use Rattle.bank.proofs.Keepings.{all_sound, kind_same, uses_one, uses_two, one_replaced, both_replaced}

-- the query of a call agrees with the order of the keys, and that of a lookup stands at one place
pub agreeing : {K V P Q : Type 0} {compares : K → K → Ordering} {points : P → K → Ordering} {places : Q → K → Ordering} → Placed compares points → Placed compares places → (c : Call K V P Q) → Agreeing compares (asked points places c)
agreeing v w (Insert p k x) = tt
agreeing v w (Lookup p q) = record { under = v.under q; over = v.over q }
agreeing v w (Least p q) = record { under = w.under q; over = w.over q }
agreeing v w (Count p) = tt
agreeing v w (Cut p o q) = record { under = w.under q; over = w.over q }
agreeing v w (Open p) = tt
agreeing v w (Step p d) = tt
agreeing v w (Close p) = tt
agreeing v w (Release p) = tt
agreeing v w Audit = tt

pub pointing : {K V P Q : Type 0} {compares : K → K → Ordering} {points : P → K → Ordering} (places : Q → K → Ordering) → Placed compares points → Pointed compares points → (c : Call K V P Q) → Pointing compares (asked points places c)
pointing places v i (Insert p k x) = tt
pointing places v i (Lookup p q) = record { agrees = record { under = v.under q; over = v.over q }; single = i.single q }
pointing places v i (Least p q) = tt
pointing places v i (Count p) = tt
pointing places v i (Cut p o q) = tt
pointing places v i (Open p) = tt
pointing places v i (Step p d) = tt
pointing places v i (Close p) = tt
pointing places v i (Release p) = tt
pointing places v i Audit = tt

-- ---- the checks, by places and by books

module _ (k k' : ℕ → Kind) (same : (p : ℕ) → p < 16 → k p ≡ k' p) where
  one_same : (f : Kind → Bool) (p : ℕ) → check_one k f p ≡ check_one k' f p
  one_same f p = go (nat_lt p 16) refl
    where
      go : (l : Bool) → nat_lt p 16 ≡ l → cond l (cond (f (k p)) None wrong_kind) no_place ≡ cond l (cond (f (k' p)) None wrong_kind) no_place
      go true q = ap (λ x. cond (f x) None wrong_kind) (same p (ltb-true p 16 q))
      go false q = refl

  two_same : (f g : Kind → Bool) (p o : ℕ) → check_two k f g p o ≡ check_two k' f g p o
  two_same f g p o = go (nat_lt p 16) refl (nat_lt o 16) refl
    where
      at : Kind → Kind → Option Code
      at x y = cond (f x) (cond (g y) (cond (nat_eq p o) wrong_kind None) wrong_kind) wrong_kind

      go : (l : Bool) → nat_lt p 16 ≡ l → (l' : Bool) → nat_lt o 16 ≡ l' → cond l (cond l' (at (k p) (k o)) no_place) no_place ≡ cond l (cond l' (at (k' p) (k' o)) no_place) no_place
      go true q true q' = ap (λ x. at x (k o)) (same p (ltb-true p 16 q)) ∙ ap (λ y. at (k' p) y) (same o (ltb-true o 16 q'))
      go true q false q' = refl
      go false q l' q' = refl

  pub check_same : {K V : Type 0} (x : Shape K V) → check_shape k x ≡ check_shape k' x
  check_same (asks_at p f r) = one_same f p
  check_same (acts_at p f w r) = one_same f p
  check_same (acts_at_both p o f g w r) = two_same f g p o
  check_same (of_bank x) = refl

module _ {K V : Type 0} {compares : K → K → Ordering} (ordered : Ordered compares) (s : State K V) (c : Asked K V) (bs : List (Book (K × V))) (m : Models compares s bs) where
  -- the checks see the same of the books as of the places
  check_is : check (λ p. kind_of (book_in bs p)) c ≡ check (kinds s.places) c
  check_is = check_same (λ p. kind_of (book_in bs p)) (kinds s.places) (λ p l. kind_same compares s.tables (place_in s.places p) (book_in bs p) (m.held p l)) (shape c)

  module _ (s' : State K V) (r : Result (Answer K V) Code) (books : List (Book (K × V))) (m' : Models compares s' books) (fresh : ℕ → ℕ → ℕ) (top : ℕ → ℕ)
      (by : outcome r books ≡ rule compares fresh top s.stock.allowance c bs) (size : size_of s'.stock ≡ size_of s.stock) (allowance : s'.stock.allowance + outs_of s'.stock ≡ s.stock.allowance + outs_of s.stock)
      (aside : s'.stock.aside ≡ s.stock.aside) (spared : Spared s.tables s'.tables s.stock) (declined : (e : Code) → r ≡ Err e → s' ≡ s) where
    following : Next compares (event c r) s.stock bs s'.stock books
    following = record { fresh = fresh; top = top; by_rule = by; size = size; allowance = allowance; aside = aside }

    running : (past : List (Event K V)) → Runs compares past s.stock bs → Runs compares (event c r ∷ past) s'.stock books
    unfolding Runs
    running past w = (s.stock, bs, w, following)

    pub met_rule : Met compares c s s' r bs
    met_rule = record {
      books = books;
      models = m';
      next = following;
      means = λ g. subst (λ (o : Outcome K V). Means compares s.stock.allowance bs o.books o.answer c) (sym by) (rule_means compares fresh top s.stock.allowance c bs ordered g m.sixteen (all_sound compares s bs m));
      runs = running;
      even = λ past w. (runs_stand compares (event c r ∷ past) s'.stock books ordered (running past w)).2;
      low = sound_low compares books (all_sound compares s' books m');
      spared = spared;
      declined = declined;
      numbered = λ e q. rule_numbers compares fresh top s.stock.allowance c bs e (ap (λ (o : Outcome K V). o.answer) (sym by) ∙ q);
    }

  -- refused by the checks of places
  pub met_refused : (e : Code) → check (kinds s.places) c ≡ Some e → (s' : State K V) → s' ≡ s → Met compares c s s' (Err e) bs
  met_refused e q s' z =
      subst (λ y. Met compares c s y (Err e) bs) (sym z)
      (met_rule s (Err e) bs m (λ _ _. 0) (λ _. 0) (sym (ap (checked compares (λ _ _. 0) (λ _. 0) s.stock.allowance c bs) (check_is ∙ q))) refl refl refl (spared_none s.tables s.stock) (λ _ _. refl))

  -- whatever the checks say
  pub met_any : (s' : State K V) (r : Result (Answer K V) Code) → Fit s → Performs compares c s s' r → Met compares c s s' r bs
  met_any s' r f d = go (check (kinds s.places) c) refl
    where
      go : (o : Option Code) → check (kinds s.places) c ≡ o → Met compares c s s' r bs
      go None q = d.meets f q bs m
      go (Some e) q = let u = d.refused f e q in subst (λ y. Met compares c s s' y bs) (sym u.0) (met_refused e q s' u.1)

module _ {K V : Type 0} {compares : K → K → Ordering} (ordered : Ordered compares) (s : State K V) (c : Asked K V) (clear : (x : ℕ) → is_out s.stock x ≡ true → is_barred s.stock x ≡ false) (pass : check (kinds s.places) c ≡ None) (bs : List (Book (K × V))) (m : Models compares s bs) where
  rule_acts : (fresh : ℕ → ℕ → ℕ) (top : ℕ → ℕ) → rule compares fresh top s.stock.allowance c bs ≡ act compares fresh top s.stock.allowance c bs
  rule_acts fresh top = ap (checked compares fresh top s.stock.allowance c bs) (check_is ordered s c bs m ∙ pass)

  met_by : (s' : State K V) (r : Result (Answer K V) Code) (books : List (Book (K × V))) → Models compares s' books → (fresh : ℕ → ℕ → ℕ) (top : ℕ → ℕ) → outcome r books ≡ act compares fresh top s.stock.allowance c bs
      → size_of s'.stock ≡ size_of s.stock → s'.stock.allowance + outs_of s'.stock ≡ s.stock.allowance + outs_of s.stock → s'.stock.aside ≡ s.stock.aside → Spared s.tables s'.tables s.stock → ((e : Code) → r ≡ Err e → s' ≡ s) → Met compares c s s' r bs
  met_by s' r books m' fresh top by size allowance aside spared declined = met_rule ordered s c bs m s' r books m' fresh top (by ∙ sym (rule_acts fresh top)) size allowance aside spared declined

  spared_at : (p : ℕ) → p < 16 → (T' : Tables K V) → Beside s.tables T' s.stock (λ x. uses x (book_in bs p)) → Spared s.tables T' s.stock
  spared_at p l T' b = beside_spared s.tables T' s.stock (λ x. uses x (book_in bs p)) b (λ x. omega (arith, uses_one bs p x (subst (λ n. p < n) (sym m.sixteen) l), m.numbers x)) clear

  -- granted: the place and its book are replaced
  pub met_one : (p : ℕ) → p < 16 → length s.places ≡ 16 → (fresh : ℕ → ℕ → ℕ) (top : ℕ → ℕ) (o : Part K V) → act compares fresh top s.stock.allowance c bs ≡ placed p bs o → (T' : Tables K V) (S' : Stock) (place : Place) (x : Answer K V) → o.0 ≡ Ok x
      → Becomes compares s.tables T' s.stock S' (book_in bs p) place o.1 → Met compares c s (record { tables = T'; size = s.size; places = slice_set s.places p place; stock = S' }) (Ok x) bs
  met_one p l len fresh top o by T' S' place x q d =
      met_by (record { tables = T'; size = s.size; places = slice_set s.places p place; stock = S' }) (Ok x) (slice_set bs p o.1) (one_replaced compares s bs m T' S' p l len place o.1 d) fresh top
      (ap (λ r. outcome r (slice_set bs p o.1)) (sym q) ∙ sym by) d.balanced.size d.balanced.allowance d.balanced.aside (spared_at p l T' d.beside) (λ e z. absurd (ok_err x e z))

  -- nothing has changed
  pub met_same : (s' : State K V) → s' ≡ s → (fresh : ℕ → ℕ → ℕ) (top : ℕ → ℕ) (r : Result (Answer K V) Code) → act compares fresh top s.stock.allowance c bs ≡ outcome r bs → Met compares c s s' r bs
  met_same s' e fresh top r by = subst (λ z. Met compares c s z r bs) (sym e) (met_by s r bs m fresh top (sym by) refl refl refl (spared_none s.tables s.stock) (λ e z. refl))

  -- declined: nothing has changed
  pub met_declined : (s' : State K V) → s' ≡ s → (p : ℕ) (fresh : ℕ → ℕ → ℕ) (top : ℕ → ℕ) (o : Part K V) → act compares fresh top s.stock.allowance c bs ≡ placed p bs o → (e : Code) → o ≡ (Err e, book_in bs p) → Met compares c s s' (Err e) bs
  met_declined s' z p fresh top o by e q =
      met_same s' z fresh top (Err e) (by ∙ ap (placed p bs) q ∙ ap (outcome (Err e)) (again bs p (book_in bs p) refl))

  spared_both : (p o : ℕ) → p < 16 → o < 16 → p ≢ o → (T' : Tables K V) → Beside s.tables T' s.stock (λ x. uses x (book_in bs p) + uses x (book_in bs o)) → Spared s.tables T' s.stock
  spared_both p o l k n T' b =
      beside_spared s.tables T' s.stock (λ x. uses x (book_in bs p) + uses x (book_in bs o)) b
      (λ x. omega (arith, uses_two bs p o x (subst (λ i. p < i) (sym m.sixteen) l) (subst (λ i. o < i) (sym m.sixteen) k) (λ e. n (sym e)), m.numbers x)) clear

  -- granted: two places and their books are replaced
  pub met_both : (p o : ℕ) → p < 16 → o < 16 → p ≢ o → length s.places ≡ 16 → (fresh : ℕ → ℕ → ℕ) (top : ℕ → ℕ) (q : Parts K V) → act compares fresh top s.stock.allowance c bs ≡ parted p o bs q
      → (T' : Tables K V) (S' : Stock) (x y : Place) (r : Answer K V) → q.0 ≡ Ok r → BothBecome compares s.tables T' s.stock S' (book_in bs p) (book_in bs o) x y (q.1).0 (q.1).1
      → Met compares c s (record { tables = T'; size = s.size; places = slice_set (slice_set s.places p x) o y; stock = S' }) (Ok r) bs
  met_both p o l k n len fresh top q by T' S' x y r z d =
      met_by (record { tables = T'; size = s.size; places = slice_set (slice_set s.places p x) o y; stock = S' }) (Ok r) (slice_set (slice_set bs p (q.1).0) o (q.1).1)
      (both_replaced compares s bs m T' S' p o l k n len x y (q.1).0 (q.1).1 d) fresh top
      (ap (λ a. outcome a (slice_set (slice_set bs p (q.1).0) o (q.1).1)) (sym z) ∙ sym by) d.balanced.size d.balanced.allowance d.balanced.aside (spared_both p o l k n T' d.beside) (λ e w. absurd (ok_err r e w))

  -- declined: nothing has changed
  pub both_declined : (s' : State K V) → s' ≡ s → (p o : ℕ) (fresh : ℕ → ℕ → ℕ) (top : ℕ → ℕ) (q : Parts K V) → act compares fresh top s.stock.allowance c bs ≡ parted p o bs q → (e : Code) → q ≡ (Err e, (book_in bs p, book_in bs o))
      → Met compares c s s' (Err e) bs
  both_declined s' z p o fresh top q by e w =
      met_same s' z fresh top (Err e)
      (by ∙ ap (parted p o bs) w ∙ ap (λ b. outcome (Err e) (slice_set b o (book_in bs o))) (again bs p (book_in bs p) refl) ∙ ap (outcome (Err e)) (again bs o (book_in bs o) refl))
