-- Each call of the bank, from its checks and what it does at its places. Assumes nothing.
use Rattle.std.proofs.Common.{◌≡◌, ℕ, ◌<◌, inl, inr, Bool, true, false, Decides, List, length, slice_set, None, Ok, Err, Option, Result, refl, sym, ap, ◌∙◌, subst}
use Rattle.std.proofs.lemmas.Bool.{false≢true}
use Rattle.std.proofs.lemmas.Option.{none-some}
use Rattle.std.specs.declared.cmp.Ordering.{Ordering}
use Rattle.supply.specs.declared.faults.Fault.{Fault}
use Rattle.supply.specs.Stocks.{Stock, is_out, is_barred}
use Rattle.order.specs.Laws.{Ordered}
use Rattle.node.specs.Balance.{Unchanged}
use Rattle.node.specs.Store.{Tables}
use Rattle.books.specs.declared.places.Place.{Place}
use Rattle.calls.specs.declared.calls.Answer.{Answer}
use Rattle.calls.specs.declared.calls.Answer.TheVariants.{Inserted, Least as LeastIs, Counted, Opened, Handed, Dropped, Audited}
use Rattle.node.specs.declared.ends.Side.{Side}
use Rattle.walk.specs.declared.walks.Walk.{Walk}
use Rattle.books.specs.declared.places.Place.TheVariants as P
use Rattle.books.specs.Books.{Book, bare, planted, walked, idle, entries, book_in, BookAt, at_bare, at_tree, at_walk, at_idle}
use Rattle.calls.specs.Faults.{fault_code}
use Rattle.books.specs.Places.{place_in}
use Rattle.calls.specs.Refusals.{Code}
use Rattle.calls.specs.Asking.{Asked as Call, Query, Insert, Lookup, Least, Count, Cut, Open, Step, Close, Release, Audit}
use Rattle.books.specs.Kinds.{Kind, kind_of, is_map, is_walk, is_bare, any_kind}
use Rattle.calls.specs.Rules.{outcome, check, check_one, check_two, insert_in, cut_in, open_in, step_in, drop_in}
use Rattle.books.specs.States.{State, Models, GoodForm}
use Rattle.calls.proofs.Placing.{one_passes, Two, two_pass, bare_is}
use Rattle.acts.specs.Acts.{Ready, BothBecome, found, counts, InsertsIn, LooksIn, LeastsIn, CutsIn, OpensIn, StepsIn, ClosesIn, ReleasesIn}
use Rattle.bank.specs.Calls.{Fit, FailsChecks, Met, Reads, Asks, Audits, Performs, count_at}
use Rattle.bank.specs.Gate.{Fits, kinds}
use Rattle.bank.proofs.Keepings.{ready_at, kind_same}
use Rattle.bank.proofs.Meetings.{met_one, met_both, met_same, met_declined, both_declined}

module _ {K V : Type 0} (compares : K → K → Ordering) (c : Call K V) (s s' : State K V) (fit : Fit s) (pass : check (kinds s.places) c ≡ None) (r : Result (Answer K V) Code) where
  -- a call that passed the checks
  pub passed : s'.size ≡ s.size → (Reads c ≡ true → s'.tables ≡ s.tables) → (Asks c ≡ true → s' ≡ s) → Audits c ≡ false → ((bs : List (Book (K × V))) → Models compares s bs → Met compares c s s' r bs) → Performs compares c s s' r
  passed size reads asks none meets = record {
    misfit = λ n. absurd (n fit);
    refused = λ _ e q. absurd (none-some e (sym pass ∙ q));
    size = size;
    reads = reads;
    asks = asks;
    audits = λ _ q. absurd (false≢true (sym none ∙ q));
    meets = λ _ _ bs m. meets bs m;
  }

-- and the checks do not refuse it
pub not_refused : {K V : Type 0} (c : Call K V) (s : State K V) → Fit s → check (kinds s.places) c ≡ None → FailsChecks c s → ⊥
not_refused c s fit pass (inl n) = n fit
not_refused c s fit pass (inr r) = none-some r.1.0 (sym pass ∙ r.1.1)

module _ {K V : Type 0} {compares : K → K → Ordering} (ordered : Ordered compares) (s : State K V) (fit : Fit s) (clear : (x : ℕ) → is_out s.stock x ≡ true → is_barred s.stock x ≡ false) where
  some : 0 < s.size
  some = subst (λ n. 0 < n) (sym fit.size_is) fit.fits.some

  -- a place holds its book, of the kind that the place says
  module _ (p : ℕ) (low : p < 16) (bs : List (Book (K × V))) (m : Models compares s bs) where
    ready_in : (here : Place) → here ≡ place_in s.places p → Ready compares s.tables s.stock here (book_in bs p)
    ready_in here h = subst (λ x. Ready compares s.tables s.stock x (book_in bs p)) (sym h) (ready_at compares s bs m some p low)

    kind_in : (f : Kind → Bool) → f (kinds s.places p) ≡ true → f (kind_of (book_in bs p)) ≡ true
    kind_in f k = subst (λ x. f x ≡ true) (sym (kind_same compares s.tables (place_in s.places p) (book_in bs p) (m.held p low))) k

  module _ (T' : Tables K V) (S' : Stock) where
    -- the state with other tables and another supply, and places as they were
    abbrev pub with_places : List Place → State K V
    with_places ps = record { tables = T'; size = s.size; places = ps; stock = S' }

    same_state : Unchanged s.tables T' s.stock S' → with_places s.places ≡ s
    same_state u = ap (λ T. record { tables = T; size = s.size; places = s.places; stock = S' }) u.tables_same ∙ ap (λ S. record { tables = s.tables; size = s.size; places = s.places; stock = S }) u.stock_same

  -- a place, as a question for it answered it
  pub record Asked (f : Kind → Bool) (p : ℕ) (here : Place) : Type 0 where
    pub pass : check_one (kinds s.places) f p ≡ None
    pub is : here ≡ place_in s.places p
    pub long : length s.places ≡ 16

  pub asked_of : (f : Kind → Bool) (p : ℕ) (here : Place) → (check_one (kinds s.places) f p ≡ None) × (here ≡ place_in s.places p) × (length s.places ≡ 16) → Asked f p here
  asked_of f p here w = record { pass = w.0; is = w.1; long = w.2 }

  module _ (f : Kind → Bool) (p : ℕ) (here : Place) (w : Asked f p here) where
    low : p < 16
    low = (one_passes (kinds s.places) f p w.pass).low

    ready : (bs : List (Book (K × V))) → Models compares s bs → Ready compares s.tables s.stock here (book_in bs p)
    ready bs m = ready_in p low bs m here w.is

    kind : (bs : List (Book (K × V))) → Models compares s bs → f (kind_of (book_in bs p)) ≡ true
    kind bs m = kind_in p low bs m f (one_passes (kinds s.places) f p w.pass).kind

  module _ (p : ℕ) (k : K) (v : V) (T' : Tables K V) (S' : Stock) (here : Place) (w : Asked is_map p here) where
    pub inserted_done : (after : Place) (old : Option V) → InsertsIn compares s.tables T' s.stock S' here (k, v) (Ok (after, old))
        → Performs compares (Insert p k v) s (with_places T' S' (slice_set s.places p after)) (Ok (Inserted old))
    unfolding InsertsIn
    inserted_done after old i =
        passed compares (Insert p k v) s _ fit w.pass (Ok (Inserted old)) refl (λ n. absurd (false≢true n)) (λ n. absurd (false≢true n)) refl
        (λ bs m.
        let d = i (book_in bs p) (ready is_map p here w bs m) (kind is_map p here w bs m) in
        met_one ordered s (Insert p k v) clear w.pass bs m p (low is_map p here w) w.long (λ _. d.fresh) (λ _. d.top) (insert_in compares d.fresh d.top s.stock.allowance (k, v) (book_in bs p)) refl T' S' after (Inserted old) d.acts.0 d.acts.1)

    pub inserted_not : (f : Fault) (e : Code) → e ≡ fault_code f → InsertsIn compares s.tables T' s.stock S' here (k, v) (Err f) → Performs compares (Insert p k v) s (with_places T' S' s.places) (Err e)
    unfolding InsertsIn
    inserted_not f e z i =
        passed compares (Insert p k v) s _ fit w.pass (Err e) refl (λ n. absurd (false≢true n)) (λ n. absurd (false≢true n)) refl
        (λ bs m.
        let d = i (book_in bs p) (ready is_map p here w bs m) (kind is_map p here w bs m) in
        met_declined ordered s (Insert p k v) clear w.pass bs m _ (same_state T' S' d.acts.1) p (λ _. d.fresh) (λ _. d.top)
        (insert_in compares d.fresh d.top s.stock.allowance (k, v) (book_in bs p)) refl e (d.acts.0 ∙ ap (λ y. (Err y, book_in bs p)) (sym z)))

  module _ (p : ℕ) (place : Query K) (here : Place) (w : Asked is_map p here) where
    pub looked_done : (y : Option V × ℕ) → LooksIn compares s.tables here place (Ok y) → Performs compares (Lookup p place) s s (Ok (found y))
    unfolding LooksIn
    looked_done y i =
        passed compares (Lookup p place) s s fit w.pass (Ok (found y)) refl (λ _. refl) (λ _. refl) refl
        (λ bs m.
        met_same ordered s (Lookup p place) clear w.pass bs m s refl (λ _ _. 0) (λ _. 0) (Ok (found y)) (ap (λ r. outcome r bs) (i s.stock (book_in bs p) (ready is_map p here w bs m) (kind is_map p here w bs m))))

    pub looked_not : (f : Fault) (e : Code) → LooksIn compares s.tables here place (Err f) → Performs compares (Lookup p place) s s (Err e)
    unfolding LooksIn
    looked_not f e i =
        passed compares (Lookup p place) s s fit w.pass (Err e) refl (λ _. refl) (λ _. refl) refl
        (λ bs m. absurd (i s.stock (book_in bs p) (ready is_map p here w bs m) (kind is_map p here w bs m)))

  module _ (p : ℕ) (place : Query K) (here : Place) (w : Asked is_map p here) where
    pub least_done : (x : Option (K × V)) → LeastsIn compares s.tables here place (Ok x) → Performs compares (Least p place) s s (Ok (LeastIs x))
    unfolding LeastsIn
    least_done x i =
        passed compares (Least p place) s s fit w.pass (Ok (LeastIs x)) refl (λ _. refl) (λ _. refl) refl
        (λ bs m.
        met_same ordered s (Least p place) clear w.pass bs m s refl (λ _ _. 0) (λ _. 0) (Ok (LeastIs x)) (ap (λ r. outcome r bs) (i s.stock (book_in bs p) (ready is_map p here w bs m) (kind is_map p here w bs m))))

    pub least_not : (f : Fault) (e : Code) → LeastsIn compares s.tables here place (Err f) → Performs compares (Least p place) s s (Err e)
    unfolding LeastsIn
    least_not f e i =
        passed compares (Least p place) s s fit w.pass (Err e) refl (λ _. refl) (λ _. refl) refl
        (λ bs m. absurd (i s.stock (book_in bs p) (ready is_map p here w bs m) (kind is_map p here w bs m)))

  count_same : (T : Tables K V) (x : Place) (b : Book (K × V)) → BookAt compares T x b → count_at x ≡ length (entries b)
  count_same T x b at_bare = refl
  count_same T x b (at_tree h t a) = a.count_is
  count_same T x b (at_walk h t a) = a.count_is
  count_same T x b (at_idle a) = a.none_left

  pub counted_done : (p : ℕ) (here : Place) → Asked any_kind p here → (n : ℕ) → n ≡ count_at here → Performs compares (Count p) s s (Ok (Counted n))
  counted_done p here w n q =
      passed compares (Count p) s s fit w.pass (Ok (Counted n)) refl (λ _. refl) (λ _. refl) refl
      (λ bs m.
      met_same ordered s (Count p) clear w.pass bs m s refl (λ _ _. 0) (λ _. 0) (Ok (Counted n))
      (ap (λ k. outcome (Ok (Counted k)) bs) (sym (q ∙ count_same s.tables here (book_in bs p) (ready any_kind p here w bs m).at))))

  module _ (p o : ℕ) (place : Query K) (T' : Tables K V) (S' : Stock) (here : Place) (pass : check_two (kinds s.places) is_map is_bare p o ≡ None) (h : here ≡ place_in s.places p) (long : length s.places ≡ 16) where
    passes : Two (kinds s.places) is_map is_bare p o
    passes = two_pass (kinds s.places) is_map is_bare p o pass

    second_bare : (bs : List (Book (K × V))) → Models compares s bs → book_in bs o ≡ bare
    second_bare bs m = bare_is (book_in bs o) (kind_in o passes.low' bs m is_bare passes.kind')

    pub cut_done : (stays goes : Place) (n : ℕ × ℕ × ℕ) → CutsIn compares s.tables T' s.stock S' here place (Ok (stays, goes, n))
        → Performs compares (Cut p o place) s (with_places T' S' (slice_set (slice_set s.places p stays) o goes)) (Ok (counts n))
    unfolding CutsIn
    cut_done stays goes n i =
        passed compares (Cut p o place) s _ fit pass (Ok (counts n)) refl (λ n. absurd (false≢true n)) (λ n. absurd (false≢true n)) refl
        (λ bs m.
        let d = i (book_in bs p) (ready_in p passes.low bs m here h) (kind_in p passes.low bs m is_map passes.kind) in
        met_both ordered s (Cut p o place) clear pass bs m p o passes.low passes.low' passes.apart long (λ _. d.fresh) (λ _. 0) (cut_in d.fresh s.stock.allowance place (book_in bs p)) refl T' S' stays goes (counts n) d.acts.0
        (subst (λ b. BothBecome compares s.tables T' s.stock S' (book_in bs p) b stays goes ((cut_in d.fresh s.stock.allowance place (book_in bs p)).1).0 ((cut_in d.fresh s.stock.allowance place (book_in bs p)).1).1) (sym (second_bare bs m)) d.acts.1))

    pub cut_not : (f : Fault) (e : Code) → e ≡ fault_code f → CutsIn compares s.tables T' s.stock S' here place (Err f) → Performs compares (Cut p o place) s (with_places T' S' s.places) (Err e)
    unfolding CutsIn
    cut_not f e z i =
        passed compares (Cut p o place) s _ fit pass (Err e) refl (λ n. absurd (false≢true n)) (λ n. absurd (false≢true n)) refl
        (λ bs m.
        let d = i (book_in bs p) (ready_in p passes.low bs m here h) (kind_in p passes.low bs m is_map passes.kind) in
        both_declined ordered s (Cut p o place) clear pass bs m _ (same_state T' S' d.acts.1) p o (λ _. d.fresh) (λ _. 0)
        (cut_in d.fresh s.stock.allowance place (book_in bs p)) refl e (d.acts.0 ∙ ap (λ y. (Err y, (book_in bs p, bare))) (sym z) ∙ ap (λ b. (Err e, (book_in bs p, b))) (sym (second_bare bs m))))

  module _ (p : ℕ) (here : Place) (w : Asked is_map p here) where
    pub opened_done : (after : Place) → OpensIn compares s.tables s.stock here (Ok after) → Performs compares (Open p) s (with_places s.tables s.stock (slice_set s.places p after)) (Ok Opened)
    unfolding OpensIn
    opened_done after i =
        passed compares (Open p) s _ fit w.pass (Ok Opened) refl (λ _. refl) (λ n. absurd (false≢true n)) refl
        (λ bs m.
        let d = i (book_in bs p) (ready is_map p here w bs m) (kind is_map p here w bs m) in
        met_one ordered s (Open p) clear w.pass bs m p (low is_map p here w) w.long (λ _ _. 0) (λ _. 0) (open_in (book_in bs p)) refl s.tables s.stock after Opened d.0 d.1)

    pub opened_not : (f : Fault) (e : Code) → OpensIn compares s.tables s.stock here (Err f) → Performs compares (Open p) s s (Err e)
    unfolding OpensIn
    opened_not f e i =
        passed compares (Open p) s s fit w.pass (Err e) refl (λ _. refl) (λ n. absurd (false≢true n)) refl
        (λ bs m. absurd (i (book_in bs p) (ready is_map p here w bs m) (kind is_map p here w bs m)))

    pub released_done : (S' : Stock) (n : ℕ) → ReleasesIn compares s.tables s.stock S' here (Ok n) → Performs compares (Release p) s (with_places s.tables S' (slice_set s.places p P.Bare)) (Ok (Dropped n))
    unfolding ReleasesIn
    released_done S' n i =
        passed compares (Release p) s _ fit w.pass (Ok (Dropped n)) refl (λ _. refl) (λ n. absurd (false≢true n)) refl
        (λ bs m.
        let d = i (book_in bs p) (ready is_map p here w bs m) (kind is_map p here w bs m) in
        met_one ordered s (Release p) clear w.pass bs m p (low is_map p here w) w.long (λ _ _. 0) (λ _. 0) (drop_in (book_in bs p)) refl s.tables S' P.Bare (Dropped n) d.0 d.1)

    pub released_not : (S' : Stock) (f : Fault) (e : Code) → ReleasesIn compares s.tables s.stock S' here (Err f) → Performs compares (Release p) s (with_places s.tables S' s.places) (Err e)
    unfolding ReleasesIn
    released_not S' f e i =
        passed compares (Release p) s _ fit w.pass (Err e) refl (λ _. refl) (λ n. absurd (false≢true n)) refl
        (λ bs m. absurd (i (book_in bs p) (ready is_map p here w bs m) (kind is_map p here w bs m)))

  module _ (p : ℕ) (u : Walk) (w : Asked is_walk p (P.Walk u)) where
    pub stepped_done : (d : Side) (S' : Stock) (after : Place) (x : Option (K × V)) → StepsIn compares s.tables s.stock S' u d (Ok (after, x))
        → Performs compares (Step p d) s (with_places s.tables S' (slice_set s.places p after)) (Ok (Handed x))
    unfolding StepsIn
    stepped_done d S' after x i =
        passed compares (Step p d) s _ fit w.pass (Ok (Handed x)) refl (λ _. refl) (λ n. absurd (false≢true n)) refl
        (λ bs m.
        let a = i (book_in bs p) (ready is_walk p (P.Walk u) w bs m) in
        met_one ordered s (Step p d) clear w.pass bs m p (low is_walk p (P.Walk u) w) w.long (λ _ _. 0) (λ _. 0) (step_in d (book_in bs p)) refl s.tables S' after (Handed x) a.0 a.1)

    pub stepped_not : (d : Side) (S' : Stock) (f : Fault) (e : Code) → e ≡ fault_code f → StepsIn compares s.tables s.stock S' u d (Err f) → Performs compares (Step p d) s (with_places s.tables S' s.places) (Err e)
    unfolding StepsIn
    stepped_not d S' f e z i =
        passed compares (Step p d) s _ fit w.pass (Err e) refl (λ _. refl) (λ n. absurd (false≢true n)) refl
        (λ bs m.
        let a = i (book_in bs p) (ready is_walk p (P.Walk u) w bs m) in
        met_declined ordered s (Step p d) clear w.pass bs m _ (same_state s.tables S' a.1) p (λ _ _. 0) (λ _. 0) (step_in d (book_in bs p)) refl e (a.0 ∙ ap (λ y. (Err y, book_in bs p)) (sym z)))

    pub closed_done : (S' : Stock) (n : ℕ) → ClosesIn compares s.tables s.stock S' u (Ok n) → Performs compares (Close p) s (with_places s.tables S' (slice_set s.places p P.Bare)) (Ok (Dropped n))
    unfolding ClosesIn
    closed_done S' n i =
        passed compares (Close p) s _ fit w.pass (Ok (Dropped n)) refl (λ _. refl) (λ n. absurd (false≢true n)) refl
        (λ bs m.
        let d = i (book_in bs p) (ready is_walk p (P.Walk u) w bs m) in
        met_one ordered s (Close p) clear w.pass bs m p (low is_walk p (P.Walk u) w) w.long (λ _ _. 0) (λ _. 0) (drop_in (book_in bs p)) refl s.tables S' P.Bare (Dropped n) d.0 d.1)

    pub closed_not : (S' : Stock) (f : Fault) (e : Code) → ClosesIn compares s.tables s.stock S' u (Err f) → Performs compares (Close p) s (with_places s.tables S' s.places) (Err e)
    unfolding ClosesIn
    closed_not S' f e i =
        passed compares (Close p) s _ fit w.pass (Err e) refl (λ _. refl) (λ n. absurd (false≢true n)) refl
        (λ bs m. absurd (i (book_in bs p) (ready is_walk p (P.Walk u) w bs m)))

  pub audited_done : (b : Bool) → Decides b (GoodForm compares s) → Performs compares Audit s s (Ok (Audited b))
  audited_done b d = record {
    misfit = λ n. absurd (n fit);
    refused = λ _ e q. absurd (none-some e q);
    size = refl;
    reads = λ _. refl;
    asks = λ _. refl;
    audits = λ _ _. (b, refl, d);
    meets = λ _ q bs m. met_same ordered s Audit clear q bs m s refl (λ _ _. 0) (λ _. 0) (Ok (Audited b)) (ap (λ x. outcome (Ok (Audited x)) bs) (sym (d.1 (bs, m))));
  }

pub fit_of : {K V : Type 0} (s : State K V) → Fits (length s.tables.heads) (length s.tables.keys) (length s.tables.values) × (s.size ≡ length s.tables.heads) → Fit s
fit_of s w = record { fits = w.0; size_is = w.1 }
