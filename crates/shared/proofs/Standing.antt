-- Two callers by turns: what the one does leaves the other's bank as it means it. Assumes nothing.
use Rattle.std.proofs.Common.{◌≡◌, ℕ, zero, suc, ◌*◌, ◌<◌, ◌≤◌, Bool, true, false, cond, inl, inr, List, [], ◌∷◌, ◌++◌, length, replicate, slice_index_or, Some, None, Ok, Err, Option, Result, nat_eq, refl, sym, ap, ◌∙◌, subst, arith, ⊎_elim, ◌⊎◌}
use Rattle.std.proofs.lemmas.Bool.{cases_eq, cases_lt}
use Rattle.std.proofs.lemmas.Bool.Decides.{nat_tests}
use Rattle.std.proofs.lemmas.List.{append-nil}
use Rattle.std.specs.declared.cmp.Ordering.{Ordering}
use Rattle.order.specs.Laws.{Ordered}
use Rattle.supply.specs.Stocks.{Stock, size_of, outs_of, is_out, marked}
use Rattle.node.specs.Balance.{mark}
use Rattle.node.specs.Shape.{number}
use Rattle.node.specs.Store.{Tables, SameBody, SameLink}
use Rattle.node.proofs.Balances.{mark_unused}
use Rattle.node.proofs.Frames.{frame}
use Rattle.node.proofs.Numbers.{occurs_root, occurs_below}
use Rattle.walk.proofs.Framing.{shown_frame}
use Rattle.books.specs.declared.places.Place.{Place}
use Rattle.books.specs.Books.{Book, bare, uses, book_in, BookAt, at_bare, at_tree, at_walk, at_idle}
use Rattle.books.specs.Places.{place_in}
use Rattle.calls.specs.Refusals.{Code}
use Rattle.calls.specs.Runs.{Event}
use Rattle.books.specs.States.{State, Models}
use Rattle.calls.proofs.Running.{next_stands, sound_low}
use Rattle.bank.specs.Calls.{Fit}
use Rattle.bank.specs.Gate.{Fits}
use Rattle.bank.specs.Layout.{FitsAlone, UnusedSupply, Unused}
use Rattle.bank.proofs.Keepings.{all_sound, uses_one}
use Rattle.bank.proofs.Listing.{fits_on}
use Rattle.shared.specs.SharedStates.{SharedState, of_caller, view, other, Unbegun}
use Rattle.shared.specs.SharedRuns.{SharedRuns}
use Rattle.shared.specs.Moves.{Moved, turned, laid, called, more, past_of, Begun, LaidFirst, turned_to, laid_for, TurnsTo, LaidOut, Called, MakesAll, EvenSince, Stands, BothStand, MovesStand}

-- ---- tables that agree on the nodes of a book hold it

module _ {K V : Type 0} (compares : K → K → Ordering) (T T' : Tables K V) (len : length T'.heads ≡ length T.heads) where
  pub book_same : (p : Place) (b : Book (K × V)) → ((x : ℕ) → 0 < uses x b → SameBody T T' x × SameLink T T' x) → BookAt compares T p b → BookAt compares T' p b
  book_same p b o at_bare = at_bare
  book_same p b o (at_tree h t a) = at_tree _ _ (record {
    root_is = a.root_is;
    holds = frame T T' h t len (λ x p. (o x p).0) (λ x p. (o x (omega (arith, occurs_below x h t))).1) a.holds;
    formed = a.formed;
    rooted = ((o (number t) (occurs_root h t)).1).parent_same ∙ a.rooted;
    count_is = a.count_is;
    in_order = a.in_order;
  })
  book_same p b o (at_walk h t a) = at_walk _ _ (record {
    low = a.low;
    shown = shown_frame T T' _ _ h t len (λ x p. (o x p).0) (λ x p. (o x (omega (arith, occurs_below x h t))).1) a.shown;
    rooted = ((o (number t) (occurs_root h t)).1).parent_same ∙ a.rooted;
    count_is = a.count_is;
    in_order = a.in_order;
  })
  book_same p b o (at_idle a) = at_idle a

-- a number that is marked is out
mark_some : (S : Stock) (x : ℕ) → 0 < mark S x → is_out S x ≡ true
mark_some S x l = go (is_out S x) refl
  where
    go : (b : Bool) → is_out S x ≡ b → b ≡ true
    go true e = refl
    go false e = absurd (omega (arith, mark_unused S x e))

module _ {K V : Type 0} {compares : K → K → Ordering} where
  -- a bank stays as another caller means it, in tables that agree on what it has
  pub stays : (s s' : State K V) (bs : List (Book (K × V))) → Models compares s bs → s'.size ≡ s.size → length s'.tables.heads ≡ length s.tables.heads → length s'.tables.keys ≡ length s.tables.keys
      → length s'.tables.values ≡ length s.tables.values → s'.places ≡ s.places → s'.stock.marks ≡ s.stock.marks
      → ((x : ℕ) → is_out s.stock x ≡ true → SameBody s.tables s'.tables x × SameLink s.tables s'.tables x) → Models compares s' bs
  stays s s' bs m z h k v p q o = record {
    sized = record { most = omega (arith, h, m.sized.most); keys_room = omega (arith, h, k, m.sized.keys_room); values_room = omega (arith, h, v, m.sized.values_room) };
    size_is = z ∙ m.size_is ∙ sym h;
    fits = λ l. ap length q ∙ m.fits (omega (arith, z)) ∙ sym z;
    sixteen = m.sixteen;
    held = λ i l.
        subst (λ ps. BookAt compares s'.tables (place_in ps i) (book_in bs i)) (sym p)
        (book_same compares s.tables s'.tables h (place_in s.places i) (book_in bs i)
        (λ x u. o x (mark_some s.stock x (omega (arith, u, uses_one bs i x (subst (λ n. i < n) (sym m.sixteen) l), m.numbers x)))) (m.held i l));
    numbers = λ x. m.numbers x ∙ ap (λ ms. cond (slice_index_or ms x false) 1 0) (sym q);
  }

pub one_or_other : (n b : ℕ) → n < 2 → b < 2 → (n ≡ b) ⊎ (n ≡ other b)
one_or_other zero zero l k = inl refl
one_or_other zero (suc zero) l k = inr refl
one_or_other zero (suc (suc b)) l k = absurd (omega arith)
one_or_other (suc zero) zero l k = inr refl
one_or_other (suc zero) (suc zero) l k = inl refl
one_or_other (suc zero) (suc (suc b)) l k = absurd (omega arith)
one_or_other (suc (suc n)) b l k = absurd (omega arith)

pub other_differs : (b : ℕ) → nat_eq (other b) b ≡ false
other_differs b = grind (arith, nat_tests)

pub same_number : (b : ℕ) → nat_eq b b ≡ true
same_number b = grind (arith, nat_tests)

-- ---- tables fit or not, and a supply is unused or not

fits_either : (n k v : ℕ) → Fits n k v ⊎ (Fits n k v → ⊥)
fits_either n k v =
    ⊎_elim
    (λ (a : (0 < n) × ((n ≤ 4096) × ((k ≡ 11 * n) × (v ≡ 11 * n)))). inl (record { some = a.0; most = (a.1).0; keys_room = ((a.1).1).0; values_room = ((a.1).1).1 }))
    (λ (a : (0 < n) × ((n ≤ 4096) × ((k ≡ 11 * n) × (v ≡ 11 * n))) → ⊥). inr (λ w. a (w.some, (w.most, (w.keys_room, w.values_room)))))
    (both (0 < n) _ (less 0 n) (both (n ≤ 4096) _ (fewer n 4096) (both (k ≡ 11 * n) _ (cases_eq k (11 * n)) (cases_eq v (11 * n)))))
  where
    less : (a b : ℕ) → (a < b) ⊎ (a < b → ⊥)
    less a i = ⊎_elim (λ (l : a < i). inl l) (λ (l : i ≤ a). inr (λ m. omega arith)) (cases_lt a i)

    fewer : (a b : ℕ) → (a ≤ b) ⊎ (a ≤ b → ⊥)
    fewer a i = ⊎_elim (λ (l : i < a). inr (λ m. omega arith)) (λ (l : a ≤ i). inl l) (cases_lt i a)

    both : (P Q : Type 0) → P ⊎ (P → ⊥) → Q ⊎ (Q → ⊥) → (P × Q) ⊎ (P × Q → ⊥)
    both P Q (inl p) (inl q) = inl (p, q)
    both P Q (inl p) (inr q) = inr (λ w. q w.1)
    both P Q (inr p) q = inr (λ w. p w.0)

fit_either : {K V : Type 0} (s : State K V) → Fit s ⊎ (Fit s → ⊥)
fit_either s =
    ⊎_elim
    (λ (a : Fits (length s.tables.heads) (length s.tables.keys) (length s.tables.values)).
    ⊎_elim (λ (b : s.size ≡ length s.tables.heads). inl (record { fits = a; size_is = b })) (λ (b : s.size ≡ length s.tables.heads → ⊥). inr (λ w. b w.size_is)) (cases_eq s.size (length s.tables.heads)))
    (λ (a : Fits (length s.tables.heads) (length s.tables.keys) (length s.tables.values) → ⊥). inr (λ w. a w.fits))
    (fits_either (length s.tables.heads) (length s.tables.keys) (length s.tables.values))

unused_either : (n : ℕ) (S : Stock) → Unused n S ⊎ (Unused n S → ⊥)
unused_either n S =
    ⊎_elim
    (λ (a : size_of S ≡ n). ⊎_elim (λ (b : outs_of S ≡ 0). inl (record { size = a; none = b })) (λ (b : outs_of S ≡ 0 → ⊥). inr (λ w. b w.none)) (cases_eq (outs_of S) 0))
    (λ (a : size_of S ≡ n → ⊥). inr (λ w. a w.size))
    (cases_eq (size_of S) n)

-- a node is as it is
same_itself : {K V : Type 0} (T : Tables K V) (x : ℕ) → SameBody T T x × SameLink T T x
same_itself T x = (record { len_same = refl; edges_same = refl; keys_same = refl; values_same = refl }, record { parent_same = refl; place_same = refl })

module _ {K V : Type 0} {compares : K → K → Ordering} (ordered : Ordered compares) where
  fit_same : (s s' : State K V) → Fit s → s'.size ≡ s.size → length s'.tables.heads ≡ length s.tables.heads → length s'.tables.keys ≡ length s.tables.keys → length s'.tables.values ≡ length s.tables.values → Fit s'
  fit_same s s' f z h k v = record {
    fits = record { some = omega (arith, h, f.fits.some); most = omega (arith, h, f.fits.most); keys_room = omega (arith, h, k, f.fits.keys_room); values_room = omega (arith, h, v, f.fits.values_room) };
    size_is = z ∙ f.size_is ∙ sym h;
  }

  -- what a move of the one leaves of the other
  left_alone : (b : ℕ) (d d' : SharedState K V) → (of_caller d' (other b)).places ≡ (of_caller d (other b)).places → (of_caller d' (other b)).stock.marks ≡ (of_caller d (other b)).stock.marks
      → length d'.tables.heads ≡ length d.tables.heads → length d'.tables.keys ≡ length d.tables.keys → length d'.tables.values ≡ length d.tables.values
      → ((x : ℕ) → is_out (of_caller d (other b)).stock x ≡ true → SameBody d.tables d'.tables x × SameLink d.tables d'.tables x)
      → (o : Option (List (Event K V))) → (Begun o → d'.size ≡ d.size) → Stands compares d (other b) o → Stands compares d' (other b) o
  left_alone b d d' p q h k v same None z w = record { none_out = ap (λ ms. marked ms) q ∙ w.none_out; bare = p ∙ w.bare }
  left_alone b d d' p q h k v same (Some past) z w = record {
    books = w.books;
    fit = fit_same (view d (other b)) (view d' (other b)) w.fit (z tt) h k v;
    models = stays (view d (other b)) (view d' (other b)) w.books w.models (z tt) h k v p q same;
    stock = w.stock;
    runs = w.runs;
    resumed = record { marks = q ∙ w.resumed.marks };
    even = w.even;
    low = w.low;
  }

  -- a laying out that was granted
  begun : (b : ℕ) (d d' : SharedState K V) → FitsAlone (view d b) → d' ≡ laid_for b d → Models compares (view d' b) (replicate 16 bare) → EvenSince compares d' b []
  unfolding SharedRuns
  begun b d d' f e m = record {
    books = replicate 16 bare;
    fit = subst (λ x. Fit (view x b)) (sym e) (record { fits = f; size_is = refl });
    models = m;
    stock = (of_caller d' b).stock;
    runs = refl;
    resumed = record { marks = refl };
    even = refl;
    low = sound_low compares (replicate 16 bare) (all_sound compares (view d' b) (replicate 16 bare) m);
  }

  -- a call
  went_on : (b : ℕ) (ev : Event K V) (d d' : SharedState K V) (past : List (Event K V)) → Called compares b ev d d' → EvenSince compares d b past → EvenSince compares d' b (ev ∷ past)
  unfolding SharedRuns
  went_on b ev d d' past c w =
      let t = c.keeps w.books w.fit w.models in
      let s = next_stands compares ordered ev past (of_caller d b).stock (of_caller d' b).stock w.books t.books t.next (w.models.sixteen, all_sound compares (view d b) w.books w.models, w.even) in
      record {
        books = t.books;
        fit = fits_on (view d b) (view d' b) t.books w.fit c.performs.size t.models;
        models = t.models;
        stock = (of_caller d' b).stock;
        runs = (w.stock, (of_caller d b).stock, w.books, w.runs, w.resumed, t.next);
        resumed = record { marks = refl };
        even = s.2;
        low = t.low;
      }

  -- a turn changes what stands for nobody
  turned_stands : (m n : ℕ) (d : SharedState K V) (o : Option (List (Event K V))) → Stands compares d n o → Stands compares (turned_to m d) n o
  turned_stands m n d None v = record { none_out = v.none_out; bare = v.bare }
  turned_stands m n d (Some past) v = record { books = v.books; fit = v.fit; models = v.models; stock = v.stock; runs = v.runs; resumed = v.resumed; even = v.even; low = v.low }

  turn_stands : (m : ℕ) (r : Result (Unit {0}) Code) (ms : List (Moved K V)) (d d' : SharedState K V) → TurnsTo m d d' r → BothStand compares d ms → BothStand compares d' (turned m r ∷ ms)
  turn_stands m r ms d d' t w n l =
      ⊎_elim
      (λ (k : m < 2).
      ⊎_elim
      (λ (f : Fit (view d d.served)). subst (λ e. Stands compares e n (past_of n ms)) (sym (t.granted k f).1) (turned_stands m n d (past_of n ms) (w n l)))
      (λ (f : Fit (view d d.served) → ⊥). subst (λ e. Stands compares e n (past_of n ms)) (sym (t.misfit k f).1) (w n l))
      (fit_either (view d d.served)))
      (λ (k : 2 ≤ m). subst (λ e. Stands compares e n (past_of n ms)) (sym (t.no_caller (omega arith)).1) (w n l))
      (cases_lt m 2)

  -- a laying out that was refused has changed nothing
  unlaid_stands : (b : ℕ) (r : Result (Unit {0}) Code) (e : Code) (ms : List (Moved K V)) (d d' : SharedState K V) → r ≡ Err e → d' ≡ d → BothStand compares d ms → BothStand compares d' (laid b r ∷ ms)
  unlaid_stands b r e ms d d' q z w n l = subst (λ x. Stands compares d' n (past_of n (laid b x ∷ ms))) (sym q) (subst (λ x. Stands compares x n (past_of n ms)) (sym z) (w n l))

  other_laid : (b : ℕ) (d : SharedState K V) → b < 2 → of_caller (laid_for b d) (other b) ≡ of_caller d (other b)
  other_laid zero d l = refl
  other_laid (suc zero) d l = refl
  other_laid (suc (suc b)) d l = absurd (omega arith)

  laid_stands : (b : ℕ) (r : Result (Unit {0}) Code) (ms : List (Moved K V)) (d d' : SharedState K V) → b < 2 → FitsAlone (view d b) → r ≡ Ok tt → d' ≡ laid_for b d
      → Models compares (view d' b) (replicate 16 bare) → BothStand compares d ms → BothStand compares d' (laid b r ∷ ms)
  laid_stands b r ms d d' k f q z m w n l = subst (λ x. Stands compares d' n (past_of n (laid b x ∷ ms))) (sym q) (go (one_or_other n b l k))
    where
      tables_same : d'.tables ≡ d.tables
      tables_same = ap (λ s. s.tables) z

      size_same : (o : Option (List (Event K V))) → Stands compares d (other b) o → Begun o → d'.size ≡ d.size
      size_same None v z = absurd z
      size_same (Some past) v y = ap (λ s. s.size) z ∙ sym v.fit.size_is

      there : of_caller d' (other b) ≡ of_caller d (other b)
      there = ap (λ x. of_caller x (other b)) z ∙ other_laid b d k

      go : (n ≡ b) ⊎ (n ≡ other b) → Stands compares d' n (cond (nat_eq n b) (Some []) (past_of n ms))
      go (inl e) = subst (λ m. Stands compares d' m (cond (nat_eq m b) (Some []) (past_of m ms))) (sym e) (subst (λ z. Stands compares d' b (cond z (Some []) (past_of b ms))) (sym (same_number b)) (begun b d d' f z m))
      go (inr e) =
          let v = subst (λ m. Stands compares d m (past_of m ms)) e (w n l) in
          subst (λ m. Stands compares d' m (cond (nat_eq m b) (Some []) (past_of m ms))) (sym e)
          (subst (λ z. Stands compares d' (other b) (cond z (Some []) (past_of (other b) ms))) (sym (other_differs b))
          (left_alone b d d' (ap (λ x. x.places) there) (ap (λ x. x.stock.marks) there) (ap (λ T. length T.heads) tables_same) (ap (λ T. length T.keys) tables_same) (ap (λ T. length T.values) tables_same)
          (λ x q. subst (λ T. SameBody d.tables T x × SameLink d.tables T x) (sym tables_same) (same_itself d.tables x))
          (past_of (other b) ms) (size_same (past_of (other b) ms) v) v))

  lay_stands : (b : ℕ) (r : Result (Unit {0}) Code) (ms : List (Moved K V)) (d d' : SharedState K V) → LaidOut compares b r d d' → BothStand compares d ms → BothStand compares d' (laid b r ∷ ms)
  lay_stands b r ms d d' c w =
      ⊎_elim
      (λ (f : FitsAlone (view d b)).
      ⊎_elim
      (λ (u : UnusedSupply (view d b)). let g = c.granted f u in laid_stands b r ms d d' c.one f g.0 g.1 (c.models f u) w)
      (λ (u : UnusedSupply (view d b) → ⊥). let g = c.taken f u in unlaid_stands b r _ ms d d' g.0 g.1 w)
      (unused_either (length d.tables.heads) (of_caller d b).stock))
      (λ (f : FitsAlone (view d b) → ⊥). let g = c.misfit f in unlaid_stands b r _ ms d d' g.0 g.1 w)
      (fits_either (length d.tables.heads) (length d.tables.keys) (length d.tables.values))

  call_stands : (b : ℕ) (ev : Event K V) (ms : List (Moved K V)) (d d' : SharedState K V) → Called compares b ev d d' → Begun (past_of b ms) → BothStand compares d ms → BothStand compares d' (called b ev ∷ ms)
  call_stands b ev ms d d' c z w n l = go (past_of b ms) refl z (w b c.one) (one_or_other n b l c.one)
    where
      go : (o : Option (List (Event K V))) → past_of b ms ≡ o → Begun o → Stands compares d b o → (n ≡ b) ⊎ (n ≡ other b) → Stands compares d' n (cond (nat_eq n b) (more ev (past_of n ms)) (past_of n ms))
      go None q z v s = absurd z
      go (Some past) q z v (inl e) =
          subst (λ m. Stands compares d' m (cond (nat_eq m b) (more ev (past_of m ms)) (past_of m ms))) (sym e)
          (subst (λ y. Stands compares d' b (cond y (more ev (past_of b ms)) (past_of b ms))) (sym (same_number b))
          (subst (λ o. Stands compares d' b (more ev o)) (sym q) (went_on b ev d d' past c v)))
      go (Some past) q z v (inr e) =
          let t = c.keeps v.books v.fit v.models in
          let a = c.leaves v.books v.fit v.models in
          let f = fits_on (view d b) (view d' b) t.books v.fit c.performs.size t.models in
          let u = subst (λ m. Stands compares d m (past_of m ms)) e (w n l) in
          let h : length d'.tables.heads ≡ length d.tables.heads = sym f.size_is ∙ c.performs.size ∙ v.fit.size_is in
          subst (λ m. Stands compares d' m (cond (nat_eq m b) (more ev (past_of m ms)) (past_of m ms))) (sym e)
          (subst (λ y. Stands compares d' (other b) (cond y (more ev (past_of (other b) ms)) (past_of (other b) ms))) (sym (other_differs b))
          (left_alone b d d' a.places a.marks h (omega (arith, h, f.fits.keys_room, v.fit.fits.keys_room)) (omega (arith, h, f.fits.values_room, v.fit.fits.values_room))
          (λ x o. t.spared x (a.barred x o)) (past_of (other b) ms) (λ _. c.performs.size) u))

  -- where both stand, both stand after more moves
  pub all_stand : (ms before : List (Moved K V)) (d d' : SharedState K V) → BothStand compares d before → MakesAll compares ms d d' → LaidFirst (ms ++ before) → BothStand compares d' (ms ++ before)
  unfolding MakesAll
  all_stand [] before d d' w c o = subst (λ e. BothStand compares e before) (sym c) w
  all_stand (turned m r ∷ ms) before d d' w c o = turn_stands m r (ms ++ before) c.0 d' c.2 (all_stand ms before d c.0 w c.1 o)
  all_stand (laid b r ∷ ms) before d d' w c o = lay_stands b r (ms ++ before) c.0 d' c.2 (all_stand ms before d c.0 w c.1 o)
  all_stand (called b ev ∷ ms) before d d' w c o = call_stands b ev (ms ++ before) c.0 d' c.2 o.0 (all_stand ms before d c.0 w c.1 o.1)

pub moves_stand : {K V : Type 0} → MovesStand K V
moves_stand compares ms d d' ordered f s c o =
    subst (BothStand compares d') (append-nil ms) (all_stand ordered ms [] d d' start c (subst LaidFirst (sym (append-nil ms)) o))
  where
    start : (n : ℕ) → n < 2 → Unbegun (of_caller d n)
    start zero l = f
    start (suc zero) l = s
    start (suc (suc n)) l = absurd (omega arith)
