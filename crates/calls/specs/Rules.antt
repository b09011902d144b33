-- What each call answers, and what it makes of the books.
--   Outcome            the answer, or the code of a refusal, and the books afterwards
--   within n a b o     the outcome o, or the refusal of n nodes where only a may be taken, with the book b as it was
--   .._in              what a call makes of the book in its place
--   Shape              a call asks at a place; acts at a place; acts at two places, on both books; or is of the whole bank. Each has what the
--                      place allows (by its kind), whether the tables stay as they were, and the rule on the book or on both
--   shape c            the shape of a call: what it is, in one line
--   check kinds c      the refusal of a call by its places and what stands there, if it is refused for these
--   rule fresh top a c bs   the outcome of call c where a nodes may be taken; `fresh` has the numbers that it takes, by inserted entry and by
--                      height, and `top` those for new roots, by entry. A call that inserts no more than one entry takes those of entry 0
use Rattle.std.specs.Prelude.{ℕ, ◌+◌, Bool, true, false, cond, List, [], ◌∷◌, length, Some, None, Ok, Err, Option, Result, nat_lt, nat_eq, slice_set}
use Rattle.std.specs.declared.cmp.Ordering.{Ordering}
use Rattle.std.specs.Ordering.{is_gt}
use Rattle.node.specs.declared.ends.Side.{Side}
use Rattle.node.specs.Shape.{Tree, mk, flat}
use Rattle.node.specs.Store.{first, second}
use Rattle.rules.specs.Rules.{insert, need}
use Rattle.map.specs.Lookup.{seek, looks, value_of}
use Rattle.map.specs.Least.{first_same}
use Rattle.map.specs.Replacing.{amend}
use Rattle.parts.specs.Rules.{left_part, right_part, cuts}
use Rattle.walk.specs.Steps.{step}
use Rattle.calls.specs.Asking.{Query, Asked, Insert, Lookup, Least, Count, Cut, Open, Step, Close, Release, Audit}
use Rattle.calls.specs.declared.calls.Answer.{Answer}
use Rattle.calls.specs.declared.calls.Answer.TheVariants.{Inserted, Found, Least as LeastIs, Counted, Parted, Opened, Handed, Dropped, Audited}
use Rattle.books.specs.Books.{Book, bare, planted, walked, idle, entries, book_in}
use Rattle.books.specs.Kinds.{Kind, kind_of, is_map, is_walk, is_bare, any_kind}
use Rattle.calls.specs.Refusals.{Code}

-- ---- the checks of places

-- where a place is one of the sixteen, and its kind allows the call
abbrev pub no_place : Option Code
no_place = Some (3, [])

abbrev pub wrong_kind : Option Code
wrong_kind = Some (4, [])

abbrev pub check_one : (ℕ → Kind) → (Kind → Bool) → ℕ → Option Code
check_one kinds allowed p = cond (nat_lt p 16) (cond (allowed (kinds p)) None wrong_kind) no_place

-- two places, of which each allows the call; they are not the same
abbrev pub check_two : (ℕ → Kind) → (Kind → Bool) → (Kind → Bool) → ℕ → ℕ → Option Code
check_two kinds f g p o =
    cond (nat_lt p 16)
    (cond (nat_lt o 16)
    (cond (f (kinds p)) (cond (g (kinds o)) (cond (nat_eq p o) wrong_kind None) wrong_kind) wrong_kind)
    no_place)
    no_place

-- ---- the rules

pub record Outcome (K V : Type 0) : Type 0 where
  pub answer : Result (Answer K V) Code
  pub books : List (Book (K × V))

abbrev pub outcome : {K V : Type 0} → Result (Answer K V) Code → List (Book (K × V)) → Outcome K V
outcome r bs = record { answer = r; books = bs }

-- an answer, and what becomes of the book in the place
abbrev pub Part : Type 0 → Type 0 → Type 0
Part K V = Result (Answer K V) Code × Book (K × V)

abbrev pub placed : {K V : Type 0} → ℕ → List (Book (K × V)) → Part K V → Outcome K V
placed p bs o = outcome o.0 (slice_set bs p o.1)

abbrev pub within : {X Y : Type 0} → ℕ → ℕ → Y → Result X Code × Y → Result X Code × Y
within n a b o = cond (nat_lt a n) (Err (6, n ∷ a ∷ []), b) o

abbrev pub tree_book : {E : Type 0} → ℕ × Tree E → Book E
tree_book p = planted p.0 p.1

module _ {K V : Type 0} (compares : K → K → Ordering) where
  -- how the key of an entry stands to others
  abbrev pub beside_key : K × V → K × V → Ordering
  beside_key e y = compares (first e) (first y)

  abbrev pub put_in : (ℕ → ℕ) → ℕ → ℕ → K × V → ℕ → Tree (K × V) → Option (K × V) → Part K V
  put_in fresh top a e h t (Some x) = (Ok (Inserted (Some (second x))), planted h (amend (λ y. (first y, second e)) (beside_key e) h t))
  put_in fresh top a e h t None =
      within (need (λ y. is_gt (beside_key e y)) h t) a (planted h t)
      (Ok (Inserted None), tree_book (insert fresh top (λ y. is_gt (beside_key e y)) e h t))

  abbrev pub insert_in : (ℕ → ℕ) → ℕ → ℕ → K × V → Book (K × V) → Part K V
  insert_in fresh top a e bare = within 1 a bare (Ok (Inserted None), planted 0 (mk top (e ∷ []) []))
  insert_in fresh top a e (planted h t) = put_in fresh top a e h t (seek (beside_key e) h t)
  insert_in fresh top a e (walked h t) = (Err (4, []), walked h t)
  insert_in fresh top a e idle = (Err (4, []), idle)

abbrev pub lookup_in : {K V : Type 0} → Query K → Book (K × V) → Result (Answer K V) Code
lookup_in place bare = Ok (Found None 0)
lookup_in place (planted h t) = Ok (Found (value_of (seek (λ e. place (first e)) h t)) (looks (λ e. place (first e)) h t))
lookup_in place (walked h t) = Err (4, [])
lookup_in place idle = Err (4, [])

-- the first entry of the list that is the same as the query
abbrev pub least_in : {K V : Type 0} → Query K → Book (K × V) → Result (Answer K V) Code
least_in place bare = Ok (LeastIs None)
least_in place (planted h t) = Ok (LeastIs (first_same (λ e. place (first e)) (flat h t)))
least_in place (walked h t) = Err (4, [])
least_in place idle = Err (4, [])

abbrev pub count_in : {K V : Type 0} → Book (K × V) → Result (Answer K V) Code
count_in b = Ok (Counted (length (entries b)))

-- an answer, and what becomes of the books in two places
abbrev pub Parts : Type 0 → Type 0 → Type 0
Parts K V = Result (Answer K V) Code × (Book (K × V) × Book (K × V))

abbrev pub part_tree : {K V : Type 0} → (ℕ → ℕ) → ℕ → Query K → ℕ → Tree (K × V) → List (K × V) → Parts K V
part_tree fresh a place h t [] = (Ok (Parted 0 0 0), (planted h t, bare))
part_tree fresh a place h t (e ∷ es) =
    let l : ℕ × Tree _ = left_part (λ y. is_gt (place (first y))) h t in
    let r : ℕ × Tree _ = right_part fresh (λ y. is_gt (place (first y))) h t in
    within (h + 1) a (planted h t, bare)
    (Ok (Parted (length (flat l.0 l.1)) (length (flat r.0 r.1)) (cuts (λ y. place (first y)) h t)), (tree_book l, tree_book r))

abbrev pub cut_in : {K V : Type 0} → (ℕ → ℕ) → ℕ → Query K → Book (K × V) → Parts K V
cut_in fresh a place bare = (Ok (Parted 0 0 0), (bare, bare))
cut_in fresh a place (planted h t) = part_tree fresh a place h t (flat h t)
cut_in fresh a place (walked h t) = (Err (4, []), (walked h t, bare))
cut_in fresh a place idle = (Err (4, []), (idle, bare))

abbrev pub parted : {K V : Type 0} → ℕ → ℕ → List (Book (K × V)) → Parts K V → Outcome K V
parted p o bs q = outcome q.0 (slice_set (slice_set bs p (q.1).0) o (q.1).1)

abbrev pub open_in : {K V : Type 0} → Book (K × V) → Part K V
open_in bare = (Ok Opened, idle)
open_in (planted h t) = (Ok Opened, walked h t)
open_in (walked h t) = (Err (4, []), walked h t)
open_in idle = (Err (4, []), idle)

abbrev pub handed_in : {K V : Type 0} → ℕ → Tree (K × V) → Option ((K × V) × Tree (K × V)) → Part K V
handed_in h t None = (Ok (Handed None), walked h t)
handed_in h t (Some p) = (Ok (Handed (Some p.0)), walked h p.1)

abbrev pub step_in : {K V : Type 0} → Side → Book (K × V) → Part K V
step_in s bare = (Err (4, []), bare)
step_in s (planted h t) = (Err (4, []), planted h t)
step_in s (walked h t) = handed_in h t (step s h t)
step_in s idle = (Ok (Handed None), idle)

-- closing and release
abbrev pub drop_in : {K V : Type 0} → Book (K × V) → Part K V
drop_in b = (Ok (Dropped (length (entries b))), bare)

-- ---- the shape of a call

-- what a rule may read: the order of the keys, the numbers that the call takes, and how many may be taken
abbrev pub Given : Type 0 → Type 0 → Type 0
Given K X = (K → K → Ordering) → (ℕ → ℕ → ℕ) → (ℕ → ℕ) → ℕ → X

pub data Shape (K V : Type 0) : Type 0 where
  asks_at : ℕ → (Kind → Bool) → (Book (K × V) → Result (Answer K V) Code) → Shape K V
  acts_at : ℕ → (Kind → Bool) → Bool → Given K (Book (K × V) → Part K V) → Shape K V
  acts_at_both : ℕ → ℕ → (Kind → Bool) → (Kind → Bool) → Bool → Given K (Book (K × V) → Book (K × V) → Parts K V) → Shape K V
  of_bank : Answer K V → Shape K V

abbrev pub keeps_tables : Bool
keeps_tables = true

abbrev pub writes_tables : Bool
writes_tables = false

abbrev pub shape : {K V : Type 0} → Asked K V → Shape K V
shape (Insert p k v) = acts_at p is_map writes_tables (λ compares fresh top a. insert_in compares (fresh 0) (top 0) a (k, v))
shape (Lookup p place) = asks_at p is_map (lookup_in place)
shape (Least p place) = asks_at p is_map (least_in place)
shape (Count p) = asks_at p any_kind count_in
shape (Cut p o place) = acts_at_both p o is_map is_bare writes_tables (λ compares fresh top a b d. cut_in (fresh 0) a place b)
shape (Open p) = acts_at p is_map keeps_tables (λ compares fresh top a. open_in)
shape (Step p s) = acts_at p is_walk keeps_tables (λ compares fresh top a. step_in s)
shape (Close p) = acts_at p is_walk keeps_tables (λ compares fresh top a. drop_in)
shape (Release p) = acts_at p is_map keeps_tables (λ compares fresh top a. drop_in)
shape Audit = of_bank (Audited true)

abbrev pub check_shape : {K V : Type 0} → (ℕ → Kind) → Shape K V → Option Code
check_shape kinds (asks_at p f r) = check_one kinds f p
check_shape kinds (acts_at p f w r) = check_one kinds f p
check_shape kinds (acts_at_both p o f g w r) = check_two kinds f g p o
check_shape kinds (of_bank x) = None

abbrev pub check : {K V : Type 0} → (ℕ → Kind) → Asked K V → Option Code
check kinds c = check_shape kinds (shape c)

module _ {K V : Type 0} (compares : K → K → Ordering) (fresh : ℕ → ℕ → ℕ) (top : ℕ → ℕ) (a : ℕ) where
  abbrev pub act_by : Shape K V → List (Book (K × V)) → Outcome K V
  act_by (asks_at p f r) bs = outcome (r (book_in bs p)) bs
  act_by (acts_at p f w r) bs = placed p bs (r compares fresh top a (book_in bs p))
  act_by (acts_at_both p o f g w r) bs = parted p o bs (r compares fresh top a (book_in bs p) (book_in bs o))
  act_by (of_bank x) bs = outcome (Ok x) bs

  abbrev pub act : Asked K V → List (Book (K × V)) → Outcome K V
  act c bs = act_by (shape c) bs

  abbrev pub checked : Asked K V → List (Book (K × V)) → Option Code → Outcome K V
  checked c bs (Some e) = outcome (Err e) bs
  checked c bs None = act c bs

  abbrev pub rule : Asked K V → List (Book (K × V)) → Outcome K V
  rule c bs = checked c bs (check (λ p. kind_of (book_in bs p)) c)
