-- What each call does at one place, where that holds a book.
--   Ready            a place holds a book in tables of the supply's size, and its nodes are out, each once
--   Becomes          another place holds another book, in its stead: what is out has changed by just their nodes, and all other nodes are as they were
--   BothBecome       two places hold two other books, in the same way
--   Acts             the call answers what the rule does, and the place becomes what the rule gives; or it is refused as by the rule, and nothing has changed
--   Asks             the same of a call that changes nothing
--   Counts           a count goes up where no old value is answered
--   InsertsIn, LooksIn, LeastsIn, CutsIn, OpensIn, StepsIn, ClosesIn, ReleasesIn    so it is of each call, by its rule
use Rattle.std.specs.Prelude.{◌≡◌, ℕ, ◌+◌, ◌≤◌, true, length, Some, None, Ok, Err, Option, Result, MatchResult}
use Rattle.std.specs.declared.cmp.Ordering.{Ordering}
use Rattle.supply.specs.declared.faults.Fault.{Fault}
use Rattle.supply.specs.Stocks.{Stock, size_of}
use Rattle.node.specs.declared.ends.Side.{Side}
use Rattle.node.specs.Balance.{mark, Balanced, Beside, Unchanged}
use Rattle.node.specs.Store.{Tables, Sized}
use Rattle.walk.specs.declared.walks.Walk.{Walk}
use Rattle.books.specs.declared.places.Place.{Place}
use Rattle.books.specs.declared.places.Place.TheVariants as P
use Rattle.calls.specs.declared.calls.Answer.{Answer}
use Rattle.calls.specs.declared.calls.Answer.TheVariants.{Inserted, Found, Least as LeastIs, Parted, Opened, Handed, Dropped}
use Rattle.books.specs.Books.{Book, bare, uses, BookAt}
use Rattle.calls.specs.Faults.{fault_code}
use Rattle.calls.specs.Asking.{Query}
use Rattle.books.specs.Kinds.{kind_of, is_map}
use Rattle.calls.specs.Rules.{Part, Parts, insert_in, lookup_in, least_in, cut_in, open_in, step_in, drop_in}

pub record Ready {K V : Type 0} (compares : K → K → Ordering) (T : Tables K V) (S : Stock) (p : Place) (b : Book (K × V)) : Type 0 where
  pub at : BookAt compares T p b
  pub sized : Sized T
  pub fits : size_of S ≡ length T.heads
  pub owned : (x : ℕ) → uses x b ≤ mark S x

pub record Becomes {K V : Type 0} (compares : K → K → Ordering) (T T' : Tables K V) (S S' : Stock) (b : Book (K × V)) (p' : Place) (b' : Book (K × V)) : Type 0 where
  pub at : BookAt compares T' p' b'
  pub beside : Beside T T' S (λ x. uses x b)
  pub balanced : Balanced S S' (λ x. uses x b) (λ x. uses x b')

pub record BothBecome {K V : Type 0} (compares : K → K → Ordering) (T T' : Tables K V) (S S' : Stock) (b d : Book (K × V)) (p' q' : Place) (b' d' : Book (K × V)) : Type 0 where
  pub at : BookAt compares T' p' b'
  pub other : BookAt compares T' q' d'
  pub beside : Beside T T' S (λ x. uses x b + uses x d)
  pub balanced : Balanced S S' (λ x. uses x b + uses x d) (λ x. uses x b' + uses x d')

abbrev pub Acts : {K V X : Type 0} → (K → K → Ordering) → Tables K V → Tables K V → Stock → Stock → Book (K × V) → (X → Answer K V) → Part K V → Result (Place × X) Fault → Type 0
Acts compares T T' S S' b to o r =
    MatchResult r (λ y. (o.0 ≡ Ok (to y.1)) × Becomes compares T T' S S' b y.0 o.1) (λ f. (o ≡ (Err (fault_code f), b)) × Unchanged T T' S S')

-- tables of 4096 nodes have 45056 cells
abbrev pub Counts : {V : Type 0} → ℕ → Option V → ℕ → Type 0
Counts count (Some v) n = n ≡ count
Counts count None n = count ≤ 45056 → n ≡ count + 1

-- fresh, top: the numbers taken
pub record InsertsBy {K V : Type 0} (compares : K → K → Ordering) (T T' : Tables K V) (S S' : Stock) (e : K × V) (b : Book (K × V)) (r : Result (Place × Option V) Fault) : Type 0 where
  pub fresh : ℕ → ℕ
  pub top : ℕ
  pub acts : Acts compares T T' S S' b Inserted (insert_in compares fresh top S.allowance e b) r

unfoldable pub InsertsIn : {K V : Type 0} → (K → K → Ordering) → Tables K V → Tables K V → Stock → Stock → Place → (K × V) → Result (Place × Option V) Fault → Type 0
InsertsIn {K} {V} compares T T' S S' p e r = (b : Book (K × V)) → Ready compares T S p b → is_map (kind_of b) ≡ true → InsertsBy compares T T' S S' e b r

abbrev pub found : {K V : Type 0} → Option V × ℕ → Answer K V
found y = Found y.0 y.1

unfoldable pub LooksIn : {K V : Type 0} → (K → K → Ordering) → Tables K V → Place → Query K → Result (Option V × ℕ) Fault → Type 0
LooksIn {K} {V} compares T p place r =
    (S : Stock) (b : Book (K × V)) → Ready compares T S p b → is_map (kind_of b) ≡ true → MatchResult r (λ y. lookup_in place b ≡ Ok (found {K = K} y)) (λ _. ⊥)

unfoldable pub LeastsIn : {K V : Type 0} → (K → K → Ordering) → Tables K V → Place → Query K → Result (Option (K × V)) Fault → Type 0
LeastsIn {K} {V} compares T p place r =
    (S : Stock) (b : Book (K × V)) → Ready compares T S p b → is_map (kind_of b) ≡ true → MatchResult r (λ x. least_in place b ≡ Ok (LeastIs x)) (λ _. ⊥)

abbrev pub counts : {K V : Type 0} → ℕ × ℕ × ℕ → Answer K V
counts n = Parted n.0 n.1 n.2

pub record CutsBy {K V : Type 0} (compares : K → K → Ordering) (T T' : Tables K V) (S S' : Stock) (place : Query K) (b : Book (K × V)) (r : Result (Place × Place × (ℕ × ℕ × ℕ)) Fault) : Type 0 where
  pub fresh : ℕ → ℕ
  pub acts : let o : Parts K V = cut_in fresh S.allowance place b in
      MatchResult r (λ y. (o.0 ≡ Ok (counts y.2)) × BothBecome compares T T' S S' b bare y.0 y.1 (o.1).0 (o.1).1) (λ f. (o ≡ (Err (fault_code f), (b, bare))) × Unchanged T T' S S')

unfoldable pub CutsIn : {K V : Type 0} → (K → K → Ordering) → Tables K V → Tables K V → Stock → Stock → Place → Query K → Result (Place × Place × (ℕ × ℕ × ℕ)) Fault → Type 0
CutsIn {K} {V} compares T T' S S' p place r = (b : Book (K × V)) → Ready compares T S p b → is_map (kind_of b) ≡ true → CutsBy compares T T' S S' place b r

unfoldable pub OpensIn : {K V : Type 0} → (K → K → Ordering) → Tables K V → Stock → Place → Result Place Fault → Type 0
OpensIn {K} {V} compares T S p r =
    (b : Book (K × V)) → Ready compares T S p b → is_map (kind_of b) ≡ true
    → MatchResult r (λ p'. ((open_in b).0 ≡ Ok Opened) × Becomes compares T T S S b p' (open_in b).1) (λ _. ⊥)

unfoldable pub StepsIn : {K V : Type 0} → (K → K → Ordering) → Tables K V → Stock → Stock → Walk → Side → Result (Place × Option (K × V)) Fault → Type 0
StepsIn {K} {V} compares T S S' w s r = (b : Book (K × V)) → Ready compares T S (P.Walk w) b → Acts compares T T S S' b Handed (step_in s b) r

-- the place is bare afterwards
abbrev pub Drops : {K V : Type 0} → (K → K → Ordering) → Tables K V → Stock → Stock → Book (K × V) → Result ℕ Fault → Type 0
Drops compares T S S' b r = MatchResult r (λ n. ((drop_in b).0 ≡ Ok (Dropped n)) × Becomes compares T T S S' b P.Bare bare) (λ _. ⊥)

unfoldable pub ClosesIn : {K V : Type 0} → (K → K → Ordering) → Tables K V → Stock → Stock → Walk → Result ℕ Fault → Type 0
ClosesIn {K} {V} compares T S S' w r = (b : Book (K × V)) → Ready compares T S (P.Walk w) b → Drops compares T S S' b r

unfoldable pub ReleasesIn : {K V : Type 0} → (K → K → Ordering) → Tables K V → Stock → Stock → Place → Result ℕ Fault → Type 0
ReleasesIn {K} {V} compares T S S' p r = (b : Book (K × V)) → Ready compares T S p b → is_map (kind_of b) ≡ true → Drops compares T S S' b r
