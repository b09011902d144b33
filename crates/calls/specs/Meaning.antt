-- What the rules mean for the lists of the books, in the words of an ordered map.
--   Sound b          a tree is formed, a walk has one child more than entries in each node above the leaves, and the keys of the list rise
--   Agrees place     a query goes with the order of the keys
--   AtOne place      and it stands at one place
--   Agreeing c       the query of a call, if it has one, goes with the order
--   Pointing c       that of a lookup stands at one place too
--   height_in b      the height of its tree
--   Gains e l l'     the list l gains the entry e in its place, and nothing else
--   same_as place l  the entries of the list l that are the same as the query
--   AnswerMeans      what an answer means for the lists of a call's places before and after, one definition for each call
--   Answered         that, of the books in these places
--   Untouched        the places that a call leaves alone
--   Means            that, and that a refusal changes nothing and that no other book is changed
use Rattle.std.specs.Prelude.{◌≡◌, ℕ, ◌+◌, ◌*◌, ◌<◌, ◌≤◌, true, false, List, [], ◌∷◌, ◌++◌, length, Some, None, Ok, Err, All, Option, Result, ◌≢◌, ◌⊎◌}
use Rattle.std.specs.declared.cmp.Ordering.{Ordering}
use Rattle.std.specs.declared.cmp.Ordering.TheVariants.{Less, Equal, Greater}
use Rattle.std.specs.List.{filter}
use Rattle.std.specs.Ordering.{is_gt, is_le, is_eq}
use Rattle.node.specs.declared.ends.Side.{Side}
use Rattle.node.specs.Shape.{flat, Formed}
use Rattle.node.specs.Store.{first, second}
use Rattle.map.specs.Lookup.{Sought, value_of, InOrder}
use Rattle.map.specs.Least.{LeastIn}
use Rattle.map.specs.Replacing.{Altered}
use Rattle.walk.specs.Steps.{cons, Fanned}
use Rattle.calls.specs.declared.calls.Answer.{Answer}
use Rattle.calls.specs.declared.calls.Answer.TheVariants.{Inserted, Found, Least as LeastIs, Counted, Parted, Opened, Handed, Dropped, Audited}
use Rattle.books.specs.Books.{Book, bare, planted, walked, idle, entries, book_in}
use Rattle.calls.specs.Refusals.{Code}
use Rattle.calls.specs.Asking.{Query, Asked, Insert, Lookup, Least, Count, Cut, Open, Step, Close, Release, Audit}
use Rattle.books.specs.Kinds.{kind_of, is_map, is_walk}
use Rattle.calls.specs.Rules.{Shape, asks_at, acts_at, acts_at_both, of_bank, shape, check}

abbrev pub Sound : {K V : Type 0} → (K → K → Ordering) → Book (K × V) → Type 0
Sound compares bare = Unit {0}
Sound compares (planted h t) = Formed h t × InOrder compares (flat h t)
Sound compares (walked h t) = Fanned h t × InOrder compares (flat h t)
Sound compares idle = Unit {0}

-- going up from a to b, a query that was below stays below; going down from b to a, one that was above stays above
pub record Agrees {K : Type 0} (compares : K → K → Ordering) (place : Query K) : Type 0 where
  pub under : (a b : K) → is_le (compares a b) ≡ true → place a ≡ Less → place b ≡ Less
  pub over : (a b : K) → is_le (compares a b) ≡ true → place b ≡ Greater → place a ≡ Greater

-- and no two keys that differ in order are the same as it
pub record AtOne {K : Type 0} (compares : K → K → Ordering) (place : Query K) : Type 0 where
  pub agrees : Agrees compares place
  pub single : (a b : K) → place a ≡ Equal → place b ≡ Equal → compares a b ≡ Equal

abbrev pub Agreeing : {K V : Type 0} → (K → K → Ordering) → Asked K V → Type 0
Agreeing compares (Insert p k v) = Unit {0}
Agreeing compares (Lookup p place) = Agrees compares place
Agreeing compares (Least p place) = Agrees compares place
Agreeing compares (Count p) = Unit {0}
Agreeing compares (Cut p o place) = Agrees compares place
Agreeing compares (Open p) = Unit {0}
Agreeing compares (Step p s) = Unit {0}
Agreeing compares (Close p) = Unit {0}
Agreeing compares (Release p) = Unit {0}
Agreeing compares Audit = Unit {0}

abbrev pub Pointing : {K V : Type 0} → (K → K → Ordering) → Asked K V → Type 0
Pointing compares (Lookup p place) = AtOne compares place
Pointing compares c = Unit {0}

abbrev pub height_in : {E : Type 0} → Book E → ℕ
height_in bare = 0
height_in (planted h t) = h
height_in (walked h t) = h
height_in idle = 0

pub record Gains {E : Type 0} (e : E) (l l' : List E) : Type 0 where
  pub ante : List E
  pub post : List E
  pub was : l ≡ ante ++ post
  pub now_is : l' ≡ ante ++ e ∷ post

abbrev pub same_as : {K V : Type 0} → Query K → List (K × V) → List (K × V)
same_as place l = filter (λ y. is_eq (place (first y))) l

module _ {K V : Type 0} (compares : K → K → Ordering) (a : ℕ) (b b' : Book (K × V)) (r : Result (Answer K V) Code) where
  -- an entry of no key that is there, or another value under the key that is. Refused only where the key is not there and too few numbers may be taken
  pub record InsertMeans (e : K × V) : Type 0 where
    pub answers : ((o : Option V) × (r ≡ Ok (Inserted o)))
        ⊎ ((n : ℕ) × (r ≡ Err (6, n ∷ a ∷ [])) × (a < n) × (n ≤ height_in b + 2) × All (λ y. compares (first e) (first y) ≢ Equal) (entries b))
    pub kind : is_map (kind_of b') ≡ true
    pub new : r ≡ Ok (Inserted None) → All (λ y. compares (first e) (first y) ≢ Equal) (entries b) × Gains e (entries b) (entries b')
    pub old : (v : V) → r ≡ Ok (Inserted (Some v))
        → (x : K × V) × (compares (first e) (first x) ≡ Equal) × (second x ≡ v) × Altered (λ y. (first y, second e)) x (entries b) (entries b')

  -- the value of the one entry whose key is the same as the query, or none where there is no such entry
  pub record LookupMeans (place : Query K) : Type 0 where
    pub answers : (o : Option V) × (n : ℕ) × (r ≡ Ok (Found o n))
    pub finds : (o : Option V) (n : ℕ) → r ≡ Ok (Found o n) → (x : Option (K × V)) × (o ≡ value_of x) × Sought (λ y. place (first y)) (entries b) x
    pub alone : AtOne compares place → (ante post : List (K × V)) (e : K × V) → entries b ≡ ante ++ e ∷ post → place (first e) ≡ Equal → All (λ y. place (first y) ≢ Equal) ante × All (λ y. place (first y) ≢ Equal) post
    pub bound : (o : Option V) (n : ℕ) → r ≡ Ok (Found o n) → n ≤ 11 * (height_in b + 1)

  -- the least entry that is the same as the query, or none where there is no such entry
  pub record LeastMeans (place : Query K) : Type 0 where
    pub answers : (x : Option (K × V)) × (r ≡ Ok (LeastIs x))
    pub least : (x : Option (K × V)) → r ≡ Ok (LeastIs x) → LeastIn (λ y. place (first y)) (entries b) x

  -- the entry at that end of the list, or none where nothing is left
  pub record StepMeans (s : Side) : Type 0 where
    pub answers : (x : Option (K × V)) × (r ≡ Ok (Handed x))
    pub kind : is_walk (kind_of b') ≡ true
    pub none_left : r ≡ Ok (Handed None) → (entries b ≡ []) × (b' ≡ b)
    pub next : (e : K × V) → r ≡ Ok (Handed (Some e)) → entries b ≡ cons s e (entries b')

  pub record OpenMeans : Type 0 where
    pub answers : r ≡ Ok Opened
    pub kind : is_walk (kind_of b') ≡ true
    pub all : entries b' ≡ entries b

  pub record DropMeans : Type 0 where
    pub answers : r ≡ Ok (Dropped (length (entries b)))
    pub none_left : b' ≡ bare

  pub record CountMeans : Type 0 where
    pub answers : r ≡ Ok (Counted (length (entries b)))
    pub unchanged : b' ≡ b

  -- d': what the second place has afterwards. Refused just where fewer numbers may be taken than the tree has levels; else the list is parted
  pub record CutMeans (d' : Book (K × V)) (place : Query K) : Type 0 where
    pub kinds : (is_map (kind_of b') ≡ true) × (is_map (kind_of d') ≡ true)
    pub declined : 0 < length (entries b) → a < height_in b + 1 → r ≡ Err (6, (height_in b + 1) ∷ a ∷ [])
    pub granted : 0 < length (entries b) → height_in b + 1 ≤ a → (l : ℕ) × (m : ℕ) × (n : ℕ) × (r ≡ Ok (Parted l m n))
    pub empty : entries b ≡ [] → (r ≡ Ok (Parted 0 0 0)) × (b' ≡ b) × (d' ≡ bare)
    pub whole : (l m n : ℕ) → r ≡ Ok (Parted l m n) → entries b' ++ entries d' ≡ entries b
    pub counts : (l m n : ℕ) → r ≡ Ok (Parted l m n) → (l ≡ length (entries b')) × (m ≡ length (entries d')) × (n ≤ 11 * (height_in b + 1))
    pub below : (l m n : ℕ) → r ≡ Ok (Parted l m n) → All (λ y. is_gt (place (first y)) ≡ true) (entries b')
    pub not_below : (l m n : ℕ) → r ≡ Ok (Parted l m n) → All (λ y. is_gt (place (first y)) ≡ false) (entries d')
    -- all that are the same as the query go right, however many they are
    pub same : (l m n : ℕ) → r ≡ Ok (Parted l m n) → (same_as place (entries b') ≡ []) × (same_as place (entries d') ≡ same_as place (entries b))

  -- what the answer of a call means for the book in its place, before and after; the last two are those in its second place, if it has one
  abbrev pub AnswerMeans : Asked K V → Book (K × V) → Book (K × V) → Type 0
  AnswerMeans (Insert p k v) d d' = InsertMeans (k, v)
  AnswerMeans (Lookup p place) d d' = LookupMeans place
  AnswerMeans (Least p place) d d' = LeastMeans place
  AnswerMeans (Count p) d d' = CountMeans
  AnswerMeans (Cut p o place) d d' = CutMeans d' place
  AnswerMeans (Open p) d d' = OpenMeans
  AnswerMeans (Step p s) d d' = StepMeans s
  AnswerMeans (Close p) d d' = DropMeans
  AnswerMeans (Release p) d d' = DropMeans
  AnswerMeans Audit d d' = r ≡ Ok (Audited true)

module _ {K V : Type 0} (bs bs' : List (Book (K × V))) where
  -- what is meant for the books of a call's places, before and after, in their order: none for a call of the whole bank
  abbrev pub AtPlaces : Shape K V → (Book (K × V) → Book (K × V) → Book (K × V) → Book (K × V) → Type 0) → Type 0
  AtPlaces (asks_at p f r) M = M (book_in bs p) (book_in bs' p) bare bare
  AtPlaces (acts_at p f w r) M = M (book_in bs p) (book_in bs' p) bare bare
  AtPlaces (acts_at_both p o f g w r) M = M (book_in bs p) (book_in bs' p) (book_in bs o) (book_in bs' o)
  AtPlaces (of_bank x) M = M bare bare bare bare

-- the places that a call leaves alone
abbrev pub LeavesPlace : {K V : Type 0} → Shape K V → ℕ → Type 0
LeavesPlace (asks_at p f r) x = Unit {0}
LeavesPlace (acts_at p f w r) x = x ≢ p
LeavesPlace (acts_at_both p o f g w r) x = (x ≢ p) × (x ≢ o)
LeavesPlace (of_bank y) x = Unit {0}

abbrev pub Untouched : {K V : Type 0} → Asked K V → ℕ → Type 0
Untouched c x = LeavesPlace (shape c) x

module _ {K V : Type 0} (compares : K → K → Ordering) (a : ℕ) (bs bs' : List (Book (K × V))) (r : Result (Answer K V) Code) where
  abbrev pub Answered : Asked K V → Type 0
  Answered c = AtPlaces bs bs' (shape c) (λ b b' d d'. AnswerMeans compares a b b' r c d d')

  pub record Means (c : Asked K V) : Type 0 where
    pub refused : (e : Code) → r ≡ Err e → bs' ≡ bs
    pub checked : (e : Code) → check (λ p. kind_of (book_in bs p)) c ≡ Some e → r ≡ Err e
    pub others : (x : ℕ) → Untouched c x → book_in bs' x ≡ book_in bs x
    pub answered : check (λ p. kind_of (book_in bs p)) c ≡ None → Answered c
