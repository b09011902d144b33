-- What is done at a bank of two callers, one move after the other.
--   Moved             a turn to a caller, a laying out, or a call, each with its answer; the last two with the number of the caller that was served
--   TurnsTo n         a turn to caller n: refused for the number, or for the tables, with nothing changed; else this caller is served, and nothing
--                     else has changed
--   laid_for b d      the tables' size is taken over, caller b's places are bare, and nothing else has changed
--   LaidOut b         a laying out for caller b: refused for the tables, or for what this caller has out, with nothing changed; else as laid_for
--   LeavesOther b     who is served, both limits, and the other's places and numbers are as they were; its numbers are barred for caller b
--   Called b          a call of caller b: what the bank promises of it, of the bank as this caller means it; and in good form, or where the
--                     call is refused for tables or places, or asks only, the other is left alone; where it is so refused, nothing has changed
--   Makes d x d'      what one move makes of the bank
--   MakesAll ms d d'  these moves, the last one first, led from d to d'
--   past_of n ms      the calls of caller n since its last granted laying out, the last one first; none before the first
--   LaidFirst ms      each caller's calls come behind a granted laying out of its own
--   EvenSince         a caller's bank is in good form, these calls led to its books, and its entries come out even
--   Stands            a caller has nothing yet, or so it is since its last laying out
--   BothStand d ms    so it is of both callers
use Rattle.std.specs.Prelude.{◌≡◌, ℕ, ◌<◌, true, false, cond, nat_eq, List, [], ◌∷◌, length, replicate, Some, None, Ok, Err, Option, Result, slice_index_or}
use Rattle.std.specs.declared.cmp.Ordering.{Ordering}
use Rattle.order.specs.Laws.{Ordered}
use Rattle.supply.specs.Stocks.{Stock, is_barred}
use Rattle.books.specs.declared.places.Place.TheVariants as P
use Rattle.books.specs.Books.{Book, bare}
use Rattle.calls.specs.Refusals.{Code}
use Rattle.calls.specs.Rules.{check}
use Rattle.calls.specs.Runs.{Event, Even, Low}
use Rattle.books.specs.States.{Models}
use Rattle.bank.specs.Calls.{Fit, FailsChecks, Asks, Keeps, Performs}
use Rattle.bank.specs.Gate.{kinds}
use Rattle.bank.specs.Layout.{FitsAlone, UnusedSupply}
use Rattle.shared.specs.SharedStates.{CallerState, SharedState, caller_state, of_caller, view, other, Unbegun}
use Rattle.shared.specs.SharedRuns.{Resumed, SharedRuns}

pub data Moved (K V : Type 0) : Type 0 where
  turned : ℕ → Result (Unit {0}) Code → Moved K V
  laid : ℕ → Result (Unit {0}) Code → Moved K V
  called : ℕ → Event K V → Moved K V

-- ---- one move

abbrev pub turned_to : {K V : Type 0} → ℕ → SharedState K V → SharedState K V
turned_to n d = record { tables = d.tables; size = d.size; served = n; first = d.first; second = d.second }

pub record TurnsTo {K V : Type 0} (n : ℕ) (d d' : SharedState K V) (r : Result (Unit {0}) Code) : Type 0 where
  pub no_caller : 1 < n → (r ≡ Err (10, [])) × (d' ≡ d)
  pub misfit : n < 2 → (Fit (view d d.served) → ⊥) → (r ≡ Err (1, [])) × (d' ≡ d)
  pub granted : n < 2 → Fit (view d d.served) → (r ≡ Ok tt) × (d' ≡ turned_to n d)

abbrev pub emptied : CallerState → CallerState
emptied c = caller_state (replicate 16 P.Bare) c.stock

abbrev pub laid_for : {K V : Type 0} → ℕ → SharedState K V → SharedState K V
laid_for b d = record { tables = d.tables; size = length d.tables.heads; served = d.served; first = cond (nat_eq b 0) (emptied d.first) d.first; second = cond (nat_eq b 0) d.second (emptied d.second) }

pub record LaidOut {K V : Type 0} (compares : K → K → Ordering) (b : ℕ) (r : Result (Unit {0}) Code) (d d' : SharedState K V) : Type 0 where
  pub by : b ≡ d.served
  pub one : b < 2
  pub misfit : (FitsAlone (view d b) → ⊥) → (r ≡ Err (1, [])) × (d' ≡ d)
  pub taken : FitsAlone (view d b) → (UnusedSupply (view d b) → ⊥) → (r ≡ Err (2, [])) × (d' ≡ d)
  pub granted : FitsAlone (view d b) → UnusedSupply (view d b) → (r ≡ Ok tt) × (d' ≡ laid_for b d)
  pub models : FitsAlone (view d b) → UnusedSupply (view d b) → Models compares (view d' b) (replicate 16 bare)

pub record LeavesOther {K V : Type 0} (b : ℕ) (d d' : SharedState K V) : Type 0 where
  pub served : d'.served ≡ d.served
  pub terms : (of_caller d' (other b)).stock.aside.terms ≡ (of_caller d (other b)).stock.aside.terms
  pub places : (of_caller d' (other b)).places ≡ (of_caller d (other b)).places
  pub marks : (of_caller d' (other b)).stock.marks ≡ (of_caller d (other b)).stock.marks
  pub barred : (x : ℕ) → slice_index_or (of_caller d (other b)).stock.marks x false ≡ true → is_barred (of_caller d b).stock x ≡ true

pub record Called {K V : Type 0} (compares : K → K → Ordering) (b : ℕ) (ev : Event K V) (d d' : SharedState K V) : Type 0 where
  pub by : b ≡ d.served
  pub one : b < 2
  pub performs : Performs compares ev.call (view d b) (view d' b) ev.answer
  pub keeps : Keeps compares ev.call (view d b) (view d' b) ev.answer
  pub leaves : (bs : List (Book (K × V))) → Fit (view d b) → Models compares (view d b) bs → LeavesOther b d d'
  pub misfit : (Fit (view d b) → ⊥) → LeavesOther b d d'
  pub refused : Fit (view d b) → (e : Code) → check (kinds (of_caller d b).places) ev.call ≡ Some e → LeavesOther b d d'
  pub asks : Asks ev.call ≡ true → LeavesOther b d d'
  pub same : FailsChecks ev.call (view d b) → d' ≡ d

abbrev pub Makes : {K V : Type 0} → (K → K → Ordering) → SharedState K V → Moved K V → SharedState K V → Type 0
Makes compares d (turned n r) d' = TurnsTo n d d' r
Makes compares d (laid b r) d' = LaidOut compares b r d d'
Makes compares d (called b ev) d' = Called compares b ev d d'

-- ---- several moves

unfoldable pub MakesAll : {K V : Type 0} → (K → K → Ordering) → List (Moved K V) → SharedState K V → SharedState K V → Type 0
MakesAll compares [] d d' = d' ≡ d
MakesAll {K} {V} compares (x ∷ ms) d d'' = (d' : SharedState K V) × MakesAll compares ms d d' × Makes compares d' x d''

abbrev pub more : {K V : Type 0} → Event K V → Option (List (Event K V)) → Option (List (Event K V))
more ev None = None
more ev (Some past) = Some (ev ∷ past)

abbrev pub past_of : {K V : Type 0} → ℕ → List (Moved K V) → Option (List (Event K V))
past_of n [] = None
past_of n (turned m r ∷ ms) = past_of n ms
past_of n (laid b (Err e) ∷ ms) = past_of n ms
past_of n (laid b (Ok u) ∷ ms) = cond (nat_eq n b) (Some []) (past_of n ms)
past_of n (called b ev ∷ ms) = cond (nat_eq n b) (more ev (past_of n ms)) (past_of n ms)

abbrev pub Begun : {K V : Type 0} → Option (List (Event K V)) → Type 0
Begun None = ⊥
Begun (Some past) = Unit {0}

abbrev pub LaidFirst : {K V : Type 0} → List (Moved K V) → Type 0
LaidFirst [] = Unit {0}
LaidFirst (turned m r ∷ ms) = LaidFirst ms
LaidFirst (laid b r ∷ ms) = LaidFirst ms
LaidFirst (called b ev ∷ ms) = Begun (past_of b ms) × LaidFirst ms

-- ---- what stands after them

pub record EvenSince {K V : Type 0} (compares : K → K → Ordering) (d : SharedState K V) (n : ℕ) (past : List (Event K V)) : Type 0 where
  pub books : List (Book (K × V))
  pub fit : Fit (view d n)
  pub models : Models compares (view d n) books
  pub stock : Stock
  pub runs : SharedRuns compares past stock books
  pub resumed : Resumed stock (of_caller d n).stock
  pub even : Even past books
  pub low : Low books

abbrev pub Stands : {K V : Type 0} → (K → K → Ordering) → SharedState K V → ℕ → Option (List (Event K V)) → Type 0
Stands compares d n None = Unbegun (of_caller d n)
Stands compares d n (Some past) = EvenSince compares d n past

abbrev pub BothStand : {K V : Type 0} → (K → K → Ordering) → SharedState K V → List (Moved K V) → Type 0
BothStand compares d ms = (n : ℕ) → n < 2 → Stands compares d n (past_of n ms)

-- whatever is done by turns: each caller who lays out before it calls comes out even, whatever the other does
abbrev pub MovesStand : Type 0 → Type 0 → Type 0
MovesStand K V =
    (compares : K → K → Ordering) (ms : List (Moved K V)) (d d' : SharedState K V) → Ordered compares → Unbegun d.first → Unbegun d.second → MakesAll compares ms d d' → LaidFirst ms → BothStand compares d' ms
