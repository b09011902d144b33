-- Several calls, one after the other.
--   history cs rs past    these calls with their answers, the last one first, and the calls before them
--   Chain             of any content: these calls with these answers, one after the other, led from one state to the other
--   MeansEach         so it is in good form, with books that model each state on the way, and each call means for them what that of an ordered map means
--   MetAll            on books that model the bank: it models other books, to which the calls with these answers led; over every run up to here the
--                     entries come out even, and no tree is too high
--   first_calls, first_answers    those of the first n
--   Lesser n a b      n is the lesser of a and b
--   PerformsAll       so it is of tables of the bank's size
use Rattle.std.specs.Prelude.{◌≡◌, ℕ, ◌≤◌, ◌⊎◌, List, [], ◌∷◌, map, take, Result}
use Rattle.std.specs.declared.cmp.Ordering.{Ordering}
use Rattle.calls.specs.declared.calls.Answer.{Answer}
use Rattle.calls.specs.declared.calls.Call.{Call}
use Rattle.calls.specs.declared.refusals.Refusal.{Refusal}
use Rattle.books.specs.Books.{Book}
use Rattle.calls.specs.Refusals.{Code}
use Rattle.calls.specs.Asking.{Asked, Query, asked}
use Rattle.calls.specs.Runs.{Event, event, Runs, Even, Low}
use Rattle.books.specs.States.{State, Models}
use Rattle.calls.specs.Meaning.{Means}
use Rattle.bank.specs.Calls.{Fit, told, itself, Performs}

abbrev pub history : {K V : Type 0} → List (Asked K V) → List (Result (Answer K V) Code) → List (Event K V) → List (Event K V)
history [] rs past = past
history (c ∷ cs) [] past = past
history (c ∷ cs) (r ∷ rs) past = history cs rs (event c r ∷ past)

unfoldable pub Chain : {K V : Type 0} → (K → K → Ordering) → List (Asked K V) → List (Result (Answer K V) Code) → State K V → State K V → Type 0
Chain compares [] [] s s' = s' ≡ s
Chain compares [] (r ∷ rs) s s' = ⊥
Chain compares (c ∷ cs) [] s s' = ⊥
Chain {K} {V} compares (c ∷ cs) (r ∷ rs) s s'' = (s' : State K V) × Performs compares c s s' r × Chain compares cs rs s' s''

unfoldable pub MeansEach : {K V : Type 0} → (K → K → Ordering) → List (Asked K V) → List (Result (Answer K V) Code) → State K V → State K V → List (Book (K × V)) → List (Book (K × V)) → Type 0
MeansEach compares [] [] s s' bs bs' = (s' ≡ s) × (bs' ≡ bs)
MeansEach compares [] (r ∷ rs) s s' bs bs' = ⊥
MeansEach compares (c ∷ cs) [] s s' bs bs' = ⊥
MeansEach {K} {V} compares (c ∷ cs) (r ∷ rs) s s'' bs bs'' =
    (s' : State K V) × (bs' : List (Book (K × V))) × Models compares s' bs' × Means compares s.stock.allowance bs bs' r c × MeansEach compares cs rs s' s'' bs' bs''

pub record MetAll {K V : Type 0} (compares : K → K → Ordering) (cs : List (Asked K V)) (s s' : State K V) (rs : List (Result (Answer K V) Code)) (bs : List (Book (K × V))) : Type 0 where
  pub books : List (Book (K × V))
  pub models : Models compares s' books
  pub means : MeansEach compares cs rs s s' bs books
  pub size : s'.size ≡ s.size
  pub runs : (past : List (Event K V)) → Runs compares past s.stock bs → Runs compares (history cs rs past) s'.stock books
  pub even : (past : List (Event K V)) → Runs compares past s.stock bs → Even (history cs rs past) books
  pub low : Low books

abbrev pub PerformsAll : {K V : Type 0} → (K → K → Ordering) → List (Asked K V) → State K V → State K V → List (Result (Answer K V) Code) → Type 0
PerformsAll {K} {V} compares cs s s' rs = (bs : List (Book (K × V))) → Fit s → Models compares s bs → MetAll compares cs s s' rs bs

-- the calls and the answers of the first n
abbrev pub first_calls : {K V P Q : Type 0} → (P → Query K) → (Q → Query K) → ℕ → List (Call K V P Q) → List (Asked K V)
first_calls points places n calls = map (asked points places) (take n calls)

abbrev pub first_answers : {K V : Type 0} → ℕ → List (Result (Answer K V) Refusal) → List (Result (Answer K V) Code)
first_answers n rs = map (told itself) (take n rs)

-- n is the lesser of a and b
pub record Lesser (n a b : ℕ) : Type 0 where
  pub under : n ≤ a
  pub under' : n ≤ b
  pub one : (a ≤ n) ⊎ (b ≤ n)
