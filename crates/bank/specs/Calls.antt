-- What a call of a bank does.
--   Fit s            the tables fit together, and are of the bank's size
--   told f r         the answer of a call as a value, or the number of its refusal with the values that go with it
--   FailsChecks c s  the checks of tables and places refuse the call: numbers 1, 3 and 4
--   Met              on books that model the bank: it models other books, those that the rule of the call gives, with the answer that the rule
--                    gives. This means for the lists what the call of an ordered map means. A refusal leaves the
--                    state as it was, and is never for a breach. Over every run up to here the entries come out even. No barred node is written to
--   Reads c          the call changes no table
--   Asks c           the call changes nothing at all
--   Audits c         the call is an audit; it answers whether the bank is in good form
--   Keeps            the same of every call, granted or refused
--   Performs         all this; and of any content: calls that the checks of tables and places refuse are refused, and nothing has changed
use Rattle.std.specs.Prelude.{◌≡◌, ◌⊎◌, ℕ, Bool, true, false, Decides, List, [], ◌∷◌, length, Some, None, Ok, Err, Result}
use Rattle.std.specs.declared.cmp.Ordering.{Ordering}
use Rattle.node.specs.Balance.{Spared}
use Rattle.books.specs.declared.places.Place.{Place}
use Rattle.books.specs.declared.places.Place.TheVariants as P
use Rattle.calls.specs.declared.calls.Answer.{Answer}
use Rattle.calls.specs.declared.calls.Answer.TheVariants.{Audited, Opened}
use Rattle.calls.specs.declared.refusals.Refusal.{Refusal}
use Rattle.books.specs.Books.{Book}
use Rattle.calls.specs.Laws.{Numbered}
use Rattle.calls.specs.Meaning.{Agreeing, Means}
use Rattle.calls.specs.Refusals.{Code, code}
use Rattle.calls.specs.Asking.{Asked}
use Rattle.calls.specs.Rules.{Shape, asks_at, acts_at, acts_at_both, of_bank, shape, check}
use Rattle.calls.specs.Runs.{Event, event, Next, Runs, Even, Low}
use Rattle.books.specs.States.{State, Models, GoodForm}
use Rattle.bank.specs.Gate.{Fits, kinds}

pub record Fit {K V : Type 0} (s : State K V) : Type 0 where
  pub fits : Fits (length s.tables.heads) (length s.tables.keys) (length s.tables.values)
  pub size_is : s.size ≡ length s.tables.heads

abbrev pub told : {K V X : Type 0} → (X → Answer K V) → Result X Refusal → Result (Answer K V) Code
told f (Ok x) = Ok (f x)
told f (Err e) = Err (code e)

abbrev pub opened : {K V : Type 0} → Unit {0} → Answer K V
opened u = Opened

abbrev pub itself : {K V : Type 0} → Answer K V → Answer K V
itself x = x

abbrev pub FailsChecks : {K V : Type 0} → Asked K V → State K V → Type 0
FailsChecks c s = (Fit s → ⊥) ⊎ (Fit s × ((e : Code) × (check (kinds s.places) c ≡ Some e)))

-- how many entries a place says that it has
abbrev pub count_at : Place → ℕ
count_at P.Bare = 0
count_at (P.Tree root count) = count
count_at (P.Walk w) = w.left

pub record Met {K V : Type 0} (compares : K → K → Ordering) (c : Asked K V) (s s' : State K V) (r : Result (Answer K V) Code) (bs : List (Book (K × V))) : Type 0 where
  pub books : List (Book (K × V))
  pub models : Models compares s' books
  pub next : Next compares (event c r) s.stock bs s'.stock books
  pub means : Agreeing compares c → Means compares s.stock.allowance bs books r c
  pub runs : (past : List (Event K V)) → Runs compares past s.stock bs → Runs compares (event c r ∷ past) s'.stock books
  pub even : (past : List (Event K V)) → Runs compares past s.stock bs → Even (event c r ∷ past) books
  pub low : Low books
  pub spared : Spared s.tables s'.tables s.stock
  pub declined : (e : Code) → r ≡ Err e → s' ≡ s
  pub numbered : (e : Code) → r ≡ Err e → Numbered e

abbrev pub reads_by : {K V : Type 0} → Shape K V → Bool
reads_by (asks_at p f r) = true
reads_by (acts_at p f w r) = w
reads_by (acts_at_both p o f g w r) = w
reads_by (of_bank x) = true

abbrev pub Reads : {K V : Type 0} → Asked K V → Bool
Reads c = reads_by (shape c)

abbrev pub asks_by : {K V : Type 0} → Shape K V → Bool
asks_by (asks_at p f r) = true
asks_by (acts_at p f w r) = false
asks_by (acts_at_both p o f g w r) = false
asks_by (of_bank x) = true

abbrev pub Asks : {K V : Type 0} → Asked K V → Bool
Asks c = asks_by (shape c)

abbrev pub audits_by : {K V : Type 0} → Shape K V → Bool
audits_by (asks_at p f r) = false
audits_by (acts_at p f w r) = false
audits_by (acts_at_both p o f g w r) = false
audits_by (of_bank x) = true

abbrev pub Audits : {K V : Type 0} → Asked K V → Bool
Audits c = audits_by (shape c)

pub record Performs {K V : Type 0} (compares : K → K → Ordering) (c : Asked K V) (s s' : State K V) (r : Result (Answer K V) Code) : Type 0 where
  pub misfit : (Fit s → ⊥) → (r ≡ Err (1, [])) × (s' ≡ s)
  pub refused : Fit s → (e : Code) → check (kinds s.places) c ≡ Some e → (r ≡ Err e) × (s' ≡ s)
  pub size : s'.size ≡ s.size
  pub reads : Reads c ≡ true → s'.tables ≡ s.tables
  pub asks : Asks c ≡ true → s' ≡ s
  pub audits : Fit s → Audits c ≡ true → (b : Bool) × (r ≡ Ok (Audited b)) × Decides b (GoodForm compares s)
  pub meets : Fit s → check (kinds s.places) c ≡ None → (bs : List (Book (K × V))) → Models compares s bs → Met compares c s s' r bs

-- of every call in good form, granted or refused, also by the checks of places
abbrev pub Keeps : {K V : Type 0} → (K → K → Ordering) → Asked K V → State K V → State K V → Result (Answer K V) Code → Type 0
Keeps {K} {V} compares c s s' r = (bs : List (Book (K × V))) → Fit s → Models compares s bs → Met compares c s s' r bs
