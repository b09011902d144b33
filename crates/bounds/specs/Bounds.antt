-- How many nodes trees have at least, and how many a cut of a bank needs at most.
--   NodesLeast      a formed tree of height h ≥ 1 has at least 1 + (5^h - 1) / 2 nodes
--   NodesWithin     a formed tree of at most 4096 nodes is no higher than 5
--   TreesLow        in good form no tree is higher than 5
--   CutNeeds        a cut that a bank in good form declines for nodes names at most 6 as needed, and more than may be taken
use Rattle.std.specs.Prelude.{◌≡◌, ℕ, ◌+◌, ◌-◌, ◌/◌, ◌^◌, ◌<◌, ◌≤◌, List, [], ◌∷◌, Err, Result}
use Rattle.std.specs.declared.cmp.Ordering.{Ordering}
use Rattle.node.specs.Shape.{Tree, Formed}
use Rattle.node.specs.Laws.{nodes}
use Rattle.calls.specs.declared.calls.Answer.{Answer}
use Rattle.books.specs.Books.{Book, planted, book_in}
use Rattle.calls.specs.Refusals.{Code}
use Rattle.calls.specs.Asking.{Query, Cut}
use Rattle.books.specs.States.{State, Models}
use Rattle.bank.specs.Calls.{Fit, Performs}

abbrev pub NodesLeast : Type 0 → Type 0
NodesLeast E = (h : ℕ) (t : Tree E) → Formed h t → 1 ≤ h → 1 + (5 ^ h - 1) / 2 ≤ nodes h t

abbrev pub NodesWithin : Type 0 → Type 0
NodesWithin E = (h : ℕ) (t : Tree E) → Formed h t → nodes h t ≤ 4096 → h ≤ 5

abbrev pub TreesLow : Type 0 → Type 0 → Type 0
TreesLow K V =
    (compares : K → K → Ordering) (s : State K V) (bs : List (Book (K × V))) → Models compares s bs → (p h : ℕ) (t : Tree (K × V)) → book_in bs p ≡ planted h t → h ≤ 5

abbrev pub CutNeeds : Type 0 → Type 0 → Type 0
CutNeeds K V =
    (compares : K → K → Ordering) (s s' : State K V) (bs : List (Book (K × V))) (p o : ℕ) (place : Query K) (r : Result (Answer K V) Code) (n a : ℕ)
    → Fit s → Models compares s bs → Performs compares (Cut p o place) s s' r → r ≡ Err (6, n ∷ a ∷ []) → (n ≤ 6) × (s.stock.allowance < n)
