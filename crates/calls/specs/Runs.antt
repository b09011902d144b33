-- Runs: the calls after a laying out, each with its answer, the last one first.
--   Event              a call with its answer
--   Next ev S bs S' bs'   the books and the supply after a call, as its rule gives them: no number is lost or made
--   Runs past S bs     these calls, one after the other from sixteen bare places on, led to these books and this supply
--   count_all bs       the entries in all books
--   inserted, handed, dropped   the entries that the calls newly inserted, that steps handed out, and that were reported dropped
--   Even past bs       the entries come out even
--   Low bs             no tree with entries is higher than 2 · 5^h ≤ n + 1 allows
use Rattle.std.specs.Prelude.{◌≡◌, ℕ, ◌+◌, ◌*◌, ◌^◌, ◌≤◌, List, [], ◌∷◌, length, replicate, Some, None, Ok, Result}
use Rattle.std.specs.declared.cmp.Ordering.{Ordering}
use Rattle.supply.specs.Stocks.{Stock, size_of, outs_of}
use Rattle.node.specs.Shape.{Tree, flat, total}
use Rattle.calls.specs.declared.calls.Answer.{Answer}
use Rattle.calls.specs.declared.calls.Answer.TheVariants.{Inserted, Handed, Dropped}
use Rattle.books.specs.Books.{Book, bare, planted, entries, book_in}
use Rattle.calls.specs.Refusals.{Code}
use Rattle.calls.specs.Asking.{Asked}
use Rattle.calls.specs.Rules.{outcome, rule}

pub record Event (K V : Type 0) : Type 0 where
  pub call : Asked K V
  pub answer : Result (Answer K V) Code

abbrev pub event : {K V : Type 0} → Asked K V → Result (Answer K V) Code → Event K V
event c r = record { call = c; answer = r }

pub record Next {K V : Type 0} (compares : K → K → Ordering) (ev : Event K V) (S : Stock) (bs : List (Book (K × V))) (S' : Stock) (bs' : List (Book (K × V))) : Type 0 where
  pub fresh : ℕ → ℕ → ℕ
  pub top : ℕ → ℕ
  pub by_rule : outcome ev.answer bs' ≡ rule compares fresh top S.allowance ev.call bs
  pub size : size_of S' ≡ size_of S
  pub allowance : S'.allowance + outs_of S' ≡ S.allowance + outs_of S
  pub aside : S'.aside ≡ S.aside

unfoldable pub Runs : {K V : Type 0} → (K → K → Ordering) → List (Event K V) → Stock → List (Book (K × V)) → Type 0
Runs compares [] S bs = bs ≡ replicate 16 bare
Runs {K} {V} compares (ev ∷ past) S' bs' = (S : Stock) × (bs : List (Book (K × V))) × Runs compares past S bs × Next compares ev S bs S' bs'

abbrev pub count_all : {E : Type 0} → List (Book E) → ℕ
count_all bs = total (λ b. length (entries b)) bs

abbrev pub inserted : {K V : Type 0} → Result (Answer K V) Code → ℕ
inserted (Ok (Inserted None)) = 1
inserted r = 0

abbrev pub handed : {K V : Type 0} → Result (Answer K V) Code → ℕ
handed (Ok (Handed (Some e))) = 1
handed r = 0

abbrev pub dropped : {K V : Type 0} → Result (Answer K V) Code → ℕ
dropped (Ok (Dropped n)) = n
dropped r = 0

abbrev pub sum_of : {K V : Type 0} → (Result (Answer K V) Code → ℕ) → List (Event K V) → ℕ
sum_of f past = total (λ ev. f ev.answer) past

abbrev pub Even : {K V : Type 0} → List (Event K V) → List (Book (K × V)) → Type 0
Even past bs = count_all bs + (sum_of handed past + sum_of dropped past) ≡ sum_of inserted past

abbrev pub Low : {E : Type 0} → List (Book E) → Type 0
Low {E} bs = (p h : ℕ) (t : Tree E) → book_in bs p ≡ planted h t → 1 ≤ length (flat h t) → 2 * 5 ^ h ≤ length (flat h t) + 1
