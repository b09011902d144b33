-- Theorems on the rules of the calls.
--   RuleSound     sound books stay sound, sixteen of them
--   RuleMeans     each rule means what the map's call does
--   Numbered      a refusal by the rule has the number 3, 4 or 6
--   RuleNumbers   so has each: it is never for a breach
--   RuleEven      a call adds what it inserts, and takes off what it hands out or drops
--   RunsStand     over every run the books stay sound, and the entries come out even
use Rattle.std.specs.Prelude.{◌≡◌, ℕ, ◌+◌, ◌⊎◌, List, length, Err, All}
use Rattle.std.specs.declared.cmp.Ordering.{Ordering}
use Rattle.supply.specs.Stocks.{Stock}
use Rattle.order.specs.Laws.{Ordered}
use Rattle.books.specs.Books.{Book}
use Rattle.calls.specs.Refusals.{Code}
use Rattle.calls.specs.Asking.{Asked}
use Rattle.calls.specs.Rules.{rule}
use Rattle.calls.specs.Meaning.{Sound, Agreeing, Means}
use Rattle.calls.specs.Runs.{Event, Runs, count_all, inserted, handed, dropped, Even, Low}

-- sound books stay sound, sixteen of them
abbrev pub RuleSound : Type 0 → Type 0 → Type 0
RuleSound K V =
    (compares : K → K → Ordering) (fresh : ℕ → ℕ → ℕ) (top : ℕ → ℕ) (a : ℕ) (c : Asked K V) (bs : List (Book (K × V))) → Ordered compares → length bs ≡ 16 → All (Sound compares) bs
    → (length (rule compares fresh top a c bs).books ≡ 16) × All (Sound compares) (rule compares fresh top a c bs).books

-- each rule means what the map's call does
abbrev pub RuleMeans : Type 0 → Type 0 → Type 0
RuleMeans K V =
    (compares : K → K → Ordering) (fresh : ℕ → ℕ → ℕ) (top : ℕ → ℕ) (a : ℕ) (c : Asked K V) (bs : List (Book (K × V))) → Ordered compares → Agreeing compares c → length bs ≡ 16 → All (Sound compares) bs
    → Means compares a bs (rule compares fresh top a c bs).books (rule compares fresh top a c bs).answer c

-- a refusal by the rule has the number 3, 4 or 6: it is never for a breach
abbrev pub Numbered : Code → Type 0
Numbered e = (e.0 ≡ 3) ⊎ ((e.0 ≡ 4) ⊎ (e.0 ≡ 6))

abbrev pub RuleNumbers : Type 0 → Type 0 → Type 0
RuleNumbers K V =
    (compares : K → K → Ordering) (fresh : ℕ → ℕ → ℕ) (top : ℕ → ℕ) (a : ℕ) (c : Asked K V) (bs : List (Book (K × V))) (e : Code) → (rule compares fresh top a c bs).answer ≡ Err e → Numbered e

-- a call adds what it inserts, and takes off what it hands out or drops
abbrev pub RuleEven : Type 0 → Type 0 → Type 0
RuleEven K V =
    (compares : K → K → Ordering) (fresh : ℕ → ℕ → ℕ) (top : ℕ → ℕ) (a : ℕ) (c : Asked K V) (bs : List (Book (K × V))) → Ordered compares → length bs ≡ 16 → All (Sound compares) bs
    → count_all (rule compares fresh top a c bs).books + (handed (rule compares fresh top a c bs).answer + dropped (rule compares fresh top a c bs).answer)
    ≡ count_all bs + inserted (rule compares fresh top a c bs).answer

-- over every run the books stay sound, and the entries come out even
abbrev pub RunsStand : Type 0 → Type 0 → Type 0
RunsStand K V =
    (compares : K → K → Ordering) (past : List (Event K V)) (S : Stock) (bs : List (Book (K × V))) → Ordered compares → Runs compares past S bs
    → (length bs ≡ 16) × All (Sound compares) bs × Even past bs × Low bs
