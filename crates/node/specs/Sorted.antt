-- Sorted lists of entries, and what a query parts. An entry passes the test b where its key is below the query.
--   Sorted le l    each entry is in order with each behind it
--   Downward le b  what stands in order before an entry below the query is below it too
--   Rising b l     no entry below the query stands behind one that is not
--   index b l      the index of the first entry that is not below the query, else the length
--   SortedRises    sorted entries rise
--   IndexParts     the index parts a rising list: all before it are below the query, and none from it on
use Rattle.std.specs.Prelude.{◌≡◌, ℕ, suc, Bool, true, false, cond, List, [], ◌∷◌, take, drop, All}

abbrev pub Sorted : {E : Type 0} → (E → E → Bool) → List E → Type 0
Sorted le [] = Unit {0}
Sorted le (x ∷ xs) = All (λ y. le x y ≡ true) xs × Sorted le xs

abbrev pub Downward : {E : Type 0} → (E → E → Bool) → (E → Bool) → Type 0
Downward {E} le b = (x y : E) → le x y ≡ true → b y ≡ true → b x ≡ true

abbrev pub Rising : {E : Type 0} → (E → Bool) → List E → Type 0
Rising b [] = Unit {0}
Rising b (x ∷ xs) = (b x ≡ false → All (λ y. b y ≡ false) xs) × Rising b xs

abbrev pub index : {E : Type 0} → (E → Bool) → List E → ℕ
index b [] = 0
index b (x ∷ xs) = cond (b x) (suc (index b xs)) 0

abbrev pub SortedRises : Type 0 → Type 0
SortedRises E = (le : E → E → Bool) (b : E → Bool) → Downward le b → (l : List E) → Sorted le l → Rising b l

abbrev pub IndexParts : Type 0 → Type 0
IndexParts E = (b : E → Bool) (l : List E) → Rising b l → All (λ x. b x ≡ true) (take (index b l) l) × All (λ x. b x ≡ false) (drop (index b l) l)
