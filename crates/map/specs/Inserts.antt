-- What it does to the tables to put an entry into a node of height h: with room, or by splitting a full one.
--   Edges h c cs    the edges that come with an entry: none in a leaf, one to c above
--   InsertsIn       node m has room: the entry e goes to index i, its edges behind edge i
--   InsertsLeft, InsertsRight   the full node m is split at 6 into itself and node n, and the entry e goes left or right of the entry between
--   Replaces        the value at index i of node m is replaced, and the old one answered
use Rattle.std.specs.Prelude.{◌≡◌, ℕ, ◌+◌, ◌<◌, List, [], ◌∷◌, ◌++◌, length, Ok, Result, ◌≢◌}
use Rattle.supply.specs.declared.faults.Fault.{Fault}
use Rattle.node.specs.Store.{Tables, Sized, Node, Linked, Changed, first, second}
use Rattle.node.specs.Operations.{Fan, Children}

pub record Edges (h c : ℕ) (cs : List ℕ) : Type 0 where
  pub leaf : h ≡ 0 → cs ≡ []
  pub inner : 0 < h → cs ≡ c ∷ []

unfoldable pub InsertsIn : {K V : Type 0} → Tables K V → Tables K V → ℕ → ℕ → ℕ → (K × V) → ℕ → Result (Unit {0}) Fault → Type 0
InsertsIn {K} {V} T T' h m i e c r =
    (es fs : List (K × V)) (ks ls cs : List ℕ) → Sized T → Node T m (es ++ fs) (ks ++ ls) → length es ≡ i → Fan h (length es) (length ks)
    → (h ≡ 0 → length ls ≡ 0) → (0 < h → length ls ≡ length fs) → Edges h c cs → length (es ++ fs) < 11 → Children T (cs ++ ls)
    → (r ≡ Ok tt) × Node T' m (es ++ e ∷ fs) (ks ++ (cs ++ ls)) × Linked T' m (length ks) (cs ++ ls) × Changed T T' (m ∷ []) (cs ++ ls)

-- x comes to stand between the halves: as' and bs are the entries before and behind e in the left one, and fs those of the right one
unfoldable pub InsertsLeft : {K V : Type 0} → Tables K V → Tables K V → ℕ → ℕ → ℕ → (K × V) → ℕ → ℕ → Result (K × V) Fault → Type 0
InsertsLeft {K} {V} T T' h m i e c n r =
    (as' bs : List (K × V)) (x : K × V) (fs : List (K × V)) (ks ls ms cs : List ℕ) → Sized T → Node T m ((as' ++ bs) ++ x ∷ fs) ((ks ++ ls) ++ ms)
    → length as' ≡ i → length (as' ++ bs) ≡ 6 → Fan h (length as') (length ks) → (h ≡ 0 → length ls ≡ 0) → (0 < h → length ls ≡ length bs) → Fan h (length fs) (length ms)
    → Edges h c cs → n < length T.heads → (n ≢ m) → Children T (cs ++ (ls ++ ms))
    → (r ≡ Ok x) × Node T' m (as' ++ e ∷ bs) (ks ++ (cs ++ ls)) × Node T' n fs ms × Linked T' m (length ks) (cs ++ ls) × Linked T' n 0 ms
    × Changed T T' (n ∷ m ∷ []) (ms ++ (cs ++ ls))

-- as' and bs are the entries before and behind e in the right one
unfoldable pub InsertsRight : {K V : Type 0} → Tables K V → Tables K V → ℕ → ℕ → ℕ → (K × V) → ℕ → ℕ → Result (K × V) Fault → Type 0
InsertsRight {K} {V} T T' h m i e c n r =
    (es : List (K × V)) (x : K × V) (as' bs : List (K × V)) (ks ms ls cs : List ℕ) → Sized T → Node T m (es ++ x ∷ (as' ++ bs)) (ks ++ (ms ++ ls))
    → length es ≡ 6 → length as' + 7 ≡ i → Fan h (length es) (length ks) → Fan h (length as') (length ms) → (h ≡ 0 → length ls ≡ 0) → (0 < h → length ls ≡ length bs)
    → Edges h c cs → n < length T.heads → (n ≢ m) → Children T (cs ++ (ms ++ ls))
    → (r ≡ Ok x) × Node T' m es ks × Node T' n (as' ++ e ∷ bs) (ms ++ (cs ++ ls)) × Linked T' n 0 ms × Linked T' n (length ms) (cs ++ ls)
    × Changed T T' (n ∷ m ∷ []) ((ms ++ ls) ++ (cs ++ ls))

unfoldable pub Replaces : {K V : Type 0} → Tables K V → Tables K V → ℕ → ℕ → V → Result V Fault → Type 0
Replaces {K} {V} T T' m i v r =
    (es : List (K × V)) (e : K × V) (fs : List (K × V)) (ks : List ℕ) → Sized T → Node T m (es ++ e ∷ fs) ks → length es ≡ i
    → (r ≡ Ok (second e)) × Node T' m (es ++ (first e, v) ∷ fs) ks × Changed T T' (m ∷ []) []
