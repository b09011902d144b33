-- What the operations on one, two or three nodes do to the tables. Each speaks of lists in parts: a node that holds es ++ fs before
-- holds es after, and so on. None says anything of tables that do not hold what it expects.
--   Lies T m n      the tables fit together, and node m lies in them with n entries
--   Strange T m     they do not fit together, or no node m with at most eleven entries lies in them
--   Fan h n k       at height h, n entries go with k edges: one more above the leaves, none in a leaf
--   Children T cs   cs lie in the table, each once
--   InsertsFit      an entry at index i of node m, which has room; its edges stay
--   InsertsEdge     an entry at index i of node m, which has room, and an edge to c behind it
--   MovesTail       node m of height h keeps its first entries, some are passed over, and those behind go to node n
--   Splits          node m of height h gives up its entry at index i; what is behind it goes to node n
--   MovesSuffix     the entries of node m of height h from index i on, and the edges behind them, go to the empty node n, behind its first edge
--   Pairs           node p of height h holds an entry with two children beside it; the three are different
--   CanMerge        whether these children and that entry fit into one node
--   Merges          they merge into the left one; the right one is left over
--   StealsLeft, StealsRight   n entries go over from the left child, or from the right one, through the entry between
use Rattle.std.specs.Prelude.{◌≡◌, ℕ, ◌+◌, ◌-◌, ◌<◌, ◌≤◌, Bool, List, [], ◌∷◌, ◌++◌, length, Ok, All, Result, ◌≢◌, nat_le}
use Rattle.supply.specs.declared.faults.Fault.{Fault}
use Rattle.node.specs.Cells.{Run}
use Rattle.node.specs.Store.{Tables, Sized, Node, Linked, Changed, Once, head_at, itself}

pub record Lies {K V : Type 0} (T : Tables K V) (m n : ℕ) : Type 0 where
  pub sized : Sized T
  pub inside : m < length T.heads
  pub len_is : (head_at T m).len ≡ n
  pub few : n ≤ 11

abbrev pub Strange : {K V : Type 0} → Tables K V → ℕ → Type 0
Strange T m = Sized T → m < length T.heads → (head_at T m).len ≤ 11 → ⊥

pub record Fan (h n k : ℕ) : Type 0 where
  pub leaf : h ≡ 0 → k ≡ 0
  pub inner : 0 < h → k ≡ n + 1

pub record Children {K V : Type 0} (T : Tables K V) (cs : List ℕ) : Type 0 where
  pub inside : All (λ c. c < length T.heads) cs
  pub once : Once cs

unfoldable pub InsertsFit : {K V : Type 0} → Tables K V → Tables K V → ℕ → ℕ → (K × V) → Result (Unit {0}) Fault → Type 0
InsertsFit {K} {V} T T' m i e r =
    (es fs : List (K × V)) (ks : List ℕ) → Sized T → Node T m (es ++ fs) ks → length es ≡ i → length (es ++ fs) < 11
    → (r ≡ Ok tt) × Node T' m (es ++ e ∷ fs) ks × Changed T T' (m ∷ []) []

unfoldable pub InsertsEdge : {K V : Type 0} → Tables K V → Tables K V → ℕ → ℕ → (K × V) → ℕ → Result (Unit {0}) Fault → Type 0
InsertsEdge {K} {V} T T' m i e c r =
    (es fs : List (K × V)) (ks ls : List ℕ) → Sized T → Node T m (es ++ fs) (ks ++ ls) → length es ≡ i → length ks ≡ i + 1 → length ls ≡ length fs
    → length (es ++ fs) < 11 → Children T (c ∷ ls)
    → (r ≡ Ok tt) × Node T' m (es ++ e ∷ fs) (ks ++ c ∷ ls) × Linked T' m (i + 1) (c ∷ ls) × Changed T T' (m ∷ []) (c ∷ ls)

-- es stay, those in gs are passed over, and fs go to node n, with the edges ls behind its first edges cs
unfoldable pub MovesTail : {K V : Type 0} → Tables K V → Tables K V → ℕ → ℕ → ℕ → ℕ → ℕ → Result (Unit {0}) Fault → Type 0
MovesTail {K} {V} T T' h m i s n r =
    (es gs fs : List (K × V)) (ks ls cs : List ℕ) → Sized T → Node T m (es ++ (gs ++ fs)) (ks ++ ls) → n < length T.heads → Run itself (head_at T n).edges 0 cs
    → length es ≡ i → length gs ≡ s → Fan h (length es) (length ks) → (h ≡ 0 → length ls ≡ 0) → (0 < h → length ls ≡ length fs + s) → Fan h (length fs) (length (cs ++ ls)) → Children T ls
    → (r ≡ Ok tt) × Node T' m es ks × Node T' n fs (cs ++ ls) × Linked T' n (length cs) ls × Changed T T' (n ∷ m ∷ []) ls

unfoldable pub Splits : {K V : Type 0} → Tables K V → Tables K V → ℕ → ℕ → ℕ → ℕ → Result (K × V) Fault → Type 0
Splits {K} {V} T T' h m i n r =
    (es : List (K × V)) (e : K × V) (fs : List (K × V)) (ks ls : List ℕ) → Sized T → Node T m (es ++ e ∷ fs) (ks ++ ls) → length es ≡ i
    → Fan h (length es) (length ks) → Fan h (length fs) (length ls) → n < length T.heads → (n ≢ m) → Children T ls
    → (r ≡ Ok e) × Node T' m es ks × Node T' n fs ls × Linked T' n 0 ls × Changed T T' (n ∷ m ∷ []) ls

unfoldable pub MovesSuffix : {K V : Type 0} → Tables K V → Tables K V → ℕ → ℕ → ℕ → ℕ → Result (Unit {0}) Fault → Type 0
MovesSuffix {K} {V} T T' h m i n r =
    (es fs : List (K × V)) (ks ls cs : List ℕ) → Sized T → Node T m (es ++ fs) (ks ++ ls) → Node T n [] cs → length es ≡ i
    → Fan h (length es) (length ks) → (h ≡ 0 → length ls ≡ 0) → (0 < h → length ls ≡ length fs) → Fan h 0 (length cs) → (n ≢ m) → Children T ls
    → (r ≡ Ok tt) × Node T' m es ks × Node T' n fs (cs ++ ls) × Linked T' n (length cs) ls × Changed T T' (n ∷ m ∷ []) ls

-- p holds us, e and ws, with the children l and r beside e, which hold es and fs
pub record Pairs {K V : Type 0} (T : Tables K V) (p i l r : ℕ) (us : List (K × V)) (e : K × V) (ws es fs : List (K × V)) (as' bs ks ls : List ℕ) : Type 0 where
  pub parent : Node T p (us ++ e ∷ ws) (as' ++ l ∷ r ∷ bs)
  pub left : Node T l es ks
  pub right : Node T r fs ls
  pub here : length us ≡ i
  pub edges_here : length as' ≡ i
  pub edges_rest : length bs ≡ length ws
  pub left_other : l ≡ p → ⊥
  pub right_other : r ≡ p → ⊥
  pub differ : l ≡ r → ⊥

unfoldable pub CanMerge : {K V : Type 0} → Tables K V → ℕ → ℕ → Result Bool Fault → Type 0
CanMerge {K} {V} T p i res =
    (l r : ℕ) (us : List (K × V)) (e : K × V) (ws es fs : List (K × V)) (as' bs ks ls : List ℕ) → Sized T → Pairs T p i l r us e ws es fs as' bs ks ls
    → res ≡ Ok (nat_le (length es + length fs + 1) 11)

unfoldable pub Merges : {K V : Type 0} → Tables K V → Tables K V → ℕ → ℕ → ℕ → Result (ℕ × ℕ) Fault → Type 0
Merges {K} {V} T T' h p i res =
    (l r : ℕ) (us : List (K × V)) (e : K × V) (ws es fs : List (K × V)) (as' bs ks ls : List ℕ) → Sized T → Pairs T p i l r us e ws es fs as' bs ks ls
    → 0 < h → Fan (h - 1) (length es) (length ks) → Fan (h - 1) (length fs) (length ls) → length es + length fs + 1 ≤ 11 → Children T (bs ++ ls)
    → (res ≡ Ok (l, r)) × Node T' p (us ++ ws) (as' ++ l ∷ bs) × Node T' l (es ++ e ∷ fs) (ks ++ ls) × Linked T' p (i + 1) bs × Linked T' l (length ks) ls
    × Changed T T' (l ∷ p ∷ []) (bs ++ ls)

-- these are xs, and x, which becomes the entry between
unfoldable pub StealsLeft : {K V : Type 0} → Tables K V → Tables K V → ℕ → ℕ → ℕ → ℕ → Result (Unit {0}) Fault → Type 0
StealsLeft {K} {V} T T' h p i n res =
    (l r : ℕ) (us : List (K × V)) (e : K × V) (ws es : List (K × V)) (x : K × V) (xs fs : List (K × V)) (as' bs ks qs ls : List ℕ) → Sized T
    → Pairs T p i l r us e ws (es ++ x ∷ xs) fs as' bs (ks ++ qs) ls → 0 < h → length xs + 1 ≡ n → Fan (h - 1) (length es) (length ks) → Fan (h - 1) (length xs) (length qs)
    → Fan (h - 1) (length fs) (length ls) → n + length fs ≤ 11 → Children T (qs ++ ls)
    → (res ≡ Ok tt) × Node T' p (us ++ x ∷ ws) (as' ++ l ∷ r ∷ bs) × Node T' l es ks × Node T' r (xs ++ e ∷ fs) (qs ++ ls) × Linked T' r 0 (qs ++ ls)
    × Changed T T' (r ∷ l ∷ p ∷ []) (qs ++ ls)

unfoldable pub StealsRight : {K V : Type 0} → Tables K V → Tables K V → ℕ → ℕ → ℕ → ℕ → Result (Unit {0}) Fault → Type 0
StealsRight {K} {V} T T' h p i n res =
    (l r : ℕ) (us : List (K × V)) (e : K × V) (ws es xs : List (K × V)) (x : K × V) (fs : List (K × V)) (as' bs ks qs ls : List ℕ) → Sized T
    → Pairs T p i l r us e ws es (xs ++ x ∷ fs) as' bs ks (qs ++ ls) → 0 < h → length xs + 1 ≡ n → Fan (h - 1) (length es) (length ks) → Fan (h - 1) (length xs) (length qs)
    → Fan (h - 1) (length fs) (length ls) → length es + n ≤ 11 → Children T (qs ++ ls)
    → (res ≡ Ok tt) × Node T' p (us ++ x ∷ ws) (as' ++ l ∷ r ∷ bs) × Node T' l (es ++ e ∷ xs) (ks ++ qs) × Node T' r fs ls × Linked T' l (length ks) qs × Linked T' r 0 ls
    × Changed T T' (r ∷ l ∷ p ∷ []) (qs ++ ls)
