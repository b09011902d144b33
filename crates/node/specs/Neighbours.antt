-- Two neighbours among the children of a node, as the code names them.
--   Paired T p i q      q names node p, its entry at index i, and the two children beside it, with the lengths that stand in the tables
--   HasRows xs q        a table of keys or of values has a row for each of the three, which are different; the entry stands in the parent's row
--   PairedOf T p i r    where the tables hold such a parent and two children, r answers them
--   Steals s            so many entries go over to the one at side s, through the entry between
--   JoinsAs c           the two are merged, or so many entries go over, or nothing changes, as the choice c says. What is answered: the merged
--                       one with the right one as left over; else the one at side s, with none left over
--   JoinsChildren       so it is where the tables hold such a parent and two children, by the choice for the numbers of their entries
use Rattle.std.specs.Prelude.{◌≡◌, ◌≢◌, ℕ, ◌+◌, ◌*◌, ◌<◌, ◌≤◌, List, ◌∷◌, ◌++◌, length, Some, None, Ok, Err, Option, Result}
use Rattle.supply.specs.declared.faults.Fault.{Fault}
use Rattle.node.specs.declared.choice.Choice.{Choice}
use Rattle.node.specs.declared.choice.Choice.TheVariants.{Merge, Move, Leave}
use Rattle.node.specs.declared.ends.Side.{Side}
use Rattle.node.specs.declared.ends.Side.TheVariants.{First, Last}
use Rattle.node.specs.declared.rows.Pair.{Pair}
use Rattle.node.specs.Store.{Tables, Sized}
use Rattle.node.specs.Rules.{at_side, choice}
use Rattle.node.specs.Operations.{Lies, Pairs, Merges, StealsLeft, StealsRight}

pub record Paired {K V : Type 0} (T : Tables K V) (p i : ℕ) (q : Pair) : Type 0 where
  pub node_is : q.node ≡ p
  pub idx_is : q.idx ≡ i
  pub parent : Lies T p q.len
  pub left : Lies T q.left q.left_len
  pub right : Lies T q.right q.right_len
  pub within : i < q.len
  pub left_other : q.left ≡ p → ⊥
  pub right_other : q.right ≡ p → ⊥
  pub differ : q.left ≡ q.right → ⊥

pub record HasRows {X : Type 0} (xs : List X) (q : Pair) : Type 0 where
  pub node : 11 * q.node + 11 ≤ length xs
  pub left : 11 * q.left + 11 ≤ length xs
  pub right : 11 * q.right + 11 ≤ length xs
  pub within : q.idx < q.len
  pub few : q.len ≤ 11
  pub left_few : q.left_len ≤ 11
  pub right_few : q.right_len ≤ 11
  pub left_other : q.left ≢ q.node
  pub right_other : q.right ≢ q.node
  pub differ : q.left ≢ q.right

unfoldable pub PairedOf : {K V : Type 0} → Tables K V → ℕ → ℕ → Result Pair Fault → Type 0
PairedOf {K} {V} T p i res =
    (l r : ℕ) (us : List (K × V)) (e : K × V) (ws es fs : List (K × V)) (as' bs ks ls : List ℕ) → Sized T → Pairs T p i l r us e ws es fs as' bs ks ls
    → res ≡ Ok (record { node = p; idx = i; len = length (us ++ e ∷ ws); left = l; left_len = length es; right = r; right_len = length fs })

abbrev pub Steals : {K V : Type 0} → Side → Tables K V → Tables K V → ℕ → ℕ → ℕ → ℕ → Result (Unit {0}) Fault → Type 0
Steals First T T' h p i n res = StealsRight T T' h p i n res
Steals Last T T' h p i n res = StealsLeft T T' h p i n res

-- what is answered where they were merged, by what the merge answered
abbrev pub merge_answer : Result (ℕ × ℕ) Fault → Result (ℕ × Option ℕ) Fault
merge_answer (Ok y) = Ok (y.0, Some y.1)
merge_answer (Err f) = Err f

-- and where entries went over to child c
abbrev pub steal_answer : ℕ → Result (Unit {0}) Fault → Result (ℕ × Option ℕ) Fault
steal_answer c (Ok u) = Ok (c, None)
steal_answer c (Err f) = Err f

abbrev pub JoinsAs : {K V : Type 0} → Choice → Side → Tables K V → Tables K V → ℕ → ℕ → ℕ → ℕ → ℕ → Result (ℕ × Option ℕ) Fault → Type 0
JoinsAs Merge s T T' h p i l r res = (m : Result (ℕ × ℕ) Fault) × Merges T T' h p i m × (res ≡ merge_answer m)
JoinsAs (Move n) s T T' h p i l r res = (m : Result (Unit {0}) Fault) × Steals s T T' h p i n m × (res ≡ steal_answer (at_side s l r) m)
JoinsAs Leave s T T' h p i l r res = (T' ≡ T) × (res ≡ Ok (at_side s l r, None))

unfoldable pub JoinsChildren : {K V : Type 0} → Side → Tables K V → Tables K V → ℕ → ℕ → ℕ → Result (ℕ × Option ℕ) Fault → Type 0
JoinsChildren {K} {V} s T T' h p i res =
    (l r : ℕ) (us : List (K × V)) (e : K × V) (ws es fs : List (K × V)) (as' bs ks ls : List ℕ) → Sized T → Pairs T p i l r us e ws es fs as' bs ks ls
    → JoinsAs (choice s (length es) (length fs)) s T T' h p i l r res
