-- Insertion into a whole tree, or into an empty place.
--   Planted      the tables hold a tree p, with its height, that came of the part f; n numbers were taken, and all else is as it was
--   Begins       the first entry of an empty place
--   Crowns       a root put above two trees, with an entry between them
--   Enters       an entry put into a tree: a value replaced, the entry put in by the rule, or refused with nothing changed
use Rattle.node.specs.Kinds.{root_of}
use Rattle.std.specs.Prelude.{◌≡◌, ℕ, suc, ◌+◌, ◌<◌, ◌≤◌, [], ◌∷◌, length, Some, None, Ok, Err, Option, Result}
use Rattle.std.specs.declared.cmp.Ordering.{Ordering}
use Rattle.std.specs.Ordering.{is_gt}
use Rattle.supply.specs.declared.faults.Fault.{Fault}
use Rattle.supply.specs.declared.faults.Fault.TheVariants.{Short}
use Rattle.supply.specs.Stocks.{Stock, size_of}
use Rattle.node.specs.declared.nodes.NodeRef.{NodeRef}
use Rattle.node.specs.Shape.{Tree, number, mk}
use Rattle.node.specs.Store.{Tables, Sized, Holds, first, second}
use Rattle.node.specs.Laws.{occurs}
use Rattle.node.specs.Balance.{mark, Owns, Rooted, Balanced, Beside, Unchanged}
use Rattle.rules.specs.Rules.{insert, need}
use Rattle.map.specs.Lookup.{seek}
use Rattle.insertion.specs.Descent.{Swapped}

pub record Planted {K V : Type 0} (T T' : Tables K V) (S S' : Stock) (f : ℕ → ℕ) (p : ℕ × Tree (K × V)) (n : ℕ) : Type 0 where
  pub held : Holds T' p.0 p.1
  pub root : Rooted T' (number p.1)
  pub balance : Balanced S S' f (λ x. occurs x p.0 p.1)
  pub beside : Beside T T' S f
  pub taken : S.allowance ≡ S'.allowance + n

pub record Begun {K V : Type 0} (T T' : Tables K V) (S S' : Stock) (e : K × V) (r : Result NodeRef Fault) : Type 0 where
  pub declined : S.allowance < 1 → (r ≡ Err (Short 1 S.allowance)) × Unchanged T T' S S'
  pub granted : 1 ≤ S.allowance → (m : ℕ) × (r ≡ Ok (root_of {E = K × V} (0, mk m (e ∷ []) []))) × Planted T T' S S' (λ _. 0) (0, mk m (e ∷ []) []) 1

abbrev pub Begins : {K V : Type 0} → Tables K V → Tables K V → Stock → Stock → (K × V) → Result NodeRef Fault → Type 0
Begins T T' S S' e r = Sized T → size_of S ≡ length T.heads → Begun T T' S S' e r

unfoldable pub Crowns : {K V : Type 0} → Tables K V → Tables K V → Stock → Stock → ℕ → ℕ → (K × V) → ℕ → Result NodeRef Fault → Type 0
Crowns {K} {V} T T' S S' h m x c r =
    (l y : Tree (K × V)) → Sized T → size_of S ≡ length T.heads → Holds T h l → Holds T h y → number l ≡ m → number y ≡ c → ((z : ℕ) → occurs z h l + occurs z h y ≤ mark S z) → 1 ≤ S.allowance
    → (top : ℕ) × (r ≡ Ok (root_of {E = K × V} (suc h, mk top (x ∷ []) (l ∷ y ∷ [])))) × Planted T T' S S' (λ z. occurs z h l + occurs z h y) (suc h, mk top (x ∷ []) (l ∷ y ∷ [])) 1

pub record Entered {K V : Type 0} (place : (K × V) → Ordering) (T T' : Tables K V) (S S' : Stock) (h : ℕ) (e : K × V) (t : Tree (K × V)) (r : Result (NodeRef × Option V) Fault) : Type 0 where
  pub replaced : (x : K × V) → seek place h t ≡ Some x → (r ≡ Ok (root_of (h, t), Some (second x))) × Swapped place T T' S S' h (second e) t
  pub declined : seek place h t ≡ None → S.allowance < need (λ y. is_gt (place y)) h t
      → (r ≡ Err (Short (need (λ y. is_gt (place y)) h t) S.allowance)) × Unchanged T T' S S'
  pub granted : seek place h t ≡ None → need (λ y. is_gt (place y)) h t ≤ S.allowance
      → (fresh : ℕ → ℕ) × (top : ℕ) × (r ≡ Ok (root_of (insert fresh top (λ y. is_gt (place y)) e h t), None))
      × Planted T T' S S' (λ x. occurs x h t) (insert fresh top (λ y. is_gt (place y)) e h t) (need (λ y. is_gt (place y)) h t)

unfoldable pub Enters : {K V : Type 0} → (K → Ordering) → Tables K V → Tables K V → Stock → Stock → ℕ → ℕ → (K × V) → Result (NodeRef × Option V) Fault → Type 0
Enters {K} {V} place T T' S S' h m e r =
    (t : Tree (K × V)) → Owns T S h t → Rooted T m → number t ≡ m → h ≤ 5 → Entered (λ y. place (first y)) T T' S S' h e t r
