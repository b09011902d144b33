-- Theorems on steps, and on what is shown of a tree.
--   TakenOff        the entry e stood at end s of the tree, and t' is the rest
--   StepTakes       a step hands out what stands at its end, and leaves the rest
--   StepEnds        there is none exactly where nothing is left
--   StepsPart       whatever the order of the ends: what came from the front, what is left, and what came from the back, put back, are the old entries
--   Forward, Backward   n steps at one end hand out all entries, in order or in the reverse order, and nothing is left
--   StepsForward, StepsBackward   so do as many steps as there are entries
--   ShownFrame      tables that agree on the nodes that are shown, up to the link of the top, show the same
--   WalkBeside      a walk that stands beside what changes is still one
--   Whole           the tables hold the tree, and it has the form that a tree has
--   ShownWhole      between no edges a tree is shown just where it is whole
use Rattle.std.specs.Prelude.{◌≡◌, ℕ, ◌+◌, ◌<◌, ◌≤◌, List, [], ◌++◌, reverse, length, replicate, Some, None}
use Rattle.node.specs.declared.ends.Side.{Side}
use Rattle.node.specs.declared.ends.Side.TheVariants.{First, Last}
use Rattle.supply.specs.Stocks.{Stock}
use Rattle.node.specs.Balance.{mark, Balanced, Beside}
use Rattle.node.specs.Laws.{occurs, below}
use Rattle.node.specs.Shape.{Tree, flat, Within}
use Rattle.node.specs.Store.{Tables, SameBody, SameLink, Holds}
use Rattle.walk.specs.declared.walks.Walk.{Walk}
use Rattle.walk.specs.Steps.{cons, step, steps, Fanned}
use Rattle.walk.specs.Walks.{Walks}
use Rattle.walk.specs.Window.{Bounds, bounds, Shown}

pub record TakenOff {E : Type 0} (s : Side) (h : ℕ) (t : Tree E) (e : E) (t' : Tree E) : Type 0 where
  pub flat_is : flat h t ≡ cons s e (flat h t')
  pub fanned : Fanned h t'

abbrev pub StepTakes : Type 0 → Type 0
StepTakes E = (s : Side) (h : ℕ) (t : Tree E) (e : E) (t' : Tree E) → Fanned h t → step s h t ≡ Some (e, t') → TakenOff s h t e t'

abbrev pub StepEnds : Type 0 → Type 0
StepEnds E = (s : Side) (h : ℕ) (t : Tree E) → Fanned h t → (step s h t ≡ None → flat h t ≡ []) × (flat h t ≡ [] → step s h t ≡ None)

abbrev pub StepsPart : Type 0 → Type 0
StepsPart E = (ss : List Side) (h : ℕ) (t : Tree E) → Fanned h t → flat h t ≡ (steps ss h t).fronts ++ (flat h (steps ss h t).left ++ reverse (steps ss h t).backs)

pub record Forward {E : Type 0} (n h : ℕ) (t : Tree E) : Type 0 where
  pub all : (steps (replicate n First) h t).fronts ≡ flat h t
  pub none_left : flat h (steps (replicate n First) h t).left ≡ []

pub record Backward {E : Type 0} (n h : ℕ) (t : Tree E) : Type 0 where
  pub all : (steps (replicate n Last) h t).backs ≡ reverse (flat h t)
  pub none_left : flat h (steps (replicate n Last) h t).left ≡ []

abbrev pub StepsForward : Type 0 → Type 0
StepsForward E = (n h : ℕ) (t : Tree E) → Fanned h t → length (flat h t) ≤ n → Forward n h t

abbrev pub StepsBackward : Type 0 → Type 0
StepsBackward E = (n h : ℕ) (t : Tree E) → Fanned h t → length (flat h t) ≤ n → Backward n h t

abbrev pub ShownFrame : Type 0 → Type 0 → Type 0
ShownFrame K V =
    (T T' : Tables K V) (least : ℕ) (b : Bounds) (h : ℕ) (t : Tree (K × V)) → length T'.heads ≡ length T.heads
    → ((x : ℕ) → 0 < occurs x h t → SameBody T T' x) → ((x : ℕ) → 0 < below x h t → SameLink T T' x) → Shown T least b h t → Shown T' least b h t

abbrev pub WalkBeside : Type 0 → Type 0 → Type 0
WalkBeside K V =
    (T T' : Tables K V) (S S' : Stock) (f g : ℕ → ℕ) (h : ℕ) (t : Tree (K × V)) (w : Walk) → Beside T T' S f → Balanced S S' f g
    → ((x : ℕ) → f x + occurs x h t ≤ mark S x) → Walks T S h t w → Walks T' S' h t w

pub record Whole {K V : Type 0} (T : Tables K V) (least h : ℕ) (t : Tree (K × V)) : Type 0 where
  pub holds : Holds T h t
  pub within : Within least h t

abbrev pub ShownWhole : Type 0 → Type 0 → Type 0
ShownWhole K V = (T : Tables K V) (least h : ℕ) (t : Tree (K × V)) → (Whole T least h t → Shown T least (bounds None None) h t) × (Shown T least (bounds None None) h t → Whole T least h t)
