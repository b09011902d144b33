-- Which kinds of places allow a call. `CutTo` is the second place of a cut, to which what is not below the query goes.
--   Kind, kind_of, kind_at    what stands in a place: nothing, a tree or a walk
--   allowed c k       a place of kind k allows a call of kind c
--   HoldsTree p r     r is the tree that stands in place p; none stands in a bare place or a walk
use Rattle.std.specs.Prelude.{◌≡◌, ℕ, Bool, true, false, Option, MatchOption}
use Rattle.node.specs.declared.nodes.NodeRef.{NodeRef}
use Rattle.books.specs.declared.places.Place.{Place}
use Rattle.books.specs.declared.places.Place.TheVariants as P
use Rattle.books.specs.Books.{Book, bare, planted, walked, idle}
use Rattle.books.specs.declared.places.CallKind.{CallKind}
use Rattle.books.specs.declared.places.CallKind.TheVariants.{Insert, Lookup, Least, Count, Cut, CutTo, Open, Step, Close, Release}

pub data Kind : Type 0 where
  nothing : Kind
  tree : Kind
  walk : Kind

abbrev pub kind_of : {E : Type 0} → Book E → Kind
kind_of bare = nothing
kind_of (planted h t) = tree
kind_of (walked h t) = walk
kind_of idle = walk

abbrev pub kind_at : Place → Kind
kind_at P.Bare = nothing
kind_at (P.Tree root count) = tree
kind_at (P.Walk w) = walk

abbrev pub is_map : Kind → Bool
is_map nothing = true
is_map tree = true
is_map walk = false

abbrev pub is_walk : Kind → Bool
is_walk nothing = false
is_walk tree = false
is_walk walk = true

abbrev pub is_bare : Kind → Bool
is_bare nothing = true
is_bare tree = false
is_bare walk = false

abbrev pub any_kind : Kind → Bool
any_kind nothing = true
any_kind tree = true
any_kind walk = true

abbrev pub allowed : CallKind → Kind → Bool
allowed Insert = is_map
allowed Lookup = is_map
allowed Least = is_map
allowed Count = any_kind
allowed Cut = is_map
allowed CutTo = is_bare
allowed Open = is_map
allowed Step = is_walk
allowed Close = is_walk
allowed Release = is_map

abbrev pub HoldsTree : Place → Option (NodeRef × ℕ) → Type 0
HoldsTree p r = MatchOption r ((root : NodeRef) (count : ℕ) → p ≡ P.Tree root count → ⊥) (λ t. p ≡ P.Tree t.0 t.1)
