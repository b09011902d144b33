-- A bank as plain fields.
--   place_of p       the place that the fields spell: kind 1 is a tree, 2 a walk, and any other a bare place
--   IsBank b         the fields are those of a bank: each kind is 0, 1 or 2, and the supply is a chain
--   state b T        the bank that the fields spell, with the caller's tables, as one state
--   Spells b n ps S  the fields are those of a bank, with this size, these places and this stock
use Rattle.std.specs.Prelude.{◌≡◌, ℕ, ◌≤◌, cond, nat_eq, All, List, map}
use Rattle.supply.specs.Rows.{Chained, link_stock}
use Rattle.supply.specs.Stocks.{Stock}
use Rattle.node.specs.Store.{Tables}
use Rattle.books.specs.declared.places.Place.{Place}
use Rattle.books.specs.declared.places.Place.TheVariants as P
use Rattle.books.specs.States.{State}
use Rattle.bank_c.specs.declared.plain.PlainPlace.{PlainPlace}
use Rattle.bank_c.specs.declared.plain.PlainBank.{PlainBank}

abbrev pub tree_of : PlainPlace → Place
tree_of p = P.Tree (record { node = p.root; height = p.height }) p.count

abbrev pub walk_of : PlainPlace → Place
walk_of p = P.Walk (record { front = record { node = p.front_node; idx = p.front_edge }; back = record { node = p.back_node; idx = p.back_edge }; left = p.count })

abbrev pub place_of : PlainPlace → Place
place_of p = cond (nat_eq p.kind 1) (tree_of p) (cond (nat_eq p.kind 2) (walk_of p) P.Bare)

pub record IsBank (b : PlainBank) : Type 0 where
  pub known : All (λ p. p.kind ≤ 2) b.places
  pub chained : Chained b.supply.size b.supply.left b.supply.head b.supply.links

abbrev pub state : {K V : Type 0} → PlainBank → Tables K V → State K V
state b T = record { tables = T; size = b.nodes; places = map place_of b.places; stock = link_stock b.supply.size b.supply.links }

pub record Spells (b : PlainBank) (size : ℕ) (places : List Place) (stock : Stock) : Type 0 where
  pub bank : IsBank b
  pub size_is : size ≡ b.nodes
  pub places_are : places ≡ map place_of b.places
  pub stock_is : stock ≡ link_stock b.supply.size b.supply.links
