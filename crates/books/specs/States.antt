-- A bank with the tables that its caller passes, and what it is for them to be in good form.
--   State              the tables, the number of nodes, the register's places and the supply
--   Models s bs        each place holds its book, the counts and the order are true, and the numbers out are exactly the nodes of the books,
--                      each in one alone; where the bank has nodes, it has as many as the supply has numbers
--   GoodForm s         there are such books
use Rattle.std.specs.Prelude.{◌≡◌, ℕ, ◌<◌, List, length}
use Rattle.std.specs.declared.cmp.Ordering.{Ordering}
use Rattle.supply.specs.Stocks.{Stock, size_of}
use Rattle.node.specs.Balance.{mark}
use Rattle.node.specs.Shape.{total}
use Rattle.node.specs.Store.{Tables, Sized}
use Rattle.books.specs.declared.places.Place.{Place}
use Rattle.books.specs.Places.{place_in}
use Rattle.books.specs.Books.{Book, book_in, uses, BookAt}

pub record State (K V : Type 0) : Type 0 where
  pub tables : Tables K V
  pub size : ℕ
  pub places : List Place
  pub stock : Stock

pub record Models {K V : Type 0} (compares : K → K → Ordering) (s : State K V) (bs : List (Book (K × V))) : Type 0 where
  pub sized : Sized s.tables
  pub size_is : s.size ≡ length s.tables.heads
  pub fits : 0 < s.size → size_of s.stock ≡ s.size
  pub sixteen : length bs ≡ 16
  pub held : (p : ℕ) → p < 16 → BookAt compares s.tables (place_in s.places p) (book_in bs p)
  pub numbers : (x : ℕ) → total (uses x) bs ≡ mark s.stock x

abbrev pub GoodForm : {K V : Type 0} → (K → K → Ordering) → State K V → Type 0
GoodForm {K} {V} compares s = (bs : List (Book (K × V))) × Models compares s bs
