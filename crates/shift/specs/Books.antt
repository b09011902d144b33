-- The books of a works.
--   books_of stock w            the bank of a works with the tables, as one state; `stock` is the meaning of its supply
--   shared_books_of ghosts w    the same of a bank for two callers; `ghosts` has the meaning of the supply
use Rattle.supply.specs.Stocks.{Stock}
use Rattle.node.specs.Store.{tables}
use Rattle.books.specs.States.{State}
use Rattle.bank.specs.Banks.{state_of}
use Rattle.order.specs.declared.stamp.BatchStamp.{BatchStamp}
use Rattle.order.specs.declared.values.BatchRecord.{BatchRecord}
use Rattle.supply.specs.declared.Supply.{Ghosts}
use Rattle.shared.specs.SharedStates.{SharedState}
use Rattle.shared.specs.SharedBanks.{state_of as shared_state_of}
use Rattle.shift.specs.declared.works.Works.{Works}
use Rattle.shift.specs.declared.tasting.SharedWorks.{SharedWorks}

abbrev pub books_of : {S : Type 0} → (S → Stock) → Works S → State BatchStamp BatchRecord
books_of stock w = state_of stock w.bank (tables w.heads w.keys w.values)

abbrev pub shared_books_of : {S : Type 0} (ghosts : Ghosts S) → SharedWorks S ghosts → SharedState BatchStamp BatchRecord
shared_books_of ghosts w = shared_state_of ghosts w.bank (tables w.heads w.keys w.values)
