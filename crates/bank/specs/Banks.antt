-- A bank with the tables that its caller passes, as one state.
--   state_of stock b T   the bank b with the tables T; `stock` is the meaning of its supply
use Rattle.supply.specs.Stocks.{Stock}
use Rattle.node.specs.Store.{Tables}
use Rattle.books.specs.States.{State}
use Rattle.bank.specs.declared.bank.Bank.{Bank}

abbrev pub state_of : {S K V : Type 0} → (S → Stock) → Bank S → Tables K V → State K V
state_of stock b T = record { tables = T; size = b.size; places = b.register.places; stock = stock b.supply }
