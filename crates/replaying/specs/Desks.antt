-- The bank of a desk.
--   books_of stock d            the bank of a desk with its tables, as one state; `stock` is the meaning of its supply
--   shared_books_of d           the same of a bank for two callers
use Rattle.std.specs.Prelude.{ℕ}
use Rattle.supply.specs.Stocks.{Stock}
use Rattle.supply.specs.declared.links.Chain.{Chain}
use Rattle.node.specs.Store.{tables}
use Rattle.books.specs.States.{State}
use Rattle.bank.specs.Banks.{state_of}
use Rattle.order.specs.declared.blend.BlendNumber.{BlendNumber}
use Rattle.replaying.specs.declared.desk.Desk.{Desk}
use Rattle.replaying.specs.declared.shared_desk.SharedDesk.{SharedDesk}
use Rattle.supply.specs.contracts.links.ChainSupply.TheImpl.{ghosts}
use Rattle.shared.specs.SharedStates.{SharedState}
use Rattle.shared.specs.SharedBanks.{state_of as shared_state_of}

abbrev pub books_of : (Chain → Stock) → Desk → State BlendNumber ℕ
books_of stock d = state_of stock d.bank (tables d.tables.heads.items d.tables.keys.items d.tables.values.items)

abbrev pub shared_books_of : SharedDesk → SharedState BlendNumber ℕ
shared_books_of d = shared_state_of ghosts d.bank (tables d.tables.heads.items d.tables.keys.items d.tables.values.items)
