-- A bank for two callers as a state; `ghosts` has the meaning of the supply below.
--   state_of       the bank with the tables that are passed to it
--   caller_in      what one caller has in it, by its number
use Rattle.std.specs.Prelude.{ℕ, []}
use Rattle.supply.specs.declared.Supply.{Ghosts}
use Rattle.supply.specs.Callers.{caller_number}
use Rattle.node.specs.Store.{Tables}
use Rattle.shared.specs.declared.sharing.SharedBank.{SharedBank}
use Rattle.shared.specs.SharedStates.{CallerState, SharedState, of_caller, shared_of}

abbrev pub state_of : {S K V : Type 0} (ghosts : Ghosts S) → SharedBank S ghosts → Tables K V → SharedState K V
state_of ghosts b T =
    let s = b.bank.supply in
    shared_of T b.bank.size (caller_number s.caller) b.bank.register.places b.resting.places (ghosts.stock s.below) s.size s.served.limit s.served.marks s.other.limit s.other.marks

abbrev pub caller_in : {S : Type 0} (ghosts : Ghosts S) → SharedBank S ghosts → ℕ → CallerState
caller_in ghosts b n = of_caller (state_of {K = Unit {0}} {V = Unit {0}} ghosts b (record { heads = []; keys = []; values = [] })) n
