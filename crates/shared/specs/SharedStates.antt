-- A bank for two callers, who are served by turns.
--   CallerState       what one caller has: its places, and the supply as it means it
--   SharedState       the tables and their size, which are for both callers; who is served; and what each has
--   of_caller d n     what caller n has
--   view d n          the bank as caller n means it
--   other n           the other caller's number
--   Unbegun a         a caller has nothing yet
--   shared_of         the state over a shared supply, of which caller c is served
use Rattle.std.specs.Prelude.{◌≡◌, ℕ, Bool, cond, nat_eq, List, replicate}
use Rattle.supply.specs.Stocks.{Stock, outs_of}
use Rattle.supply.specs.Shares.{share_stock}
use Rattle.node.specs.Store.{Tables}
use Rattle.books.specs.declared.places.Place.{Place}
use Rattle.books.specs.declared.places.Place.TheVariants as P
use Rattle.books.specs.States.{State}

pub record CallerState : Type 0 where
  pub places : List Place
  pub stock : Stock

pub record SharedState (K V : Type 0) : Type 0 where
  pub tables : Tables K V
  pub size : ℕ
  pub served : ℕ
  pub first : CallerState
  pub second : CallerState

abbrev pub of_caller : {K V : Type 0} → SharedState K V → ℕ → CallerState
of_caller d n = cond (nat_eq n 0) d.first d.second

abbrev pub view : {K V : Type 0} → SharedState K V → ℕ → State K V
view d n = record { tables = d.tables; size = d.size; places = (of_caller d n).places; stock = (of_caller d n).stock }

abbrev pub other : ℕ → ℕ
other n = cond (nat_eq n 0) 1 0

pub record Unbegun (a : CallerState) : Type 0 where
  pub none_out : outs_of a.stock ≡ 0
  pub bare : a.places ≡ replicate 16 P.Bare

abbrev pub caller_state : List Place → Stock → CallerState
caller_state ps S = record { places = ps; stock = S }

-- over the supply B, of size n: caller c is served, with the places ps, the limit l and the marks m; the other has ps', l' and m'
abbrev pub shared_of : {K V : Type 0} → Tables K V → ℕ → ℕ → List Place → List Place → Stock → ℕ → ℕ → List Bool → ℕ → List Bool → SharedState K V
shared_of T size c ps ps' B n l m l' m' =
    let here : CallerState = caller_state ps (share_stock B n c l m l' m') in
    let there : CallerState = caller_state ps' (share_stock B n (other c) l' m' l m) in
    record { tables = T; size = size; served = c; first = cond (nat_eq c 0) here there; second = cond (nat_eq c 0) there here }
