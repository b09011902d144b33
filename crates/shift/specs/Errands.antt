-- Errands to a node supply.
--   Carried     what was handed over for an errand that was carried out, and the stock before and after it
--   Left        why an errand was refused, and that the stock is as it was
--   Ran         what an errand does: it is Carried out or Left
--   tally_of    the counts of a stock
use Rattle.std.specs.Prelude.{Result, MatchResult}
use Rattle.supply.specs.Stocks.{Stock, size_of, outs_of, Given, Refused, Returned, Declined, GivenTwo, RefusedTwo}
use Rattle.supply.specs.declared.faults.Fault.{Fault}
use Rattle.shift.specs.declared.card.Errand.{Errand}
use Rattle.shift.specs.declared.card.Errand.TheVariants.{Take, TakeTwo, GiveBack}
use Rattle.shift.specs.declared.card.Handed.{Handed}
use Rattle.shift.specs.declared.card.Handed.TheVariants.{Nothing, One, Two}
use Rattle.shift.specs.declared.card.Tally.{Tally}

abbrev pub Carried : Stock → Stock → Errand → Handed → Type 0
Carried before after Take Nothing = ⊥
Carried before after Take (One n) = Given before after n
Carried before after Take (Two m n) = ⊥
Carried before after TakeTwo Nothing = ⊥
Carried before after TakeTwo (One n) = ⊥
Carried before after TakeTwo (Two m n) = GivenTwo before after m n
Carried before after (GiveBack n) Nothing = Returned before after n
Carried before after (GiveBack n) (One m) = ⊥
Carried before after (GiveBack n) (Two m l) = ⊥

abbrev pub Left : Stock → Stock → Errand → Fault → Type 0
Left before after Take fault = Refused before after fault
Left before after TakeTwo fault = RefusedTwo before after fault
Left before after (GiveBack n) fault = Declined before after n fault

abbrev pub Ran : Errand → Stock → Stock → Result Handed Fault → Type 0
Ran errand before after r = MatchResult r (Carried before after errand) (Left before after errand)

abbrev pub tally_of : Stock → Tally
tally_of s = record { size = size_of s; free = s.allowance; out = outs_of s }
