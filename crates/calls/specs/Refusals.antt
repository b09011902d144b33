-- The number of a refusal, and the values that go with it.
--   Code   a number with values
--   code   that of a refusal
use Rattle.std.specs.Prelude.{ℕ, List, [], ◌∷◌}
use Rattle.calls.specs.declared.refusals.Refusal.{Refusal}
use Rattle.calls.specs.declared.refusals.Refusal.TheVariants.{Caller, Tables, Supply, Place, Kind, Breach, Short}

abbrev pub Code : Type 0
Code = ℕ × List ℕ

abbrev pub code : Refusal → Code
code Caller = (10, [])
code Tables = (1, [])
code Supply = (2, [])
code Place = (3, [])
code Kind = (4, [])
code Breach = (5, [])
code (Short needed allowance) = (6, needed ∷ allowance ∷ [])
