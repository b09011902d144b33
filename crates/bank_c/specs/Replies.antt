-- What a reply of plain fields says.
--   optional b x     x, or nothing where the flag is not set
--   declined v       a refusal by its number, with the values that go with it
--   told_by v x      the answer x where the verdict is 0, else the refusal
--   Refuses v c      the verdict is the refusal c
--   not_a_bank       the verdict where the fields are not those of a bank
use Rattle.std.specs.Prelude.{◌≡◌, ◌<◌, Bool, cond, nat_eq, [], ◌∷◌, Some, None, Ok, Err, Option, Result}
use Rattle.calls.specs.Refusals.{Code}
use Rattle.bank_c.specs.declared.replies.Verdict.{Verdict}

abbrev pub optional : {X : Type 0} → Bool → X → Option X
optional b x = cond b (Some x) None

abbrev pub declined : Verdict → Code
declined v = (v.code, cond (nat_eq v.code 6) (v.needed ∷ v.allowance ∷ []) [])

abbrev pub told_by : {X : Type 0} → Verdict → X → Result X Code
told_by v x = cond (nat_eq v.code 0) (Ok x) (Err (declined v))

abbrev pub not_a_bank : Verdict
not_a_bank = record { code = 65535; needed = 0; allowance = 0 }

pub record Refuses (v : Verdict) (c : Code) : Type 0 where
  pub some : 0 < v.code
  pub most : v.code < 65535
  pub code_is : declined v ≡ c
