-- What a call through plain fields does.
--   blend n          the key with this number
--   by_number        the order of the keys
--   Serves           where the fields are not those of a bank, it is refused with number 65535, and nothing has changed; else they are so afterwards
--                    too, the number is another, and all that a call of a bank promises holds of the states before and after, and of the reply
--   ServesLayout     the same of laying out
use Rattle.std.specs.Prelude.{◌≡◌, ℕ, ◌<◌}
use Rattle.std.specs.declared.cmp.Ordering.{Ordering}
use Rattle.std.specs.Ordering.{nat_cmp}
use Rattle.order.specs.declared.blend.BlendNumber.{BlendNumber}
use Rattle.node.specs.Store.{Tables}
use Rattle.calls.specs.declared.calls.Answer.{Answer}
use Rattle.calls.specs.Asking.{Asked}
use Rattle.bank.specs.Calls.{Performs}
use Rattle.bank.specs.Layout.{LaysOut}
use Rattle.bank_c.specs.declared.plain.PlainBank.{PlainBank}
use Rattle.bank_c.specs.declared.replies.Verdict.{Verdict}
use Rattle.bank_c.specs.Plain.{IsBank, state}
use Rattle.bank_c.specs.Replies.{told_by, not_a_bank}

abbrev pub blend : ℕ → BlendNumber
blend n = record { number = n }

abbrev pub by_number : BlendNumber → BlendNumber → Ordering
by_number a b = nat_cmp a.number b.number

pub record Serves (c : Asked BlendNumber ℕ) (b b' : PlainBank) (T T' : Tables BlendNumber ℕ) (v : Verdict) (x : Answer BlendNumber ℕ) : Type 0 where
  pub foreign : (IsBank b → ⊥) → (v ≡ not_a_bank) × (b' ≡ b) × (T' ≡ T)
  pub stays : IsBank b → IsBank b'
  pub numbered : IsBank b → v.code < 65535
  pub performs : IsBank b → Performs by_number c (state b T) (state b' T') (told_by v x)

pub record ServesLayout (b b' : PlainBank) (T : Tables BlendNumber ℕ) (v : Verdict) : Type 0 where
  pub foreign : (IsBank b → ⊥) → (v ≡ not_a_bank) × (b' ≡ b)
  pub stays : IsBank b → IsBank b'
  pub numbered : IsBank b → v.code < 65535
  pub lays_out : IsBank b → LaysOut by_number (state b T) (state b' T) (told_by v tt)
