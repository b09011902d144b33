-- What follows for runs of calls through plain fields.
--   ServesKeeps      a call that serves, granted or refused, keeps the books: over every run up to here, entries and nodes come out even
use Rattle.std.specs.Prelude.{ℕ}
use Rattle.order.specs.declared.blend.BlendNumber.{BlendNumber}
use Rattle.node.specs.Store.{Tables}
use Rattle.calls.specs.declared.calls.Answer.{Answer}
use Rattle.calls.specs.Asking.{Asked}
use Rattle.bank.specs.Calls.{Keeps}
use Rattle.bank_c.specs.declared.plain.PlainBank.{PlainBank}
use Rattle.bank_c.specs.declared.replies.Verdict.{Verdict}
use Rattle.bank_c.specs.Plain.{IsBank, state}
use Rattle.bank_c.specs.Replies.{told_by}
use Rattle.bank_c.specs.Serves.{by_number, Serves}

abbrev pub ServesKeeps : Type 0
ServesKeeps =
    (c : Asked BlendNumber ℕ) (b b' : PlainBank) (T T' : Tables BlendNumber ℕ) (v : Verdict) (x : Answer BlendNumber ℕ)
    → IsBank b → Serves c b b' T T' v x → Keeps by_number c (state b T) (state b' T') (told_by v x)
