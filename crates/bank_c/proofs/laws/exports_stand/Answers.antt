use Rattle.std.specs.Cmp.{nat_cmp_total, on_total}
use Rattle.order.specs.Among.{from_total}
use Rattle.bank.proofs.Meetings.{met_any}
use Rattle.bank_c.specs.Plain.{state}
use Rattle.bank_c.specs.Replies.{told_by}
use Rattle.bank_c.proofs.laws.exports_stand.Goals as goal

pub returns : goal.returns
returns c = λ call b b' T T' v x is s bs f m. met_any (from_total (on_total (λ b. b.number) nat_cmp_total)) (state b T) call bs m (state b' T') (told_by v x) f (s.performs is)
