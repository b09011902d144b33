use Rattle.order.proofs.Wide.{day_wide, days_worked}
use Rattle.order.proofs.day.day_stands.Goals as goal

pub returns-clause-wide : goal.returns-clause-wide
returns-clause-wide c = day_wide

pub returns-clause-worked : goal.returns-clause-worked
returns-clause-worked c = days_worked
