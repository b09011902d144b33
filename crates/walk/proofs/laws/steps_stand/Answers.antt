use Rattle.walk.proofs.Stepping.{step_takes, step_ends, steps_part, steps_forward, steps_backward}
use Rattle.walk.proofs.laws.steps_stand.Goals as goal

pub returns : goal.returns
returns g c = record { takes = step_takes; ends = step_ends; part = steps_part; forward = steps_forward; backward = steps_backward }
