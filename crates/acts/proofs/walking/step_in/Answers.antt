use Rattle.acts.proofs.Handing.{steps_done, steps_lost}
use Rattle.acts.proofs.walking.step_in.Goals as goal

pub returns-in_err-handed : goal.returns-in_err-handed
returns-in_err-handed g c =
    steps_lost g.K.KeyOrder.compares c.args.tables.now c.args.side _ _ c.args.walk c.step.new.self c.in_err-handed.field-0.0 c.in_err-handed.ensures c.from_residual.result

pub returns : goal.returns
returns g c = steps_done g.K.KeyOrder.compares c.args.tables.now c.args.side _ _ c.args.walk c.step.new.self c.in_ok-handed.handed c.in_ok-handed.ensures
