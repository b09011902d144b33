use Rattle.std.proofs.Common.{arith}
use Rattle.trial.proofs.Trials.{given}
use Rattle.trial.proofs.TrialSupply.take.Goals as goal

pub returns-clause-taken : goal.returns-clause-taken
returns-clause-taken c =
    let s = c.args.self.now in
    given s.size s.order s.out s.fits (omega arith) (omega arith) c.in-Some.node c.in-Some.ensures.unused.0 c.in-Some.ensures.unused.1
