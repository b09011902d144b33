use Rattle.std.proofs.Common.{sym, arith}
use Rattle.trial.proofs.Trials.{returned}
use Rattle.trial.proofs.TrialSupply.give_back.Goals as goal

pub returns-clause-given : goal.returns-clause-given
returns-clause-given c =
    let s = c.args.self.now in
    returned s.size s.order s.out s.fits (omega arith) (omega arith) c.args.node (sym c.if-not-is_out.ensures)
