use Rattle.bank.proofs.Meetings.{agreeing, pointing, met_any}
use Rattle.bank.proofs.bank.Bank.perform.Goals as goal

pub returns-clause-keeps : goal.returns-clause-keeps
returns-clause-keeps g c bs f m = met_any g.met.K.KeyOrder.ordered _ _ bs m _ _ f c.dispatch.ensures.does

pub returns-clause-agrees : goal.returns-clause-agrees
returns-clause-agrees g c = agreeing g.met.P.Query.placed g.met.Q.Query.placed c.args.call.now

pub returns-clause-points : goal.returns-clause-points
returns-clause-points g c = pointing g.Q.Placing.places g.met.P.Query.placed g.met.P.PointQuery.pointed c.args.call.now
