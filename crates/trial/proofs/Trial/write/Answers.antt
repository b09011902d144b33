use Rattle.trial.proofs.Trial.write.Goals as goal

pub begun-requires-clause-each : goal.begun-requires-clause-each
begun-requires-clause-each c = c.is_each_once.ensures.0 c.if-not-is_each_once.false

pub returns : goal.returns
returns c = record {
  short = c.if-list.false;
  each = c.is_each_once.ensures.0 c.if-not-is_each_once.false;
  order_is = c.begun.ensures.order;
  unused = c.begun.ensures.unused;
}
