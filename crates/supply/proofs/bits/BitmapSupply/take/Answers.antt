use Rattle.std.proofs.Common.{refl, arith}
use Rattle.supply.proofs.Bitmaps.{take_none, take_some}
use Rattle.supply.proofs.bits.BitmapSupply.take.Goals as goal

pub returns-then-node-self-clause-taken : goal.returns-then-node-self-clause-taken
returns-then-node-self-clause-taken c =
    let s = c.args.self.now in
    record { none_left = take_none s.words s.size _ c.if-node-self.true c.lowest-node.ensures.before; reason = refl; same = refl }

pub returns-clause-taken : goal.returns-clause-taken
returns-clause-taken c =
    let s = c.args.self.now in
    take_some s.words _ s.size _ _ (omega arith) c.if-node-self.false c.flip.ensures.size c.lowest-node.ensures.here c.flip.ensures.turned
