use Rattle.std.proofs.Common.{◌<◌, arith}
use Rattle.trial.proofs.Trials.{listed_at, listed_below, next_at, unused_at, all_out}
use Rattle.trial.proofs.Trial.first_unused.Goals as goal

pub bounds-self-node : goal.bounds-self-node
bounds-self-node c =
    let s = c.args.self.now in
    let i = c.loop-node.node-index in
    let q : i < s.size = omega arith in
    omega (arith, listed_at s.size s.order s.out s.fits (omega arith) (omega arith) i q, listed_below s.size s.order s.out s.fits (omega arith) (omega arith) s.each i q)

pub returns-then-not-self-node-clause-first : goal.returns-then-not-self-node-clause-first
returns-then-not-self-node-clause-first c =
    let s = c.args.self.now in
    next_at s.size s.order s.out s.fits (omega arith) (omega arith) s.each c.loop-node.node-index (omega arith) c.loop-node.invariant

pub returns-then-not-self-node-clause-unused : goal.returns-then-not-self-node-clause-unused
returns-then-not-self-node-clause-unused c =
    let s = c.args.self.now in
    unused_at s.size s.order s.out s.fits (omega arith) (omega arith) s.each c.loop-node.node-index (omega arith) c.if-not-self-node.true

pub returns-clause-first : goal.returns-clause-first
returns-clause-first c =
    let s = c.args.self.now in
    all_out s.size s.order s.out s.fits (omega arith) (omega arith) s.each (λ i q. c.loop-node.invariant i (omega arith))
