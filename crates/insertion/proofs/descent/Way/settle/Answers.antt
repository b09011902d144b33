use Rattle.std.proofs.Common.{◌<◌, length, refl, arith}
use Rattle.node.specs.Shape.{mk}
use Rattle.node.proofs.Tabled.{err_not_ok}
use Rattle.node.proofs.Frames.{held_not_strange}
use Rattle.insertion.specs.Grew.{seated}
use Rattle.insertion.specs.Descent.{Settles}
use Rattle.insertion.proofs.Settled.{held_long, settled_fit}
use Rattle.insertion.proofs.descent.Way.settle.Goals as goal

pub returns-in_err-len : goal.returns-in_err-len
unfolding Settles
returns-in_err-len g c es ks new sized fits w others low comes owned =
    absurd (held_not_strange _ c.args.self.node.height c.args.self.node.node (mk c.args.self.node.node es (seated c.args.idx new ks)) sized w refl c.in_err-len.ensures.1)

pub returns-in_err-insert_fit : goal.returns-in_err-insert_fit
unfolding Settles
returns-in_err-insert_fit g c es ks new sized fits w others low comes owned =
    let n = held_long _ c.args.self.node.height c.args.self.node.node es (seated c.args.idx new ks) refl c.in_ok-len.ensures w in
    absurd (err_not_ok _ _ (settled_fit _ _ (g.S.Supply.stock c.args.supply.now) c.args.self.node.height c.args.self.node.node c.args.idx (c.args.key, c.args.val) c.args.edge es ks new sized fits w others low comes owned
    0 _ (omega (arith, c.if-len-lt-CAPACITY.true, n)) c.in_err-insert_fit.ensures.inserts).0)

pub returns-then-len-lt-CAPACITY : goal.returns-then-len-lt-CAPACITY
unfolding Settles
returns-then-len-lt-CAPACITY g c es ks new sized fits w others low comes owned =
    let n = held_long _ c.args.self.node.height c.args.self.node.node es (seated c.args.idx new ks) refl c.in_ok-len.ensures w in
    let l : length es < 11 = omega (arith, c.if-len-lt-CAPACITY.true, n) in
    record {
      fits = λ _ fresh. (settled_fit _ _ (g.S.Supply.stock c.args.supply.now) c.args.self.node.height c.args.self.node.node c.args.idx (c.args.key, c.args.val) c.args.edge es ks new sized fits w others low comes owned
          fresh _ l c.in_ok-insert_fit.ensures.inserts).1;
      declined = λ f _. absurd (omega arith);
      splits = λ f _. absurd (omega arith);
    }
