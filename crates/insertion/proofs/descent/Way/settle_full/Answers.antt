use Rattle.std.proofs.Common.{◌≤◌, length, Err, refl, ap, ◌∙◌, arith}
use Rattle.node.proofs.Tabled.{err_not_ok, ok_same}
use Rattle.std.proofs.lemmas.Result.{err_from_is_err_and}
use Rattle.rules.proofs.Branches.{held_mk}
use Rattle.insertion.specs.Grew.{seated}
use Rattle.insertion.specs.Descent.{Settles}
use Rattle.insertion.proofs.Settled.{settled_full, retold}
use Rattle.insertion.proofs.descent.Way.settle_full.Goals as goal

pub returns-in_err-right : goal.returns-in_err-right
unfolding Settles
returns-in_err-right g c es ks new sized fits w others low comes owned =
    let n = (held_mk _ c.args.self.node.height c.args.self.node.node es (seated c.args.idx new ks) w).body.len_is in
    let l : 11 ≤ length es = omega (arith, c.requires, n) in
    let d = c.in_err-right.ensures in
    let p = err_from_is_err_and c.from_residual.result c.from_residual.ensures.1 in
    record {
      fits = λ f _. absurd (omega arith);
      declined = λ _ _. (p.1 ∙ ap Err (p.2 ∙ d.1), record { tables_same = refl; stock_same = d.2 });
      splits = λ _ f. absurd (omega (arith, d.0));
    }

pub returns-in_err-k : goal.returns-in_err-k
unfolding Settles
returns-in_err-k g c es ks new sized fits w others low comes owned =
    let n = (held_mk _ c.args.self.node.height c.args.self.node.node es (seated c.args.idx new ks) w).body.len_is in
    let l : 11 ≤ length es = omega (arith, c.requires, n) in
    absurd (err_not_ok _ _ (settled_full _ _ (g.S.Supply.stock c.args.supply.now) c.args.self.node.height c.args.self.node.node c.args.idx (c.args.key, c.args.val) c.args.edge es ks new sized fits w others low comes owned
    (g.S.Supply.stock c.take.new.supply) c.in_ok-right.right _ l c.in_ok-right.ensures.0 c.in_err-k.ensures.left c.in_err-k.ensures.right).0)

pub returns : goal.returns
unfolding Settles
returns g c es ks new sized fits w others low comes owned =
    let n = (held_mk _ c.args.self.node.height c.args.self.node.node es (seated c.args.idx new ks) w).body.len_is in
    let l : 11 ≤ length es = omega (arith, c.requires, n) in
    let d = settled_full _ _ (g.S.Supply.stock c.args.supply.now) c.args.self.node.height c.args.self.node.node c.args.idx (c.args.key, c.args.val) c.args.edge es ks new sized fits w others low comes owned
    (g.S.Supply.stock c.take.new.supply) c.in_ok-right.right _ l c.in_ok-right.ensures.0 c.in_ok-k.ensures.left c.in_ok-k.ensures.right in
    record {
      fits = λ f _. absurd (omega arith);
      declined = λ _ f. absurd (omega (arith, c.in_ok-right.ensures.1));
      splits = λ _ _. (c.in_ok-right.right, retold _ _ (ok_same _ _ d.0) d.1);
    }
