use Rattle.std.proofs.Common.{◌≡◌, length, eqb, eqb-true, ap, sym, subst, arith}
use Rattle.walk.specs.Window.{bounds}
use Rattle.audit.specs.Passes.{trail, Passable}
use Rattle.audit.proofs.Planted.{run_of, tree_sound, tree_passes, tree_whole}
use Rattle.audit.proofs.audits.shows.Goals as goal

pub returns-in-Some-clause-sound : goal.returns-in-Some-clause-sound
returns-in-Some-clause-sound g c = λ e.
    tree_sound g.K.KeyOrder.compares c.args.tables.now (bounds c.args.front c.args.back) c.args.root c.args.count c.args.met.now c.pass.new.met c.pass.new.run g.met.K.KeyOrder.ordered
    (subst (λ l. Passable g.K.KeyOrder.compares c.args.tables.now l (bounds c.args.front c.args.back) c.args.root.height c.args.root.node (trail c.args.met.now (run_of c.args.count))) c.least_at.ensures c.in-Some.ensures.0)
    c.in-Some.ensures.1 (eqb-true c.pass.new.run.left 0 e)

pub returns-in-Some-clause-whole : goal.returns-in-Some-clause-whole
returns-in-Some-clause-whole g c = λ t sz w u.
    let room : length c.args.met.now.nodes ≡ 4096 = omega arith in
    let d =
    tree_whole g.K.KeyOrder.compares c.args.tables.now (bounds c.args.front c.args.back) c.args.root c.args.count c.args.met.now c.pass.new.met c.pass.new.run sz room t w u c.in-Some.ensures.1 in
    (ap (λ n. eqb n 0) d.0, d.1)

pub returns-in-None-clause-whole : goal.returns-in-None-clause-whole
returns-in-None-clause-whole g c = λ t sz w u.
    let room : length c.args.met.now.nodes ≡ 4096 = omega arith in
    absurd (c.in-None.ensures
    (subst (λ l. Passable g.K.KeyOrder.compares c.args.tables.now l (bounds c.args.front c.args.back) c.args.root.height c.args.root.node (trail c.args.met.now (run_of c.args.count))) (sym c.least_at.ensures)
    (tree_passes g.K.KeyOrder.compares c.args.tables.now (bounds c.args.front c.args.back) c.args.root c.args.count c.args.met.now c.pass.new.met c.pass.new.run sz room t w u).0))
