use Rattle.std.proofs.Common.{refl}
use Rattle.node.specs.Store.{tables}
use Rattle.node.proofs.Frames.{held_not_strange}
use Rattle.node.proofs.Tabled.{err_not_ok}
use Rattle.repair.specs.Repair.{Repairs, Strays}
use Rattle.repair.proofs.Repairing.{tops_not, mends_ok, repaired, breach_is}
use Rattle.repair.proofs.border.fix_border.Goals as goal

pub returns-in_err-check_root-clause-repairs : goal.returns-in_err-check_root-clause-repairs
unfolding Repairs
returns-in_err-check_root-clause-repairs g c = λ t o e z low.
    absurd (held_not_strange (tables c.args.heads.now c.args.keys.now c.args.values.now) c.args.root.height c.args.root.node t o.sized o.holds e c.in_err-check_root.ensures.2)

pub returns-in_err-check_root-clause-strays : goal.returns-in_err-check_root-clause-strays
unfolding Strays
returns-in_err-check_root-clause-strays g c = λ up strange.
    (breach_is c.from_residual.result _ c.from_residual.ensures.1 c.in_err-check_root.ensures.0, refl, refl)

pub returns-in_err-top-clause-repairs : goal.returns-in_err-top-clause-repairs
unfolding Repairs
returns-in_err-top-clause-repairs g c = λ t o e z low.
    let ks = c.args.keys.now in
    let vs = c.args.values.now in
    absurd (tops_not c.args.side (tables c.args.heads.now ks vs) (tables c.fix_top.new.heads ks vs)
    (g.S.Supply.stock c.args.supply.now) (g.S.Supply.stock c.fix_top.new.supply) c.args.root.height c.args.root.node _ (c.in_err-top.ensures ks vs) t o e z low)

pub returns-in_err-mend-clause-repairs : goal.returns-in_err-mend-clause-repairs
unfolding Repairs
returns-in_err-mend-clause-repairs g c = λ t o e z low.
    let ks = c.args.keys.now in
    let vs = c.args.values.now in
    absurd (err_not_ok _ _ (mends_ok c.args.side (tables c.args.heads.now ks vs) (tables c.fix_top.new.heads ks vs)
    (g.S.Supply.stock c.args.supply.now) (g.S.Supply.stock c.fix_top.new.supply) c.args.root.height c.args.root.node c.in_ok-top.top (c.in_ok-top.ensures ks vs)
    (tables c.mend.new.heads c.mend.new.keys c.mend.new.values) (g.S.Supply.stock c.mend.new.supply) _ c.in_err-mend.ensures t o e z low))

pub returns-clause-repairs : goal.returns-clause-repairs
unfolding Repairs
returns-clause-repairs g c = λ t o e z low.
    let ks = c.args.keys.now in
    let vs = c.args.values.now in
    let ks' = c.mend.new.keys in
    let vs' = c.mend.new.values in
    let T₁ = tables c.fix_top.new.heads ks vs in
    let S₁ = g.S.Supply.stock c.fix_top.new.supply in
    let S₂ = g.S.Supply.stock c.mend.new.supply in
    let top = c.in_ok-top.top in
    repaired c.args.side (tables c.args.heads.now ks vs) T₁
    (g.S.Supply.stock c.args.supply.now) S₁ c.args.root.height c.args.root.node top (c.in_ok-top.ensures ks vs)
    (tables c.mend.new.heads ks' vs') S₂ _
    (c.mend.ensures) t o e z low
    (tables c.fix_top-2.new.heads ks' vs') (g.S.Supply.stock c.fix_top-2.new.supply) c.fix_top-2.result (c.fix_top-2.ensures ks' vs')

pub returns-in_err-top-clause-strays : goal.returns-in_err-top-clause-strays
unfolding Strays
returns-in_err-top-clause-strays g c = λ up strange. absurd (c.in_ok-check_root.ensures up strange)

pub returns-in_err-mend-clause-strays : goal.returns-in_err-mend-clause-strays
unfolding Strays
returns-in_err-mend-clause-strays g c = λ up strange. absurd (c.in_ok-check_root.ensures up strange)

pub returns-clause-strays : goal.returns-clause-strays
unfolding Strays
returns-clause-strays g c = λ up strange. absurd (c.in_ok-check_root.ensures up strange)
