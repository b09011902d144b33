use Rattle.std.proofs.Common.{◌≡◌, ◌+◌, ◌-◌, sym, refl, subst, arith}
use Rattle.node.specs.Store.{head_in}
use Rattle.node.specs.Cells.{span}
use Rattle.node.specs.Links.{Adopted}
use Rattle.node.proofs.Adopts.{adopted_none, adopted_more, adopted_not}
use Rattle.node.proofs.links.correct_childrens_parent_links.Goals as goal

pub loop-edge-init : goal.loop-edge-init
loop-edge-init c =
    let H = c.args.heads.now in
    let z : c.args.first - c.args.first ≡ 0 = omega arith in
    rw z (adopted_none H c.args.node c.args.first)

pub loop-edge-preserved : goal.loop-edge-preserved
loop-edge-preserved c =
    let st = c.in_ok-correct_parent_link.ensures in
    let H = c.args.heads.now in
    subst (λ G. Adopted H G c.args.node c.args.first (span (head_in H c.args.node).edges c.args.first (c.loop-edge.edge + 1 - c.args.first))) (sym st.cases.1)
    (adopted_more H c.loop-edge.heads c.args.node c.args.first c.loop-edge.edge c.loop-edge.invariant (omega arith) st.wide (omega arith) st.cases.0)

pub returns-in_err-correct_parent_link-clause-total : goal.returns-in_err-correct_parent_link-clause-total
returns-in_err-correct_parent_link-clause-total c = λ all.
    let st = c.in_err-correct_parent_link.ensures in
    absurd (adopted_not c.args.heads.now c.loop-edge.heads c.args.node c.args.first c.loop-edge.edge c.loop-edge.invariant (omega arith) st.wide (omega arith)
    c.args.after_last (omega arith) (omega arith) st.cases.1 all)

pub returns : goal.returns
returns c =
    let H = c.args.heads.now in
    let z : c.loop-edge.edge ≡ c.args.after_last = omega arith in
    record {
      fault = tt;
      done = subst (λ n. Adopted H c.loop-edge.heads c.args.node c.args.first (span (head_in H c.args.node).edges c.args.first (n - c.args.first))) z c.loop-edge.invariant;
      total = λ all. refl;
    }
