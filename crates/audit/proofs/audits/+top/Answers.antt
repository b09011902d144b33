use Rattle.std.proofs.Common.{ℕ, ◌≤◌, ◌+◌, ap, sym, subst, ◌∙◌, arith}
use Rattle.node.specs.Store.{no_head}
use Rattle.walk.specs.Climbs.{Tops}
use Rattle.audit.specs.Audits.{Leads}
use Rattle.walk.proofs.Leaving.{tops_inside}
use Rattle.audit.proofs.Tops.{top_here, top_more, top_above}
use Rattle.audit.proofs.audits.+top.Goals as goal

pub returns-in_err-head-clause-whole : goal.returns-in_err-head-clause-whole
returns-in_err-head-clause-whole t c = λ n l w. absurd (omega (arith, tops_inside c.args.heads.now n c.args.node w, c.in_err-head.ensures.lookup))

pub returns-then-head-clause-whole : goal.returns-then-head-clause-whole
returns-then-head-clause-whole t c = λ n l w.
    let e = ap (λ h. h.parent) (c.in_ok-head.ensures.lookup.3.1 no_head) in
    top_here c.args.heads.now c.args.level c.args.node n (sym e ∙ c.if-head.true) w

pub returns-then-level-eq-MAX_HEIGHT-clause-whole : goal.returns-then-level-eq-MAX_HEIGHT-clause-whole
returns-then-level-eq-MAX_HEIGHT-clause-whole t c = λ n l w.
    let e = ap (λ h. h.parent) (c.in_ok-head.ensures.lookup.3.1 no_head) in
    absurd (omega (arith, top_above c.args.heads.now c.args.node n (λ z. c.if-head.false (e ∙ z)) w))

pub returns-clause-whole : goal.returns-clause-whole
returns-clause-whole t c =
    let e = ap (λ h. h.parent) (c.in_ok-head.ensures.lookup.3.1 no_head) in
    top_more c.args.heads.now c.args.level c.args.node c.top.result (λ z. c.if-head.false (e ∙ z))
    (subst (λ p. (n : ℕ) → c.args.level + 1 + n ≤ 5 → Tops c.args.heads.now n p → Leads c.args.heads.now n p (c.args.level + 1 + n) c.top.result) e c.top.ensures.whole)
