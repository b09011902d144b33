use Rattle.std.proofs.Common.{◌≡◌, ◌+◌, arith}
use Rattle.std.proofs.lemmas.Bool.{eqb-true}
use Rattle.supply.specs.Rows.{Chained, link_marks}
use Rattle.supply.specs.Stocks.{marked}
use Rattle.supply.proofs.Chains.{marked_links}
use Rattle.supply.proofs.links.ChainParts.is_chain.Goals as goal

pub returns-then-self-out : goal.returns-then-self-out
returns-then-self-out c =
    let p = c.args.self.now in
    let counts : p.left + marked (link_marks p.size p.links) ≡ p.size = omega (arith, marked_links p.size p.links, c.outs-out.ensures, c.if-self-out.true) in (
      λ e. let (b, u, a) = c.is_row.ensures.0 e in
          record { fits = c.if-self-gt-MOST.false; counts = counts; inner = omega (arith, c.if-self.false); below = b; unused = u; apart = a },
      λ h. c.is_row.ensures.1 (h.below, h.unused, h.apart),
    )

pub returns-else-self-out : goal.returns-else-self-out
returns-else-self-out c =
    let p = c.args.self.now in (
      λ e. absurd (c.if-self-out.false (eqb-true _ _ e)),
      λ (h : Chained p.size p.left p.head p.links). absurd (c.if-self-out.false (omega (arith, h.counts, marked_links p.size p.links, c.outs-out.ensures))),
    )
