use Rattle.std.proofs.Common.{◌≡◌, ◌<◌, false, length, refl, sym, ◌∙◌, arith}
use Rattle.std.proofs.lemmas.Bool.{both_ways}
use Rattle.supply.proofs.Walked.{walked_none, walked_more, row_walked, not_high, not_out, not_twice, length_part, part_at}
use Rattle.supply.proofs.links.ChainParts.is_row.Goals.{then-node-links-via-then-node-links, then-node-links-via-else-node-links+then-links-node, then-node-links-via-else-node-links+else-links-node+then-seen-node}
use Rattle.supply.proofs.links.ChainParts.is_row.Goals as goal

pub loop-init : goal.loop-init
loop-init c = let p = c.args.self.now in walked_none p.size p.links p.head

pub returns-then-node-links : goal.returns-then-node-links
returns-then-node-links c =
    let p = c.args.self.now in
    let long : length p.links ≡ 4096 = omega arith in
    let w = c.loop.invariant in
    let more : c.loop.counter < p.left = omega arith in
    let part = length_part p.size p.links long c.requires in (
      λ e. absurd (both_ways false refl e),
      λ r. absurd (elim c.then-node-links.branch [
        | then-node-links-via-then-node-links u ↦ not_high p.size p.links p.head p.left c.loop.counter c.loop.node c.loop.seen w more r (omega arith)
        | then-node-links-via-else-node-links+then-links-node u ↦
            not_out p.size p.links p.head p.left c.loop.counter c.loop.node c.loop.seen w more r
            (sym (part_at p.size p.links long c.requires c.loop.node (omega arith)) ∙ u.if-links-node.true)
        | then-node-links-via-else-node-links+else-links-node+then-seen-node u ↦ not_twice p.size p.links p.head p.left c.loop.counter c.loop.node c.loop.seen w more r u.if-seen-node.true
      ]),
    )

pub loop-preserved : goal.loop-preserved
loop-preserved c =
    let p = c.args.self.now in
    let long : length p.links ≡ 4096 = omega arith in
    let part = length_part p.size p.links long c.requires in
    let low : c.loop.node < p.size = omega arith in
    let at = part_at p.size p.links long c.requires c.loop.node low in
    rw (at)
    (walked_more p.size p.links p.head c.loop.counter c.loop.node c.loop.seen c.loop.invariant c.requires low (λ e. c.if-links-node.false (at ∙ e)) c.if-seen-node.false)

pub returns : goal.returns
returns c =
    let p = c.args.self.now in
    (λ e. row_walked p.size p.links p.head p.left c.loop.counter c.loop.node c.loop.seen c.loop-test.false c.loop.invariant, λ r. refl)
