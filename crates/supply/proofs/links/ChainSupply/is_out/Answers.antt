use Rattle.std.proofs.Common.{false, sym, ◌∙◌, arith}
use Rattle.std.proofs.lemmas.List.{get_or_past}
use Rattle.std.proofs.lemmas.Bool.{le-ltb}
use Rattle.supply.specs.Rows.{link_marks}
use Rattle.supply.proofs.Chains.{index_marks, length_marks}
use Rattle.supply.proofs.links.ChainSupply.is_out.Goals as goal

pub returns-then-node-self : goal.returns-then-node-self
returns-then-node-self c =
    let s = c.args.self.now in sym (index_marks s.size s.links c.args.node (omega arith) c.if-node-self.true)

pub returns-else-node-self : goal.returns-else-node-self
returns-else-node-self c =
    let s = c.args.self.now in
    le-ltb _ _ c.if-node-self.false ∙ sym (get_or_past (link_marks s.size s.links) c.args.node false (omega (arith, length_marks s.size s.links (omega arith))))
