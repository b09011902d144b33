use Rattle.std.proofs.Common.{sym, arith, rules}
use Rattle.supply.proofs.Chains.{chained_of, out_below, returned, back_row, back_chained}
use Rattle.supply.proofs.links.ChainSupply.give_back.Goals as goal

pub bounds-self-node : goal.bounds-self-node
bounds-self-node c =
    let s = c.args.self.now in
    omega (arith, out_below s.size s.links c.args.node (omega arith) (sym c.if-not-is_out.ensures))

pub invariant_of-self : goal.invariant_of-self
invariant_of-self c =
    let s = c.args.self.now in
    let chained = back_chained s.links s.size s.head s.left c.args.node (omega arith) (chained_of s) (sym c.if-not-is_out.ensures) in
    search rules

pub returns : goal.returns
returns c =
    let s = c.args.self.now in
    let out = sym c.if-not-is_out.ensures in
    record {
      given = returned s.links s.size s.head s.left c.args.node (omega arith) (chained_of s) out;
      row = back_row s.links s.size s.head s.left c.args.node (omega arith) (chained_of s) out;
    }
