use Rattle.std.proofs.Common.{◌<◌, ◌≤◌, length, refl, arith, rules}
use Rattle.supply.proofs.Chains.{chained_of, none_left, head_below, given, taken_row, taken_chained}
use Rattle.supply.proofs.links.ChainSupply.take.Goals as goal

pub returns-then-self-eq0-clause-taken : goal.returns-then-self-eq0-clause-taken
returns-then-self-eq0-clause-taken c =
    let s = c.args.self.now in
    record { none_left = none_left s.links s.size s.head s.left (omega arith) (chained_of s) (omega arith); reason = refl; same = refl }

pub bounds-self-node : goal.bounds-self-node
bounds-self-node c = let s = c.args.self.now in omega (arith, head_below s.links s.size s.head s.left (omega arith) (chained_of s) (omega arith))

pub bounds-self-node-2 : goal.bounds-self-node-2
bounds-self-node-2 c = let s = c.args.self.now in omega (arith, head_below s.links s.size s.head s.left (omega arith) (chained_of s) (omega arith))

pub invariant_of-self : goal.invariant_of-self
invariant_of-self c =
    let s = c.args.self.now in
    let chained = taken_chained s.links s.size s.head s.left (omega arith) (chained_of s) (omega arith) (omega arith) in
    search rules

pub returns : goal.returns
returns c =
    let s = c.args.self.now in
    let some : 0 < s.left = omega arith in
    let fits : s.size ≤ length s.links = omega arith in
    record {
      taken = given s.links s.size s.head s.left fits (chained_of s) some;
      row = taken_row s.links s.size s.head s.left fits (chained_of s) some;
    }
