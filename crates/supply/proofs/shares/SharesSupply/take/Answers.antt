use Rattle.std.proofs.Common.{◌<◌, take, arith}
use Rattle.supply.specs.Stocks.{marked}
use Rattle.supply.proofs.Sharing.{taken_given, taken_low, taken_lent, taken_lent', taken_count, taken_divided, taken_sized, taken_wide, may_take}
use Rattle.supply.specs.Callers.{caller_number}
use Rattle.supply.proofs.shares.SharesSupply.take.Goals as goal

pub invariant_of-self-2 : goal.invariant_of-self-2
invariant_of-self-2 g c =
    let s = c.args.self.now in
    let m = s.served in
    let o = s.other in
    let B = g.S.Supply.stock s.below in
    let B' = g.S.Supply.stock c.take.new.self in
    let d = c.in_ok-node.ensures.taken in
    let n = c.in_ok-node.node in
    let a = may_take s.size m.limit (marked (take s.size m.marks)) B.allowance (omega (arith, c.if-allowance-eq0.false, c.allowance.ensures)) in
    let room : m.out < m.limit = omega (arith, a.1, s.served_count) in
    record {
      sized = taken_sized B B' s.size m.limit m.out m.marks o.limit o.marks n s.sized s.served_low s.served_lent s.other_lent s.served_count s.served_few s.divided s.served_wide a.0 room d;
      served_low = taken_low B B' s.size m.limit m.out m.marks o.limit o.marks n s.sized s.served_low s.served_lent s.other_lent s.served_count s.served_few s.divided s.served_wide a.0 room d;
      served_lent = taken_lent B B' s.size m.limit m.out m.marks o.limit o.marks n s.sized s.served_low s.served_lent s.other_lent s.served_count s.served_few s.divided s.served_wide a.0 room d;
      served_count = taken_count B B' s.size m.limit m.out m.marks o.limit o.marks n s.sized s.served_low s.served_lent s.other_lent s.served_count s.served_few s.divided s.served_wide a.0 room d;
      served_few = omega (arith, room);
      other_low = s.other_low;
      other_lent = taken_lent' B B' s.size m.limit m.out m.marks o.limit o.marks n s.sized s.served_low s.served_lent s.other_lent s.served_count s.served_few s.divided s.served_wide a.0 room d;
      other_count = s.other_count;
      other_few = s.other_few;
      served_wide = taken_wide B B' s.size m.limit m.out m.marks o.limit o.marks n s.sized s.served_low s.served_lent s.other_lent s.served_count s.served_few s.divided s.served_wide a.0 room d;
      other_wide = s.other_wide;
      divided = taken_divided B B' s.size m.limit m.out m.marks o.limit o.marks n s.sized s.served_low s.served_lent s.other_lent s.served_count s.served_few s.divided s.served_wide a.0 room d;
    }

pub returns : goal.returns
returns g c =
    let s = c.args.self.now in
    let m = s.served in
    let o = s.other in
    let B = g.S.Supply.stock s.below in
    let B' = g.S.Supply.stock c.take.new.self in
    let d = c.in_ok-node.ensures.taken in
    let n = c.in_ok-node.node in
    let a = may_take s.size m.limit (marked (take s.size m.marks)) B.allowance (omega (arith, c.if-allowance-eq0.false, c.allowance.ensures)) in
    let room : m.out < m.limit = omega (arith, a.1, s.served_count) in
    record { taken = taken_given B B' s.size m.limit m.out m.marks o.limit o.marks n s.sized s.served_low s.served_lent s.other_lent s.served_count s.served_few s.divided s.served_wide a.0 room d (caller_number s.caller); below = d }
