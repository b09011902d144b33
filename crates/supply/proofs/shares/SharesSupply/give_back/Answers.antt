use Rattle.std.proofs.Common.{sym, arith}
use Rattle.supply.proofs.Sharing.{back_low, back_lent, back_lent', back_count, back_divided, back_sized, back_wide, back_returned}
use Rattle.supply.specs.Callers.{caller_number}
use Rattle.supply.proofs.shares.SharesSupply.give_back.Goals as goal

pub invariant_of-self-2 : goal.invariant_of-self-2
invariant_of-self-2 g c =
    let s = c.args.self.now in
    let m = s.served in
    let o = s.other in
    let B = g.S.Supply.stock s.below in
    let B' = g.S.Supply.stock c.give_back.new.self in
    let d = c.in_ok-give_back.ensures.given in
    let was = sym c.if-not-is_out.ensures in
    record {
      sized = back_sized B B' s.size m.limit m.out m.marks o.limit o.marks c.args.node s.sized s.served_low s.served_lent s.other_lent s.served_count s.served_few s.divided s.served_wide was d;
      served_low = back_low B B' s.size m.limit m.out m.marks o.limit o.marks c.args.node s.sized s.served_low s.served_lent s.other_lent s.served_count s.served_few s.divided s.served_wide was d;
      served_lent = back_lent B B' s.size m.limit m.out m.marks o.limit o.marks c.args.node s.sized s.served_low s.served_lent s.other_lent s.served_count s.served_few s.divided s.served_wide was d;
      served_count = back_count B B' s.size m.limit m.out m.marks o.limit o.marks c.args.node s.sized s.served_low s.served_lent s.other_lent s.served_count s.served_few s.divided s.served_wide was d;
      served_few = omega (arith, s.served_few);
      other_low = s.other_low;
      other_lent = back_lent' B B' s.size m.limit m.out m.marks o.limit o.marks c.args.node s.sized s.served_low s.served_lent s.other_lent s.served_count s.served_few s.divided s.served_wide was d;
      other_count = s.other_count;
      other_few = s.other_few;
      served_wide = back_wide B B' s.size m.limit m.out m.marks o.limit o.marks c.args.node s.sized s.served_low s.served_lent s.other_lent s.served_count s.served_few s.divided s.served_wide was d;
      other_wide = s.other_wide;
      divided = back_divided B B' s.size m.limit m.out m.marks o.limit o.marks c.args.node s.sized s.served_low s.served_lent s.other_lent s.served_count s.served_few s.divided s.served_wide was d;
    }

pub returns : goal.returns
returns g c =
    let s = c.args.self.now in
    let m = s.served in
    let o = s.other in
    let B = g.S.Supply.stock s.below in
    let B' = g.S.Supply.stock c.give_back.new.self in
    let d = c.in_ok-give_back.ensures.given in
    let was = sym c.if-not-is_out.ensures in
    record { given = back_returned B B' s.size m.limit m.out m.marks o.limit o.marks c.args.node s.sized s.served_low s.served_lent s.other_lent s.served_count s.served_few s.divided s.served_wide was d (caller_number s.caller); below = d }
