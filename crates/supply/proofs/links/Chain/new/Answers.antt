use Rattle.std.proofs.Common.{◌≡◌, ◌≤◌, length, ap, ◌∙◌, arith, rules}
use Rattle.std.specs.List.{range_with_len}
use Rattle.supply.specs.Stocks.{fresh}
use Rattle.supply.proofs.StockLaws.{kept_most}
use Rattle.supply.proofs.Chains.{new_chained, new_stock, new_row}
use Rattle.supply.proofs.links.Chain.new.Goals as goal

pub invariant_of-result : goal.invariant_of-result
invariant_of-result c =
    let l = c.rising-links.result in
    let long : length l ≡ 4096 = omega arith in
    let n = c.kept_size-size.result in
    let chained = new_chained l c.rising-links.ensures long n (omega (arith, c.kept_size-size.ensures, kept_most c.args.size)) in
    search rules

pub returns : goal.returns
returns c =
    let l = c.rising-links.result in
    let n = c.kept_size-size.result in
    let long : length l ≡ 4096 = omega arith in
    let fits : n ≤ 4096 = omega (arith, c.kept_size-size.ensures, kept_most c.args.size) in
    record {
      stock = new_stock l c.rising-links.ensures long n fits ∙ ap fresh c.kept_size-size.ensures;
      row = new_row l c.rising-links.ensures long n fits ∙ ap (range_with_len 0) c.kept_size-size.ensures;
    }
