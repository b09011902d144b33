use Rattle.std.proofs.Common.{◌≤◌, ap, ◌∙◌, arith}
use Rattle.supply.specs.Stocks.{fresh}
use Rattle.supply.proofs.StockLaws.{kept_most}
use Rattle.supply.proofs.Bitmaps.{new_clear, new_fresh}
use Rattle.supply.proofs.bits.Bitmap.new.Goals as goal

pub invariant_of-result : goal.invariant_of-result
invariant_of-result c =
    let n = c.kept_size-size.result in
    record { fits = omega (arith, c.kept_size-size.ensures, kept_most c.args.size); clear = new_clear n }

pub returns : goal.returns
returns c =
    let n = c.kept_size-size.result in
    let fits : n ≤ 4096 = omega (arith, c.kept_size-size.ensures, kept_most c.args.size) in
    new_fresh n fits ∙ ap fresh c.kept_size-size.ensures
