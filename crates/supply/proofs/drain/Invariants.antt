use Rattle.std.proofs.Common.{◌≡◌, ℕ, ◌+◌, true}
use Rattle.supply.specs.Stocks.{size_of, is_out, outs_of}
use Rattle.supply.proofs.drain.Given as goal

abbrev pub invariant-loop : goal.invariant-loop
invariant-loop g l =
    let before = g.S.Supply.stock l.initial.supply in
    let after = g.S.Supply.stock l.supply in
    (outs_of after + after.allowance ≡ outs_of before + before.allowance) × (size_of after ≡ size_of before) × (after.aside ≡ before.aside) × ((k : ℕ) → is_out before k ≡ true → is_out after k ≡ true)

abbrev pub decreases-loop : goal.decreases-loop
decreases-loop g l = (g.S.Supply.stock l.supply).allowance
