use Rattle.std.proofs.Common.{◌-◌, ◌^◌, false, get_or, arith}
use Rattle.supply.specs.Words.{spread}
use Rattle.std.proofs.lemmas.List.{get_or_past}
use Rattle.supply.proofs.Digits.{length_spread}
use Rattle.supply.proofs.Bitmaps.{lowest_here, lowest_before, full_before}
use Rattle.supply.proofs.bits.Bitmap.lowest.Goals as goal

pub returns-then-unused-ne0-clause-before : goal.returns-then-unused-ne0-clause-before
returns-then-unused-ne0-clause-before c =
    let ws = c.args.self.now.words in
    let i = c.loop-i.i in
    lowest_before ws i (2 ^ 64 - 1 - get_or ws i 0) (omega arith) c.loop-i.invariant (omega arith) (omega arith)

pub returns-then-unused-ne0-clause-here : goal.returns-then-unused-ne0-clause-here
returns-then-unused-ne0-clause-here c =
    let ws = c.args.self.now.words in
    let i = c.loop-i.i in
    lowest_here ws i (2 ^ 64 - 1 - get_or ws i 0) (omega arith) c.loop-i.invariant (omega arith) (omega arith)

pub returns-clause-before : goal.returns-clause-before
returns-clause-before c = full_before c.args.self.now.words 64 (omega arith) (λ k h. c.loop-i.invariant k (omega arith))

pub returns-clause-here : goal.returns-clause-here
returns-clause-here c =
    let ws = c.args.self.now.words in
    get_or_past (spread ws) 4096 false (omega (arith, length_spread ws))
