use Rattle.std.proofs.Common.{◌≡◌, length, ap, rules, arith}
use Rattle.supply.proofs.Digits.{marked_words, words_few}
use Rattle.supply.proofs.bits.Bitmap.ones.Goals as goal

pub sum-requires-clause-fits : goal.sum-requires-clause-fits
sum-requires-clause-fits c =
    let long : length c.as_slice-words.result.now ≡ 64 = omega (arith, ap length c.as_slice-words.ensures) in
    let few = words_few c.as_slice-words.result.now long (search rules) in
    search rules

pub returns : goal.returns
returns c = rw (← c.as_slice-words.ensures, marked_words c.as_slice-words.result.now (search rules)) (search rules)
