use Rattle.std.proofs.Common.{◌∙◌, arith, rules}
use Rattle.bank_c.specs.Plain.{place_of}
use Rattle.bank_c.proofs.Mapped.{map_is}
use Rattle.bank_c.proofs.plain.register_of.Goals as goal

pub returns : goal.returns
returns c =
    let xs = c.args.places in
    let m = c.map-places.ensures.items in
    c.of.ensures ∙ map_is place_of xs c.map-places.result (omega (arith, m.long)) (λ k d e h. let (p, q, called) = m.at k d e (omega arith) in search rules)
