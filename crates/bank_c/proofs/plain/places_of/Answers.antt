use Rattle.std.proofs.Common.{◌≡◌, get_or, sym, arith, rules}
use Rattle.books.specs.declared.places.Place.TheVariants as P
use Rattle.bank_c.specs.Plain.{place_of}
use Rattle.bank_c.proofs.Mapped.{map_is}
use Rattle.bank_c.proofs.plain.places_of.Goals as goal

pub returns-clause-same : goal.returns-clause-same
returns-clause-same c =
    let xs = c.args.register.places in
    let m = c.map.ensures.items in
    sym (map_is place_of c.map.result xs (omega (arith, m.long)) (λ k d e h. let (p, q, called) = m.at k e d (omega (arith, m.long)) in
    let same : place_of (get_or c.map.result k d) ≡ get_or xs k e = search rules in sym same))

pub returns-clause-known : goal.returns-clause-known
returns-clause-known c =
    let m = c.map.ensures.items in
    λ k d h. let (p, q, called) = m.at k P.Bare d (omega (arith, m.long)) in search rules
