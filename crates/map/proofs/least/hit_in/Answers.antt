use Rattle.std.proofs.Common.{◌+◌, ◌*◌, ◌∙◌, get_or, Some, ap, ap₂, subst}
use Rattle.node.specs.Store.{Tables}
use Rattle.map.specs.Least.{Hits}
use Rattle.map.proofs.Leasts.{hits_found, hits_none}
use Rattle.map.proofs.least.hit_in.Goals as goal

pub returns-in-Found : goal.returns-in-Found
returns-in-Found g c =
    let k = c.index-tables-at in
    let v = c.index-tables-at-in-Found in
    let at = 11 * c.args.node + c.in-Found.idx in
    subst (λ e. Hits (g.Q.Placing.places c.args.query.now) c.args.tables.now c.args.node c.in-Found.idx (Some e)) (ap₂ (λ a b. (a, b)) k.is v.is)
    (hits_found (g.Q.Placing.places c.args.query.now) c.args.tables.now c.args.node _ c.in_ok-found.ensures c.in-Found.idx k.result v.result c.in-Found.is
    (k.is ∙ ap (λ (T : Tables _ _). get_or T.keys at k.result) c.tables.view_is) (v.is ∙ ap (λ (T : Tables _ _). get_or T.values at v.result) c.tables.view_is))

pub returns-in-GoDown : goal.returns-in-GoDown
returns-in-GoDown g c = hits_none (g.Q.Placing.places c.args.query.now) c.args.tables.now c.args.node _ c.in_ok-found.ensures c.in-GoDown.idx c.in-GoDown.is
