use Rattle.node.proofs.Breaking.{breached_by}
use Rattle.walk.proofs.Releasing.{releases_high, releases_broken, releases_done}
use Rattle.walk.proofs.walks.release.Goals as goal

pub returns-then-root-gt-MAX_HEIGHT : goal.returns-then-root-gt-MAX_HEIGHT
returns-then-root-gt-MAX_HEIGHT g c = releases_high c.args.tables.now _ c.args.root c.args.count c.in-Some.root c.in-Some.is c.if-root-gt-MAX_HEIGHT.true

pub returns-in_err-give_back_under : goal.returns-in_err-give_back_under
returns-in_err-give_back_under g c =
    let y = c.in_err-give_back_under.field-0.0 in
    let r = c.from_residual.result in
    rw (← c.tables.view_is) (releases_broken _ _ c.args.root c.args.count c.in-Some.root c.in-Some.is _ y r
    (breached_by r y c.from_residual.ensures.1 c.in_err-give_back_under.ensures.fault) c.in_err-give_back_under.ensures)

pub returns : goal.returns
returns g c = rw (← c.tables.view_is) (releases_done _ _ c.args.root c.args.count c.in-Some.root c.in-Some.is _ c.in_ok-give_back_under.ensures)
