use Rattle.node.proofs.Breaking.{breached_by}
use Rattle.walk.proofs.Closing.{closes_many, closes_broken, closes_done}
use Rattle.walk.proofs.walks.Walk.close.Goals as goal

pub returns-then-not-fit : goal.returns-then-not-fit
returns-then-not-fit g c =
    rw (← c.tables.view_is) (closes_many _ _ c.args.self c.fit.result c.if-not-fit.true c.fit.ensures.none c.fit.ensures.held)

pub returns-in_err-clear : goal.returns-in_err-clear
returns-in_err-clear g c =
    closes_broken c.args.tables.now c.tables.view_is _ _ _ c.args.self c.empty.new.self c.in_ok-dropped.dropped c.in_err-clear.field-0.0 c.from_residual-in_err-clear.result c.from_residual-in_err-clear.ensures.0
    (breached_by c.from_residual-in_err-clear.result c.in_err-clear.field-0.0 c.from_residual-in_err-clear.ensures.1 c.in_err-clear.ensures.fault)
    c.in_ok-dropped.ensures c.in_err-clear.ensures

pub returns : goal.returns
returns g c =
    closes_done c.args.tables.now c.tables.view_is _ _ _ c.args.self c.empty.new.self c.in_ok-dropped.dropped
    c.in_ok-dropped.ensures c.in_ok-clear.ensures (c.fit.ensures.few c.if-not-fit.false)
