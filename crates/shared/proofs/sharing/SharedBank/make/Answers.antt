use Rattle.std.proofs.Common.{Ok, Err, ap, sym, ◌∙◌}
use Rattle.std.proofs.lemmas.Result.{err_from_is_err_and}
use Rattle.calls.specs.Refusals.{code}
use Rattle.bank.specs.Calls.{told, itself}
use Rattle.bank.specs.Fitting.{coded}
use Rattle.shared.specs.declared.moves.Reply.TheVariants as R
use Rattle.shared.specs.MoveLists.{told_reply, replied}
use Rattle.shared.proofs.Making.{laid_made, turned_made, called_made}
use Rattle.shared.proofs.sharing.SharedBank.make.Goals as goal

pub returns-in_err-lay_out-in-LayOut : goal.returns-in_err-lay_out-in-LayOut
returns-in_err-lay_out-in-LayOut g c =
    let p = err_from_is_err_and c.from_residual.result c.from_residual.ensures.1 in
    laid_made g.K.KeyOrder.compares g.P.Placing.places g.Q.Placing.places c.args.request.now c.from_residual.result _ _ _ c.lay_out.result c.in-LayOut.is
    (ap told_reply p.1 ∙ ap (λ e. Err (code e)) p.2 ∙ sym (ap (λ z. replied (λ u. R.LaidOut) (coded z)) c.in_err-lay_out-in-LayOut.was)) c.lay_out.ensures.does

pub returns-in_err-turn-in-Turn : goal.returns-in_err-turn-in-Turn
returns-in_err-turn-in-Turn g c =
    let p = err_from_is_err_and c.from_residual-in_err-turn-in-Turn.result c.from_residual-in_err-turn-in-Turn.ensures.1 in
    turned_made g.K.KeyOrder.compares g.P.Placing.places g.Q.Placing.places c.args.request.now c.from_residual-in_err-turn-in-Turn.result _ _ c.in-Turn.caller c.turn.result c.in-Turn.is
    (ap told_reply p.1 ∙ ap (λ e. Err (code e)) p.2 ∙ sym (ap (λ z. replied (λ u. R.Turned) (coded z)) c.in_err-turn-in-Turn.was)) c.turn.ensures.does

pub returns-in_err-answer-in-Call : goal.returns-in_err-answer-in-Call
returns-in_err-answer-in-Call g c =
    let p = err_from_is_err_and c.from_residual-in_err-answer-in-Call.result c.from_residual-in_err-answer-in-Call.ensures.1 in
    called_made g.K.KeyOrder.compares g.P.Placing.places g.Q.Placing.places c.args.request.now c.from_residual-in_err-answer-in-Call.result _ _ _ c.in-Call.call c.perform.result c.in-Call.is
    (ap told_reply p.1 ∙ ap (λ e. Err (code e)) p.2 ∙ sym (ap (λ z. replied R.Answered (told itself z)) c.in_err-answer-in-Call.was)) c.perform.ensures.does

pub returns-in_ok-lay_out-in-LayOut : goal.returns-in_ok-lay_out-in-LayOut
returns-in_ok-lay_out-in-LayOut g c =
    laid_made g.K.KeyOrder.compares g.P.Placing.places g.Q.Placing.places c.args.request.now (Ok R.LaidOut) _ _ _ c.lay_out.result c.in-LayOut.is
    (sym (ap (λ z. replied (λ u. R.LaidOut) (coded z)) c.in_ok-lay_out-in-LayOut.was)) c.lay_out.ensures.does

pub returns-in_ok-turn-in-Turn : goal.returns-in_ok-turn-in-Turn
returns-in_ok-turn-in-Turn g c =
    turned_made g.K.KeyOrder.compares g.P.Placing.places g.Q.Placing.places c.args.request.now (Ok R.Turned) _ _ c.in-Turn.caller c.turn.result c.in-Turn.is
    (sym (ap (λ z. replied (λ u. R.Turned) (coded z)) c.in_ok-turn-in-Turn.was)) c.turn.ensures.does

pub returns-in_ok-answer-in-Call : goal.returns-in_ok-answer-in-Call
returns-in_ok-answer-in-Call g c =
    called_made g.K.KeyOrder.compares g.P.Placing.places g.Q.Placing.places c.args.request.now (Ok (R.Answered c.in_ok-answer-in-Call.answer)) _ _ _ c.in-Call.call c.perform.result c.in-Call.is
    (sym (ap (λ z. replied R.Answered (told itself z)) c.in_ok-answer-in-Call.was)) c.perform.ensures.does
