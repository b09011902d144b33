use Rattle.std.proofs.Common.{◌≡◌, ◌+◌, ◌∙◌, length, drop, take, refl, subst, ap, arith, length-set}
use Rattle.node.specs.Store.{tables}
use Rattle.bank.specs.Banks.{state_of}
use Rattle.bank.specs.Lists.{Chain, first_calls, first_answers}
use Rattle.bank.proofs.Listing.{chain_none, listed_more, rest_same, all_chained}
use Rattle.bank.proofs.bank.Bank.perform_all.Goals as goal

pub loop-idx-init : goal.loop-idx-init
loop-idx-init g c = (refl, refl, chain_none g.K.KeyOrder.compares _)

pub loop-idx-preserved : goal.loop-idx-preserved
loop-idx-preserved g c = (
  ap length c.put.ensures ∙ length-set c.loop-idx.answers c.loop-idx.idx c.perform-answer.result ∙ c.loop-idx.invariant.0,
  ap (drop (c.loop-idx.idx + 1)) c.put.ensures ∙ rest_same c.loop-idx.idx c.args.answers.now c.loop-idx.answers c.perform-answer.result c.loop-idx.invariant.1,
  listed_more g.P.Placing.places g.Q.Placing.places c.loop-idx.idx c.args.calls.now c.index-calls-idx.result c.loop-idx.answers c.put.new.slice c.perform-answer.result _ _ _
      (omega (arith, c.lesser-count.ensures)) (omega (arith, c.lesser-count.ensures, c.loop-idx.invariant.0)) c.index-calls-idx.is c.put.ensures c.loop-idx.invariant.2 c.perform-answer.ensures.does,
)

pub returns-clause-rest : goal.returns-clause-rest
returns-clause-rest g c =
    let z : c.loop-idx.idx ≡ c.lesser-count.result = omega arith in
    subst (λ n. drop n c.loop-idx.answers ≡ drop n c.args.answers.now) z c.loop-idx.invariant.1

pub returns-clause-chain : goal.returns-clause-chain
returns-clause-chain g c =
    let z : c.loop-idx.idx ≡ c.lesser-count.result = omega arith in
    subst
    (λ n. Chain g.K.KeyOrder.compares (first_calls g.P.Placing.places g.Q.Placing.places n c.args.calls.now) (first_answers n c.loop-idx.answers) (state_of g.S.Supply.stock c.args.self.now (tables c.args.heads.now c.args.keys.now c.args.values.now))
    (state_of g.S.Supply.stock c.loop-idx.self (tables c.loop-idx.heads c.loop-idx.keys c.loop-idx.values))) z
    c.loop-idx.invariant.2

pub returns-clause-all : goal.returns-clause-all
returns-clause-all g c =
    let z : c.loop-idx.idx ≡ c.lesser-count.result = omega arith in
    let chain = subst
    (λ n. Chain g.K.KeyOrder.compares (first_calls g.P.Placing.places g.Q.Placing.places n c.args.calls.now) (first_answers n c.loop-idx.answers) (state_of g.S.Supply.stock c.args.self.now (tables c.args.heads.now c.args.keys.now c.args.values.now))
    (state_of g.S.Supply.stock c.loop-idx.self (tables c.loop-idx.heads c.loop-idx.keys c.loop-idx.values))) z
    c.loop-idx.invariant.2 in
    all_chained g.met.K.KeyOrder.ordered g.met.P.Query.placed g.met.P.PointQuery.pointed g.met.Q.Query.placed (take c.lesser-count.result c.args.calls.now) (first_answers c.lesser-count.result c.loop-idx.answers) _ _ chain
