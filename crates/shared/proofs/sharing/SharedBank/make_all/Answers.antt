use Rattle.std.proofs.Common.{◌≡◌, ◌+◌, ◌∙◌, length, drop, refl, subst, ap, arith, length-set}
use Rattle.node.specs.Store.{tables}
use Rattle.shared.specs.SharedBanks.{state_of}
use Rattle.shared.specs.MoveLists.{Performed, first_moves, first_replies}
use Rattle.bank.proofs.Listing.{rest_same}
use Rattle.shared.proofs.Making.{made_none, listed_more}
use Rattle.shared.proofs.sharing.SharedBank.make_all.Goals as goal

pub loop-idx-init : goal.loop-idx-init
loop-idx-init g c = (refl, refl, made_none g.met.K.KeyOrder.ordered _)

pub loop-idx-preserved : goal.loop-idx-preserved
loop-idx-preserved g c = (
  ap length c.put.ensures ∙ length-set c.loop-idx.replies c.loop-idx.idx c.make-reply.result ∙ c.loop-idx.invariant.0,
  ap (drop (c.loop-idx.idx + 1)) c.put.ensures ∙ rest_same c.loop-idx.idx c.args.replies.now c.loop-idx.replies c.make-reply.result c.loop-idx.invariant.1,
  listed_more g.met.K.KeyOrder.ordered g.P.Placing.places g.Q.Placing.places c.loop-idx.idx c.args.moves.now c.index-moves-idx.result c.loop-idx.replies c.put.new.slice c.make-reply.result _ _ _
      (omega (arith, c.lesser-count.ensures)) (omega (arith, c.lesser-count.ensures, c.loop-idx.invariant.0)) c.index-moves-idx.is c.put.ensures c.loop-idx.invariant.2 c.make-reply.ensures,
)

pub returns-clause-others : goal.returns-clause-others
returns-clause-others g c =
    let z : c.loop-idx.idx ≡ c.lesser-count.result = omega arith in
    subst (λ n. drop n c.loop-idx.replies ≡ drop n c.args.replies.now) z c.loop-idx.invariant.1

pub returns-clause-all : goal.returns-clause-all
returns-clause-all g c =
    let z : c.loop-idx.idx ≡ c.lesser-count.result = omega arith in
    subst
    (λ n. Performed g.K.KeyOrder.compares (first_moves g.P.Placing.places g.Q.Placing.places n c.args.moves.now) (first_replies n c.loop-idx.replies) (state_of g.S.Supply c.args.self.now (tables c.args.heads.now c.args.keys.now c.args.values.now))
    (state_of g.S.Supply c.loop-idx.self (tables c.loop-idx.heads c.loop-idx.keys c.loop-idx.values))) z
    c.loop-idx.invariant.2
