use Rattle.std.proofs.Common.{Ok, ◌∙◌, ap}
use Rattle.node.specs.Store.{tables}
use Rattle.repair.specs.Joint.{Joins}
use Rattle.repair.proofs.Joining.{not_refused, none_left_over, given_back, not_declined_back}
use Rattle.repair.proofs.joint.join.Goals as goal

pub returns-in_err-child : goal.returns-in_err-child
unfolding Joins
returns-in_err-child g c = λ us e ws A l r B w.
    absurd (not_refused c.args.side (tables c.args.heads.now c.args.keys.now c.args.values.now) (g.S.Supply.stock c.args.supply.now) c.args.parent.height c.args.parent.node c.args.idx us e ws A l r B w
    (tables c.join_children.new.heads c.join_children.new.keys c.join_children.new.values) c.join_children.result c.join_children.ensures.joins _ c.in_err-child.was)

pub returns-in_err-give_back : goal.returns-in_err-give_back
unfolding Joins
returns-in_err-give_back g c = λ us e ws A l r B w.
    absurd (not_declined_back c.args.side (tables c.args.heads.now c.args.keys.now c.args.values.now) (g.S.Supply.stock c.args.supply.now) c.args.parent.height c.args.parent.node c.args.idx us e ws A l r B w
    (tables c.join_children.new.heads c.join_children.new.keys c.join_children.new.values) c.join_children.result c.join_children.ensures.joins c.in_ok-child.child c.in-Some.node (c.in_ok-child.was ∙ ap (λ x. Ok (c.in_ok-child.child, x)) c.in-Some.is)
    (g.S.Supply.stock c.give_back.new.self) _ c.in_err-give_back.ensures.given)

pub returns-in_ok-give_back : goal.returns-in_ok-give_back
unfolding Joins
returns-in_ok-give_back g c = λ us e ws A l r B w.
    given_back c.args.side (tables c.args.heads.now c.args.keys.now c.args.values.now) (g.S.Supply.stock c.args.supply.now) c.args.parent.height c.args.parent.node c.args.idx us e ws A l r B w
    (tables c.join_children.new.heads c.join_children.new.keys c.join_children.new.values) c.join_children.result c.join_children.ensures.joins c.in_ok-child.child c.in-Some.node (c.in_ok-child.was ∙ ap (λ x. Ok (c.in_ok-child.child, x)) c.in-Some.is)
    (g.S.Supply.stock c.give_back.new.self) c.in_ok-give_back.ensures.given

pub returns-in_default : goal.returns-in_default
unfolding Joins
returns-in_default g c = λ us e ws A l r B w.
    none_left_over c.args.side (tables c.args.heads.now c.args.keys.now c.args.values.now) (g.S.Supply.stock c.args.supply.now) c.args.parent.height c.args.parent.node c.args.idx us e ws A l r B w
    (tables c.join_children.new.heads c.join_children.new.keys c.join_children.new.values) c.join_children.result c.join_children.ensures.joins c.in_ok-child.child (c.in_ok-child.was ∙ ap (λ x. Ok (c.in_ok-child.child, x)) c.in_default.is)
