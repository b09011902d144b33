use Rattle.std.proofs.Common.{Ok, Err, None, refl, ap, ◌∙◌}
use Rattle.std.proofs.lemmas.Result.{err_from_is_err_and}
use Rattle.node.specs.Store.{tables}
use Rattle.node.specs.declared.choice.Choice.TheVariants.{Merge, Move, Leave}
use Rattle.node.proofs.Neighbouring.{joined_as, joined_none}
use Rattle.node.proofs.nodes.Internal.join_children.Goals as goal

pub returns-in_err-pair-clause-joins : goal.returns-in_err-pair-clause-joins
returns-in_err-pair-clause-joins g c =
    let T = (tables c.args.heads.now c.args.keys.now c.args.values.now) in
    joined_none c.args.side T T c.args.self.height c.args.self.node c.args.idx _ _ c.in_err-pair.ensures.held

pub returns-in_err-left-in-Merge-clause-joins : goal.returns-in_err-left-in-Merge-clause-joins
returns-in_err-left-in-Merge-clause-joins g c =
    let q = c.in_ok-pair.pair in
    let p = err_from_is_err_and c.from_residual-in_err-left-in-Merge.result c.from_residual-in_err-left-in-Merge.ensures.1 in
    joined_as c.args.side (tables c.args.heads.now c.args.keys.now c.args.values.now) (tables c.merge_pair.new.heads c.merge_pair.new.keys c.merge_pair.new.values) c.args.self.height c.args.self.node c.args.idx
    q Merge _ c.in_ok-pair.ensures.lies.idx_is c.in_ok-pair.ensures.held c.in-Merge.ensures.rule (Err _, c.in_err-left-in-Merge.ensures.merges, p.1 ∙ ap Err p.2)

pub returns-in_ok-left-in-Merge-clause-joins : goal.returns-in_ok-left-in-Merge-clause-joins
returns-in_ok-left-in-Merge-clause-joins g c =
    let q = c.in_ok-pair.pair in
    joined_as c.args.side (tables c.args.heads.now c.args.keys.now c.args.values.now) (tables c.merge_pair.new.heads c.merge_pair.new.keys c.merge_pair.new.values) c.args.self.height c.args.self.node c.args.idx
    q Merge _ c.in_ok-pair.ensures.lies.idx_is c.in_ok-pair.ensures.held c.in-Merge.ensures.rule (Ok (c.in_ok-left-in-Merge.left, c.in_ok-left-in-Merge.right), c.in_ok-left-in-Merge.ensures.merges, refl)

pub returns-in_err-steal_pair-in-Move-clause-joins : goal.returns-in_err-steal_pair-in-Move-clause-joins
returns-in_err-steal_pair-in-Move-clause-joins g c =
    let q = c.in_ok-pair.pair in
    let p = err_from_is_err_and c.from_residual-in_err-steal_pair-in-Move.result c.from_residual-in_err-steal_pair-in-Move.ensures.1 in
    joined_as c.args.side (tables c.args.heads.now c.args.keys.now c.args.values.now) (tables c.steal_pair.new.heads c.steal_pair.new.keys c.steal_pair.new.values) c.args.self.height c.args.self.node c.args.idx
    q (Move c.in-Move.count) _ c.in_ok-pair.ensures.lies.idx_is c.in_ok-pair.ensures.held c.in-Move.ensures.rule (Err _, c.in_err-steal_pair-in-Move.ensures.steals, p.1 ∙ ap Err p.2)

pub returns-in_ok-steal_pair-in-Move-clause-joins : goal.returns-in_ok-steal_pair-in-Move-clause-joins
returns-in_ok-steal_pair-in-Move-clause-joins g c =
    let q = c.in_ok-pair.pair in
    joined_as c.args.side (tables c.args.heads.now c.args.keys.now c.args.values.now) (tables c.steal_pair.new.heads c.steal_pair.new.keys c.steal_pair.new.values) c.args.self.height c.args.self.node c.args.idx
    q (Move c.in-Move.count) _ c.in_ok-pair.ensures.lies.idx_is c.in_ok-pair.ensures.held c.in-Move.ensures.rule (Ok tt, c.in_ok-steal_pair-in-Move.ensures.steals, ap (λ x. Ok (x, None)) c.child_at.ensures)

pub returns-in-Leave-clause-joins : goal.returns-in-Leave-clause-joins
returns-in-Leave-clause-joins g c =
    let q = c.in_ok-pair.pair in
    let T = (tables c.args.heads.now c.args.keys.now c.args.values.now) in
    joined_as c.args.side T T c.args.self.height c.args.self.node c.args.idx
    q Leave _ c.in_ok-pair.ensures.lies.idx_is c.in_ok-pair.ensures.held c.in-Leave.ensures.rule (refl, ap (λ x. Ok (x, None)) c.child_at-in-Leave.ensures)
