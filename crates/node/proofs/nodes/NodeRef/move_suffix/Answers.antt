use Rattle.std.proofs.Common.{[], ◌++◌, length, refl, arith, length-append}
use Rattle.node.specs.Store.{tables}
use Rattle.node.specs.Operations.{MovesSuffix, MovesTail, Fan}
use Rattle.node.proofs.Tabled.{not_strange}
use Rattle.node.proofs.nodes.NodeRef.move_suffix.Goals as goal

pub returns-in_err-len-clause-moves : goal.returns-in_err-len-clause-moves
unfolding MovesSuffix
returns-in_err-len-clause-moves g c = λ es fs ks ls cs sized node right p f1 l1 l2 f2 other kids.
    absurd (not_strange (tables c.args.heads.now c.args.keys.now c.args.values.now) _ _ _ sized node c.in_err-len.ensures.1)

pub returns-then-idx-len-clause-moves : goal.returns-then-idx-len-clause-moves
unfolding MovesSuffix
returns-then-idx-len-clause-moves g c = λ es fs ks ls cs sized node right p f1 l1 l2 f2 other kids.
    absurd (omega (arith, node.len_is, length-append es fs, c.in_ok-len.ensures.len_is))

pub returns-in_err-check_beside-clause-moves : goal.returns-in_err-check_beside-clause-moves
unfolding MovesSuffix
returns-in_err-check_beside-clause-moves g c = λ es fs ks ls cs sized node right p f1 l1 l2 f2 other kids.
    absurd (c.in_err-check_beside.ensures.1 right.inside other)

pub returns-clause-moves : goal.returns-clause-moves
unfolding MovesSuffix MovesTail
returns-clause-moves g c = λ es fs ks ls cs sized node right p f1 l1 l2 f2 other kids.
    let f3 : Fan c.args.self.height (length fs) (length (cs ++ ls)) = record {
      leaf = λ z. omega (arith, f2.leaf z, l1 z, length-append cs ls);
      inner = λ z. omega (arith, f2.inner z, l2 z, length-append cs ls);
    } in
    let all = c.move_tail.ensures.moves es [] fs ks ls cs sized node right.inside right.edges_are p refl f1 l1 (λ z. omega (arith, l2 z)) f3 kids in
    (all.0, all.1, all.2, all.3, all.4)
