use Rattle.std.proofs.Common.{refl, arith, length-append}
use Rattle.node.specs.Store.{head_in}
use Rattle.node.specs.Operations.{InsertsFit}
use Rattle.node.proofs.Tabled.{relinked_none, refit}
use Rattle.node.proofs.Inserts.{inserted_node, inserted_rest}
use Rattle.node.proofs.nodes.Leaf.insert_fit.Goals as goal

pub returns-in_err-len-clause-inserts : goal.returns-in_err-len-clause-inserts
unfolding InsertsFit
returns-in_err-len-clause-inserts g c = λ es fs ks sized node p q.
    absurd (c.in_err-len.ensures.1 sized node.inside (omega (arith, node.len_is)) (omega (arith, node.len_is, length-append es fs)))

pub returns-clause-inserts : goal.returns-clause-inserts
unfolding InsertsFit
returns-clause-inserts g c = λ es fs ks sized node p q.
    let H = c.args.heads.now in
    let m = c.args.self.node in
    let n = c.in_ok-len.len in
    let l = c.in_ok-len.ensures in
    let r = relinked_none (refit H m (Prim.Native.Nat.◌+◌ n 1) (head_in H m).edges) in (
      refl,
      inserted_node H c.args.keys.now c.slice_insert.new.cells c.args.values.now c.slice_insert-2.new.cells m es fs (c.args.key, c.args.val) ks c.args.idx n
          node p q l.0.len_is c.slice_insert.ensures c.slice_insert-2.ensures (head_in H m).edges _ _ r ks node.edges_are,
      inserted_rest H c.args.keys.now c.slice_insert.new.cells c.args.values.now c.slice_insert-2.new.cells m es fs (c.args.key, c.args.val) ks c.args.idx n
          node p q l.0.len_is c.slice_insert.ensures c.slice_insert-2.ensures (head_in H m).edges _ _ r,
    )
