use Rattle.std.proofs.Common.{◌+◌, Ok, refl, ap}
use Rattle.node.specs.Neighbours.{PairedOf}
use Rattle.node.proofs.Neighbouring.{parent_lies, index_within, left_lies, right_lies, all_differ, pair_is, same_edge}
use Rattle.node.proofs.nodes.Internal.pair.Goals as goal

pub returns-in_err-len-clause-held : goal.returns-in_err-len-clause-held
unfolding PairedOf
returns-in_err-len-clause-held g c = λ l r us e ws es fs xs bs ks ls s q.
    absurd (parent_lies _ _ _ l r us e ws es fs xs bs ks ls q s c.in_err-len.ensures.1)

pub returns-then-idx-len-clause-held : goal.returns-then-idx-len-clause-held
unfolding PairedOf
returns-then-idx-len-clause-held g c = λ l r us e ws es fs xs bs ks ls s q.
    absurd (index_within _ _ _ l r us e ws es fs xs bs ks ls q _ c.in_ok-len.ensures.len_is c.if-idx-len.true)

pub returns-in_err-left_len-clause-held : goal.returns-in_err-left_len-clause-held
unfolding PairedOf
returns-in_err-left_len-clause-held g c = λ l r us e ws es fs xs bs ks ls s q.
    absurd (left_lies _ _ _ l r us e ws es fs xs bs ks ls q _ (same_edge _ c.args.idx _ c.tables.view_is c.edge_at-left.ensures.value) s c.in_err-left_len.ensures.1)

pub returns-in_err-right_len-clause-held : goal.returns-in_err-right_len-clause-held
unfolding PairedOf
returns-in_err-right_len-clause-held g c = λ l r us e ws es fs xs bs ks ls s q.
    absurd (right_lies _ _ _ l r us e ws es fs xs bs ks ls q _ (same_edge _ (c.args.idx + 1) _ c.tables.view_is c.edge_at-right.ensures.value) s c.in_err-right_len.ensures.1)

pub returns-then-left-self-clause-held : goal.returns-then-left-self-clause-held
unfolding PairedOf
returns-then-left-self-clause-held g c = λ l r us e ws es fs xs bs ks ls s q.
    absurd (all_differ _ _ _ l r us e ws es fs xs bs ks ls q _ _ (same_edge _ c.args.idx _ c.tables.view_is c.edge_at-left.ensures.value) (same_edge _ (c.args.idx + 1) _ c.tables.view_is c.edge_at-right.ensures.value) c.then-left-self.either)

pub returns : goal.returns
unfolding PairedOf
returns g c =
    let a = c.in_ok-len.ensures in
    let b = c.in_ok-left_len.ensures in
    let d = c.in_ok-right_len.ensures in
    record {
      fault = tt;
      lies = record {
        node_is = refl;
        idx_is = refl;
        parent = a;
        left = b;
        right = d;
        within = c.if-idx-len.false;
        left_other = c.if-left-self.false;
        right_other = c.if-right-self.false;
        differ = c.if-left-right.false;
      };
      held = λ l r us e ws es fs xs bs ks ls s q.
          ap Ok (pair_is c.args.tables.now _ _ l r us e ws es fs xs bs ks ls q _ _ _ _ _ a.len_is (same_edge _ c.args.idx _ c.tables.view_is c.edge_at-left.ensures.value) (same_edge _ (c.args.idx + 1) _ c.tables.view_is c.edge_at-right.ensures.value) b.len_is d.len_is);
    }
