use Rattle.std.proofs.Common.{Err, sym, refl, ap, ◌∙◌, arith}
use Rattle.node.specs.Store.{tables}
use Rattle.std.proofs.lemmas.Result.{err_from_is_err_and}
use Rattle.node.proofs.Tabled.{err_not_ok, err_same}
use Rattle.cut.specs.Split.{Halves, SplitsOff}
use Rattle.cut.proofs.Splitting.{split_low, counts_to, split_at}
use Rattle.cut.proofs.split.split_off.Goals as goal

pub returns-then-count-eq0 : goal.returns-then-count-eq0
unfolding SplitsOff
returns-then-count-eq0 g c = λ t o e z f n. record {
  empty = λ _. (refl, record { tables_same = refl; stock_same = refl });
  declined = λ some. absurd (omega (arith, c.if-count-eq0.true));
  granted = λ some. absurd (omega (arith, c.if-count-eq0.true));
}

pub returns-in_err-left : goal.returns-in_err-left
unfolding SplitsOff Halves
returns-in_err-left g c = λ t o e z f n.
    let place = g.Q.Placing.places c.args.query.now in
    let T = (tables c.args.heads.now c.args.keys.now c.args.values.now) in
    let T' = (tables c.halve.new.heads c.halve.new.keys c.halve.new.values) in
    let S = g.S.Supply.stock c.args.supply.now in
    let S' = g.S.Supply.stock c.halve.new.supply in
    let h = c.args.root.height in
    let low = split_low T S h t o f in
    let d = c.in_err-left.ensures t o e z low in
    record {
      empty = λ none. absurd (omega (arith, c.if-count-eq0.false));
      declined = λ _ few. (
        let p = err_from_is_err_and c.from_residual.result c.from_residual.ensures.1 in
            p.1 ∙ ap Err (p.2 ∙ err_same _ _ (d.declined few).0),
        (d.declined few).1,
      );
      granted = λ _ room. absurd (err_not_ok _ _ (d.granted room).answer);
    }

pub returns-in_err-before : goal.returns-in_err-before
unfolding SplitsOff Halves
returns-in_err-before g c = λ t o e z f n.
    let place = g.Q.Placing.places c.args.query.now in
    let T = (tables c.args.heads.now c.args.keys.now c.args.values.now) in
    let T' = (tables c.halve.new.heads c.halve.new.keys c.halve.new.values) in
    let S = g.S.Supply.stock c.args.supply.now in
    let S' = g.S.Supply.stock c.halve.new.supply in
    let h = c.args.root.height in
    let low = split_low T S h t o f in
    let d = c.in_ok-left.ensures t o e z low in
    record {
      empty = λ none. absurd (omega (arith, c.if-count-eq0.false));
      declined = λ _ few. absurd (err_not_ok _ _ (sym (d.declined few).0));
      granted = λ _ room.
          absurd (err_not_ok _ _ (counts_to place T T' S S' h t low f c.args.count n c.in_ok-left.left c.in_ok-left.right c.in_ok-left.made (d.granted room) refl _ c.in_err-before.ensures));
    }

pub returns : goal.returns
unfolding SplitsOff Halves
returns g c = λ t o e z f n.
    let place = g.Q.Placing.places c.args.query.now in
    let T = (tables c.args.heads.now c.args.keys.now c.args.values.now) in
    let T' = (tables c.halve.new.heads c.halve.new.keys c.halve.new.values) in
    let S = g.S.Supply.stock c.args.supply.now in
    let S' = g.S.Supply.stock c.halve.new.supply in
    let h = c.args.root.height in
    let low = split_low T S h t o f in
    let d = c.in_ok-left.ensures t o e z low in
    record {
      empty = λ none. absurd (omega (arith, c.if-count-eq0.false));
      declined = λ _ few. absurd (err_not_ok _ _ (sym (d.declined few).0));
      granted = λ _ room.
          split_at place T T' S S' h t low f c.args.count n c.in_ok-left.left c.in_ok-left.right c.in_ok-left.made (d.granted room)
          refl c.in_ok-before.before c.in_ok-before.after c.in_ok-before.ensures;
    }
