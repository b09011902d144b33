use Rattle.std.proofs.Common.{Ok, Err, refl, ap, ◌∙◌, arith}
use Rattle.std.proofs.lemmas.Result.{err_from_is_err_and}
use Rattle.node.specs.Store.{tables}
use Rattle.node.proofs.Tabled.{err_not_ok}
use Rattle.cut.specs.Spine.{TakesSpine, SpineTaken}
use Rattle.cut.specs.Split.{Halves}
use Rattle.cut.proofs.Halving.{cut_done, left_done, right_done, halves_at}
use Rattle.cut.proofs.split.halve.Goals as goal

pub returns-then-root-gt-MAX_HEIGHT : goal.returns-then-root-gt-MAX_HEIGHT
unfolding Halves
returns-then-root-gt-MAX_HEIGHT g c = λ t o e z low. absurd (omega (arith, low, c.if-root-gt-MAX_HEIGHT.true))

pub returns-in_err-spare : goal.returns-in_err-spare
unfolding Halves
returns-in_err-spare g c = λ t o e z low.
    let d = c.in_err-spare.ensures in
    record {
      declined = λ _. (
        let p = err_from_is_err_and c.from_residual.result c.from_residual.ensures.1 in
            p.1 ∙ ap Err (p.2 ∙ d.1),
        record { tables_same = refl; stock_same = refl },
      );
      granted = λ f. absurd (omega (arith, d.0));
    }

pub returns-in_err-top : goal.returns-in_err-top
unfolding Halves TakesSpine
returns-in_err-top g c = λ t o e z low.
    absurd (c.in_err-top.ensures c.args.keys.now c.args.values.now o.fits c.in_ok-spare.ensures)

pub returns-in_err-made : goal.returns-in_err-made
unfolding Halves TakesSpine
returns-in_err-made g c = λ t o e z low.
    let place = g.Q.Placing.places c.args.query.now in
    let ks = c.args.keys.now in
    let vs = c.args.values.now in
    let T = tables c.args.heads.now ks vs in
    let T₁ = tables c.take_spine.new.heads ks vs in
    let T₂ = (tables c.cut_under.new.heads c.cut_under.new.keys c.cut_under.new.values) in
    let S = g.S.Supply.stock c.args.supply.now in
    let S₁ = g.S.Supply.stock c.take_spine.new.supply in
    let h = c.args.root.height in
    let m = c.args.root.node in
    let n = c.in_ok-top.top in
    let w : SpineTaken T T₁ S S₁ h n = c.in_ok-top.ensures ks vs o.fits c.in_ok-spare.ensures in
    absurd (err_not_ok _ _ (cut_done place T S h m t o e z low T₁ S₁ n w T₂ _ c.in_err-made.ensures.cuts).0)

pub returns-in_err-left : goal.returns-in_err-left
unfolding Halves TakesSpine
returns-in_err-left g c = λ t o e z low.
    let place = g.Q.Placing.places c.args.query.now in
    let ks = c.args.keys.now in
    let vs = c.args.values.now in
    let T = tables c.args.heads.now ks vs in
    let T₁ = tables c.take_spine.new.heads ks vs in
    let T₂ = (tables c.cut_under.new.heads c.cut_under.new.keys c.cut_under.new.values) in
    let S = g.S.Supply.stock c.args.supply.now in
    let S₁ = g.S.Supply.stock c.take_spine.new.supply in
    let h = c.args.root.height in
    let m = c.args.root.node in
    let n = c.in_ok-top.top in
    let w : SpineTaken T T₁ S S₁ h n = c.in_ok-top.ensures ks vs o.fits c.in_ok-spare.ensures in
    let T₃ = (tables c.fix_right_border.new.heads c.fix_right_border.new.keys c.fix_right_border.new.values) in
    let S₃ = g.S.Supply.stock c.fix_right_border.new.supply in
    absurd (err_not_ok _ _ (left_done place T S h m t o e z low T₁ S₁ n w T₂ _ c.in_ok-made.ensures.cuts T₃ S₃ _ c.in_err-left.ensures.repairs).answer)

pub returns-in_err-right : goal.returns-in_err-right
unfolding Halves TakesSpine
returns-in_err-right g c = λ t o e z low.
    let place = g.Q.Placing.places c.args.query.now in
    let ks = c.args.keys.now in
    let vs = c.args.values.now in
    let T = tables c.args.heads.now ks vs in
    let T₁ = tables c.take_spine.new.heads ks vs in
    let T₂ = (tables c.cut_under.new.heads c.cut_under.new.keys c.cut_under.new.values) in
    let S = g.S.Supply.stock c.args.supply.now in
    let S₁ = g.S.Supply.stock c.take_spine.new.supply in
    let h = c.args.root.height in
    let m = c.args.root.node in
    let n = c.in_ok-top.top in
    let w : SpineTaken T T₁ S S₁ h n = c.in_ok-top.ensures ks vs o.fits c.in_ok-spare.ensures in
    let T₃ = (tables c.fix_right_border.new.heads c.fix_right_border.new.keys c.fix_right_border.new.values) in
    let S₃ = g.S.Supply.stock c.fix_right_border.new.supply in
    let T₄ = (tables c.fix_left_border.new.heads c.fix_left_border.new.keys c.fix_left_border.new.values) in
    let S₄ = g.S.Supply.stock c.fix_left_border.new.supply in
    absurd (err_not_ok _ _ (right_done place T S h m t o e z low T₁ S₁ n w T₂ _ c.in_ok-made.ensures.cuts T₃ S₃ _ c.in_ok-left.ensures.repairs T₄ S₄ _ c.in_err-right.ensures.repairs).answer)

pub returns : goal.returns
unfolding Halves TakesSpine
returns g c = λ t o e z low.
    let place = g.Q.Placing.places c.args.query.now in
    let ks = c.args.keys.now in
    let vs = c.args.values.now in
    let T = tables c.args.heads.now ks vs in
    let T₁ = tables c.take_spine.new.heads ks vs in
    let T₂ = (tables c.cut_under.new.heads c.cut_under.new.keys c.cut_under.new.values) in
    let S = g.S.Supply.stock c.args.supply.now in
    let S₁ = g.S.Supply.stock c.take_spine.new.supply in
    let h = c.args.root.height in
    let m = c.args.root.node in
    let n = c.in_ok-top.top in
    let w : SpineTaken T T₁ S S₁ h n = c.in_ok-top.ensures ks vs o.fits c.in_ok-spare.ensures in
    let T₃ = (tables c.fix_right_border.new.heads c.fix_right_border.new.keys c.fix_right_border.new.values) in
    let S₃ = g.S.Supply.stock c.fix_right_border.new.supply in
    let T₄ = (tables c.fix_left_border.new.heads c.fix_left_border.new.keys c.fix_left_border.new.values) in
    let S₄ = g.S.Supply.stock c.fix_left_border.new.supply in
    record {
      declined = λ f. absurd (omega (arith, c.in_ok-spare.ensures));
      granted = λ _.
          halves_at place T S h m t o e z low T₁ S₁ n w T₂ (Ok c.in_ok-made.made) c.in_ok-made.ensures.cuts T₃ S₃ (Ok c.in_ok-left.left) c.in_ok-left.ensures.repairs
          T₄ S₄ (Ok c.in_ok-right.right) c.in_ok-right.ensures.repairs c.in_ok-made.made c.in_ok-left.left c.in_ok-right.right refl refl refl;
    }
