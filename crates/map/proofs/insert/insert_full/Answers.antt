use Rattle.std.proofs.Common.{Ok, arith, length-append}
use Rattle.node.specs.Store.{tables}
use Rattle.node.proofs.Tabled.{err_not_ok}
use Rattle.map.specs.Inserts.{InsertsLeft, InsertsRight}
use Rattle.map.proofs.Inserting.{left_half, right_half}
use Rattle.map.proofs.insert.insert_full.Goals as goal

pub returns-in_err-entry-clause-left : goal.returns-in_err-entry-clause-left
unfolding InsertsLeft
returns-in_err-entry-clause-left g c = λ as' bs x fs ks ls ms cs s nd p six f1 l1 l2 f2 ed there other kids.
    let T = tables c.args.heads.now c.args.keys.now c.args.values.now in
    let T₁ = tables c.split.new.heads c.split.new.keys c.split.new.values in
    absurd (err_not_ok _ _ (left_half T T₁ T₁ c.args.node.height c.args.node.node c.args.idx (c.args.key, c.args.val) c.args.edge c.args.right _ (Ok tt) as' bs x fs ks ls ms cs c.in_err-entry.ensures.splits s nd p six f1 l1 l2 f2 ed there other kids).0)

pub returns-in_err-entry-clause-right : goal.returns-in_err-entry-clause-right
unfolding InsertsRight
returns-in_err-entry-clause-right g c = λ es x as' bs ks ms ls cs s nd six p f1 f2 l1 l2 ed there other kids.
    let T = tables c.args.heads.now c.args.keys.now c.args.values.now in
    let T₁ = tables c.split.new.heads c.split.new.keys c.split.new.values in
    absurd (err_not_ok _ _ (right_half T T₁ T₁ c.args.node.height c.args.node.node c.args.idx (c.args.key, c.args.val) c.args.edge c.args.right _ (Ok tt) es x as' bs ks ms ls cs c.in_err-entry.ensures.splits s nd six p f1 f2 l1 l2 ed there other kids).0)

pub returns-in_err-insert_fit-clause-left : goal.returns-in_err-insert_fit-clause-left
unfolding InsertsLeft
returns-in_err-insert_fit-clause-left g c = λ as' bs x fs ks ls ms cs s nd p six f1 l1 l2 f2 ed there other kids.
    let T = tables c.args.heads.now c.args.keys.now c.args.values.now in
    let T₁ = tables c.split.new.heads c.split.new.keys c.split.new.values in
    let T₂ = tables c.insert_fit.new.heads c.insert_fit.new.keys c.insert_fit.new.values in
    absurd (err_not_ok _ _ ((left_half T T₁ T₂ c.args.node.height c.args.node.node c.args.idx (c.args.key, c.args.val) c.args.edge c.args.right _ _ as' bs x fs ks ls ms cs c.in_ok-entry.ensures.splits s nd p six f1 l1 l2 f2 ed there other kids).1 c.in_err-insert_fit.ensures.inserts).0)

pub returns-in_err-insert_fit-clause-right : goal.returns-in_err-insert_fit-clause-right
unfolding InsertsRight
returns-in_err-insert_fit-clause-right g c = λ es x as' bs ks ms ls cs s nd six p f1 f2 l1 l2 ed there other kids.
    absurd (omega arith)

pub returns-then-idx-le-B-clause-left : goal.returns-then-idx-le-B-clause-left
unfolding InsertsLeft
returns-then-idx-le-B-clause-left g c = λ as' bs x fs ks ls ms cs s nd p six f1 l1 l2 f2 ed there other kids.
    let T = tables c.args.heads.now c.args.keys.now c.args.values.now in
    let T₁ = tables c.split.new.heads c.split.new.keys c.split.new.values in
    let T₂ = tables c.insert_fit.new.heads c.insert_fit.new.keys c.insert_fit.new.values in
    let d = left_half T T₁ T₂ c.args.node.height c.args.node.node c.args.idx (c.args.key, c.args.val) c.args.edge c.args.right _ _ as' bs x fs ks ls ms cs c.in_ok-entry.ensures.splits s nd p six f1 l1 l2 f2 ed there other kids in
    let q = d.1 c.in_ok-insert_fit.ensures.inserts in
    (d.0, q.1, q.2, q.3, q.4, q.5)

pub returns-then-idx-le-B-clause-right : goal.returns-then-idx-le-B-clause-right
unfolding InsertsRight
returns-then-idx-le-B-clause-right g c = λ es x as' bs ks ms ls cs s nd six p f1 f2 l1 l2 ed there other kids.
    absurd (omega arith)

pub returns-in_err-insert_fit-2-clause-left : goal.returns-in_err-insert_fit-2-clause-left
unfolding InsertsLeft
returns-in_err-insert_fit-2-clause-left g c = λ as' bs x fs ks ls ms cs s nd p six f1 l1 l2 f2 ed there other kids.
    absurd (omega (arith, length-append as' bs))

pub returns-in_err-insert_fit-2-clause-right : goal.returns-in_err-insert_fit-2-clause-right
unfolding InsertsRight
returns-in_err-insert_fit-2-clause-right g c = λ es x as' bs ks ms ls cs s nd six p f1 f2 l1 l2 ed there other kids.
    let T = tables c.args.heads.now c.args.keys.now c.args.values.now in
    let T₁ = tables c.split.new.heads c.split.new.keys c.split.new.values in
    let T₂ = tables c.insert_fit-2.new.heads c.insert_fit-2.new.keys c.insert_fit-2.new.values in
    absurd (err_not_ok _ _ ((right_half T T₁ T₂ c.args.node.height c.args.node.node c.args.idx (c.args.key, c.args.val) c.args.edge c.args.right _ _ es x as' bs ks ms ls cs c.in_ok-entry.ensures.splits s nd six p f1 f2 l1 l2 ed there other kids).1 c.in_err-insert_fit-2.ensures.inserts).0)

pub returns-clause-left : goal.returns-clause-left
unfolding InsertsLeft
returns-clause-left g c = λ as' bs x fs ks ls ms cs s nd p six f1 l1 l2 f2 ed there other kids.
    absurd (omega (arith, length-append as' bs))

pub returns-clause-right : goal.returns-clause-right
unfolding InsertsRight
returns-clause-right g c = λ es x as' bs ks ms ls cs s nd six p f1 f2 l1 l2 ed there other kids.
    let T = tables c.args.heads.now c.args.keys.now c.args.values.now in
    let T₁ = tables c.split.new.heads c.split.new.keys c.split.new.values in
    let T₂ = tables c.insert_fit-2.new.heads c.insert_fit-2.new.keys c.insert_fit-2.new.values in
    let d = right_half T T₁ T₂ c.args.node.height c.args.node.node c.args.idx (c.args.key, c.args.val) c.args.edge c.args.right _ _ es x as' bs ks ms ls cs c.in_ok-entry.ensures.splits s nd six p f1 f2 l1 l2 ed there other kids in
    let q = d.1 c.in_ok-insert_fit-2.ensures.inserts in
    (d.0, q.1, q.2, q.3, q.4, q.5)
