use Rattle.std.proofs.Common.{◌≡◌, ◌<◌, ◌≤◌, false, length, sym, refl, subst}
use Rattle.std.proofs.lemmas.Bool.{both_ways}
use Rattle.node.specs.Store.{head_in}
use Rattle.audit.proofs.Booked.{tree_book, planted_by}
use Rattle.audit.proofs.audits.audit_tree.Goals as goal

pub returns-then-is_root-clause-sound : goal.returns-then-is_root-clause-sound
returns-then-is_root-clause-sound g c = λ e sz.
    let st = c.if-is_root.ensures.0 refl in
    tree_book g.K.KeyOrder.compares c.args.tables.now sz c.args.root c.args.count c.args.met.now c.shows.new.met
    (subst (λ T. (head_in T.heads c.args.root.node).parent ≡ 65535) c.tables.view_is st.2) (c.shows.ensures.sound e)

pub returns-then-is_root-clause-whole : goal.returns-then-is_root-clause-whole
returns-then-is_root-clause-whole g c = λ b sz v u.
    (planted_by g.K.KeyOrder.compares c.args.tables.now sz c.args.root c.args.count c.args.met.now c.shows.new.met c.shows.result b v u).whole c.shows.ensures.whole

pub returns-else-is_root-clause-whole : goal.returns-else-is_root-clause-whole
returns-else-is_root-clause-whole g c = λ b sz v u.
    let w = planted_by g.K.KeyOrder.compares c.args.tables.now sz c.args.root c.args.count c.args.met.now c.args.met.now false b v u in
    let is = subst (λ T. (c.args.root.height ≤ 5) × (c.args.root.node < length T.heads) × ((head_in T.heads c.args.root.node).parent ≡ 65535)) (sym c.tables.view_is) (w.low, w.inside, w.rooted) in
    absurd (both_ways c.is_root.result c.if-is_root.false (c.is_root.ensures.1 is))
