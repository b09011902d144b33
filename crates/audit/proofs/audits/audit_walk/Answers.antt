use Rattle.std.proofs.Common.{◌≡◌, ℕ, ◌≤◌, ◌+◌, false, sym, refl, subst, ◌∙◌}
use Rattle.std.proofs.lemmas.Bool.{both_ways}
use Rattle.std.proofs.lemmas.Option.{none-some}
use Rattle.node.specs.declared.nodes.NodeRef.{NodeRef}
use Rattle.node.specs.Store.{head_in}
use Rattle.walk.specs.Climbs.{Tops}
use Rattle.walk.specs.Walks.{Nodeless}
use Rattle.walk.proofs.Stepping.{some_is}
use Rattle.audit.specs.Audits.{Leads, TreeWhole}
use Rattle.audit.proofs.Booked.{idle_book, walk_bounds, walked_by, walk_book, idle_whole}
use Rattle.audit.proofs.audits.audit_walk.Goals as goal

pub returns-then-is_idle-clause-sound : goal.returns-then-is_idle-clause-sound
returns-then-is_idle-clause-sound g c = λ e sz. idle_book g.K.KeyOrder.compares c.args.tables.now sz c.args.walk c.args.met.now (c.if-is_idle.ensures.0 refl)

pub returns-then-is_idle-clause-whole : goal.returns-then-is_idle-clause-whole
returns-then-is_idle-clause-whole g c = λ b sz v u. (refl, idle_whole g.K.KeyOrder.compares c.args.tables.now sz c.args.walk c.args.met.now b (c.if-is_idle.ensures.0 refl) v)

pub returns-in-Some-clause-sound : goal.returns-in-Some-clause-sound
returns-in-Some-clause-sound g c = λ e sz.
    let st = c.in-Some.ensures.sound in
    walk_book g.K.KeyOrder.compares c.args.tables.now sz c.args.walk c.in-Some.root c.args.met.now c.shows.new.met st.0
    (subst (λ T. (head_in T.heads c.in-Some.root.node).parent ≡ 65535) c.tables.view_is st.1) (c.shows.ensures.sound e)

pub returns-in-Some-clause-whole : goal.returns-in-Some-clause-whole
returns-in-Some-clause-whole g c = λ b sz v u.
    let C = g.K.KeyOrder.compares in
    let T = c.args.tables.now in
    let e = c.args.walk.front.node in
    let off = λ (z : Nodeless c.args.walk). both_ways c.is_idle.result c.if-is_idle.false (c.is_idle.ensures.1 z) in
    let f = subst (λ T. (n : ℕ) → 0 + n ≤ 5 → Tops T.heads n e → Leads T.heads n e (0 + n) c.top.result) c.tables.view_is c.top.ensures.whole in
    let w = walked_by C T sz c.args.walk c.top.result c.args.met.now c.shows.new.met c.shows.result b off f v u in
    w.whole
    (subst (λ (r : NodeRef). TreeWhole C T (walk_bounds c.args.walk) r c.args.walk.left c.args.met.now c.shows.new.met c.shows.result)
    (some_is c.in-Some.root w.root (sym c.in-Some.is ∙ w.leads)) c.shows.ensures.whole)

pub returns-in-None-clause-whole : goal.returns-in-None-clause-whole
returns-in-None-clause-whole g c = λ b sz v u.
    let C = g.K.KeyOrder.compares in
    let T = c.args.tables.now in
    let e = c.args.walk.front.node in
    let off = λ (z : Nodeless c.args.walk). both_ways c.is_idle.result c.if-is_idle.false (c.is_idle.ensures.1 z) in
    let f = subst (λ T. (n : ℕ) → 0 + n ≤ 5 → Tops T.heads n e → Leads T.heads n e (0 + n) c.top.result) c.tables.view_is c.top.ensures.whole in
    let w = walked_by C T sz c.args.walk c.top.result c.args.met.now c.args.met.now false b off f v u in
    absurd (none-some w.root (sym c.in-None.is ∙ w.leads))
