use Rattle.std.proofs.Common.{◌≡◌, ℕ, ◌≤◌, ◌-◌, ◌+◌, ◌*◌, None, arith, ap, sym, refl, subst}
use Rattle.std.specs.Option.{MatchOption}
use Rattle.node.specs.Links.{edge}
use Rattle.node.proofs.Frames.{height_suc}
use Rattle.walk.specs.Window.{bounds}
use Rattle.audit.specs.Passes.{trail, pass, Led, Passable}
use Rattle.audit.specs.Runs.{Notes}
use Rattle.node.specs.Cells.{span}
use Rattle.audit.proofs.Climbs.{none_by}
use Rattle.audit.proofs.Passing.{Going, part_as, leaf_taken, lowered, going_start, going_led, going_view, going_more, going_done, fits_of}
use Rattle.audit.proofs.passes.+pass.Goals as goal

pub returns-in_err-from : goal.returns-in_err-from
returns-in_err-from g t c =
    none_by c.from_residual.result _ _ c.from_residual.ensures
    (λ p. c.in_err-from.ensures (fits_of g.K.KeyOrder.compares c.args.tables.now c.args.part.least (bounds c.args.part.front c.args.part.back) c.args.part.node.height c.args.part.node.node (trail c.args.met.now c.args.run.now) p).0)

pub returns-in_err-meet : goal.returns-in_err-meet
returns-in_err-meet g t c =
    none_by c.from_residual-in_err-meet.result _ _ c.from_residual-in_err-meet.ensures
    (λ p. c.in_err-meet.ensures (fits_of g.K.KeyOrder.compares c.args.tables.now c.args.part.least (bounds c.args.part.front c.args.part.back) c.args.part.node.height c.args.part.node.node (trail c.args.met.now c.args.run.now) p).1)

pub returns-then-part-eq0 : goal.returns-then-part-eq0
returns-then-part-eq0 g t c =
    let st = c.in_ok-from.ensures in
    leaf_taken g.K.KeyOrder.compares c.args.tables.now c.args.part.least (bounds c.args.part.front c.args.part.back) c.args.part.node.height c.args.part.node.node c.in_ok-from.from c.in_ok-from.to
    (trail c.args.met.now c.args.run.now) c.meet.new.self c.take_keys.new.run c.take_keys.result c.if-part-eq0.true st.0 c.in_ok-meet.ensures.0 c.in_ok-meet.ensures.1 st.1 st.2 c.take_keys.ensures

pub loop-idx-init : goal.loop-idx-init
loop-idx-init g t c =
    let st = c.in_ok-from.ensures in
    let h = c.args.part.node.height in
    going_start g.K.KeyOrder.compares c.args.tables.now c.args.part.least (bounds c.args.part.front c.args.part.back) (h - 1) h c.args.part.node.node c.in_ok-from.from c.in_ok-from.to
    (trail c.args.met.now c.args.run.now) (trail c.meet.new.self c.args.run.now) (height_suc h (omega arith)) st.0 c.in_ok-meet.ensures.0 (ap (λ m. trail m c.args.run.now) c.in_ok-meet.ensures.1) st.1 st.2

pub returns-in_err-child : goal.returns-in_err-child
returns-in_err-child g t c =
    none_by c.from_residual-in_err-child.result _ _ c.from_residual-in_err-child.ensures
    (λ p. c.in_err-child.ensures (going_led _ _ _ _ _ _ _ _ _ _ _ c.loop-idx.invariant (lowered _ _ _ _ _ _ _ (omega arith) p)))

pub returns-in_err-pass : goal.returns-in_err-pass
returns-in_err-pass g t c =
    let C = g.K.KeyOrder.compares in
    let T = c.args.tables.now in
    let s = trail c.loop-idx.met c.loop-idx.run in
    let h : ℕ = c.args.part.node.height - 1 in
    let k : ℕ = edge T.heads c.args.part.node.node c.loop-idx.idx in
    let off =
    part_as (λ l b h m. Passable C T l b h m s → ⊥) c.in_ok-child.child k h c.take.result c.loop-idx.front None c.in_ok-child.ensures.1 c.take.ensures.value c.in_err-pass.ensures in
    none_by c.from_residual-in_err-pass.result _ _ c.from_residual-in_err-pass.ensures
    (λ p. off (going_view _ _ _ _ _ _ _ _ _ _ _ c.loop-idx.invariant (c.in_ok-from.to - (c.loop-idx.idx + 1)) (omega arith) (lowered _ _ _ _ _ _ _ (omega arith) p)).kid)

pub returns-in_err-take_keys : goal.returns-in_err-take_keys
returns-in_err-take_keys g t c =
    let C = g.K.KeyOrder.compares in
    let T = c.args.tables.now in
    let s = trail c.loop-idx.met c.loop-idx.run in
    let s' = trail c.pass.new.met c.pass.new.run in
    let h : ℕ = c.args.part.node.height - 1 in
    let m : ℕ = c.args.part.node.node in
    let i : ℕ = c.loop-idx.idx in
    let k : ℕ = edge T.heads m i in
    let done =
    part_as (λ l b h m. Passable C T l b h m s × (s' ≡ pass T b h m s)) c.in_ok-child.child k h c.take.result c.loop-idx.front None c.in_ok-child.ensures.1 c.take.ensures.value c.in_ok-pass.ensures in
    none_by c.from_residual-in_err-take_keys.result _ _ c.from_residual-in_err-take_keys.ensures
    (λ p. c.in_err-take_keys.ensures (subst (λ x. Notes C (span T.keys (11 * m + i) 1) x.run) (sym done.1) (going_view _ _ _ _ _ _ _ _ _ _ _ c.loop-idx.invariant (c.in_ok-from.to - (i + 1)) (omega arith) (lowered _ _ _ _ _ _ _ (omega arith) p)).notes))

pub loop-idx-preserved : goal.loop-idx-preserved
loop-idx-preserved g t c =
    let C = g.K.KeyOrder.compares in
    let T = c.args.tables.now in
    let s = trail c.loop-idx.met c.loop-idx.run in
    let s' = trail c.pass.new.met c.pass.new.run in
    let s2 = trail c.pass.new.met c.take_keys-in-loop-idx.new.run in
    let h : ℕ = c.args.part.node.height - 1 in
    let m : ℕ = c.args.part.node.node in
    let i : ℕ = c.loop-idx.idx in
    let k : ℕ = edge T.heads m i in
    let n : ℕ = c.in_ok-from.to - (i + 1) in
    let done =
    part_as (λ l b h m. Passable C T l b h m s × (s' ≡ pass T b h m s)) c.in_ok-child.child k h c.take.result c.loop-idx.front None c.in_ok-child.ensures.1 c.take.ensures.value c.in_ok-pass.ensures in
    subst (λ e. Going C T c.args.part.least (bounds c.args.part.front c.args.part.back) h m (trail c.args.met.now c.args.run.now) n (i + 1) (bounds e c.args.part.back) s2) (sym c.take.ensures.after)
    (going_more _ _ _ _ _ _ _ _ _ _ _ c.loop-idx.invariant n s' s2 (omega arith) c.in_ok-child.ensures.0 done.0 done.1 c.in_ok-take_keys.ensures.0 (ap (trail c.pass.new.met) c.in_ok-take_keys.ensures.1))

pub returns-in_err-child-2 : goal.returns-in_err-child-2
returns-in_err-child-2 g t c =
    let fits = c.in_ok-from.ensures in
    let le : c.in_ok-from.from ≤ c.in_ok-from.to = omega (arith, fits.0.ordered, fits.1, fits.2) in
    let i : c.loop-idx.idx ≡ c.in_ok-from.to = omega arith in
    none_by c.from_residual-in_err-child-2.result _ _ c.from_residual-in_err-child-2.ensures
    (λ p. c.in_err-child-2.ensures (subst (λ i. Led c.args.tables.now c.args.part.node.node i) i (going_led _ _ _ _ _ _ _ _ _ _ _ c.loop-idx.invariant (lowered _ _ _ _ _ _ _ (omega arith) p))))

pub returns : goal.returns
returns g t c =
    let C = g.K.KeyOrder.compares in
    let T = c.args.tables.now in
    let s = trail c.loop-idx.met c.loop-idx.run in
    let s' = trail c.pass-2.new.met c.pass-2.new.run in
    let h : ℕ = c.args.part.node.height - 1 in
    let m : ℕ = c.args.part.node.node in
    let i : ℕ = c.loop-idx.idx in
    let j : ℕ = c.in_ok-from.to in
    let fits = c.in_ok-from.ensures in
    let le : c.in_ok-from.from ≤ c.in_ok-from.to = omega (arith, fits.0.ordered, fits.1, fits.2) in
    let z : j ≡ i = omega arith in
    let k : ℕ = edge T.heads m j in
    let o = c.pass-2.result in
    let f = c.loop-idx.front in
    let e = c.args.part.back in
    let done =
    part_as (λ l b h m. MatchOption o (Passable C T l b h m s → ⊥) (λ _. Passable C T l b h m s × (s' ≡ pass T b h m s))) c.in_ok-child-2.child k h f f e c.in_ok-child-2.ensures.1 refl c.pass-2.ensures in
    let here =
    subst (λ j. MatchOption o (Passable C T 4 (bounds f e) h (edge T.heads m j) s → ⊥) (λ _. Passable C T 4 (bounds f e) h (edge T.heads m j) s × (s' ≡ pass T (bounds f e) h (edge T.heads m j) s))) z done in
    going_done _ _ _ _ _ _ _ _ _ _ _ c.loop-idx.invariant o s' (omega arith) (subst (λ j. Led T m j) z c.in_ok-child-2.ensures.0) here c.args.part.node.height (height_suc c.args.part.node.height (omega arith))
