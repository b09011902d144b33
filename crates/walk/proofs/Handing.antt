-- What a step of a walk comes to. Assumes nothing.
use Rattle.std.proofs.Common.{◌≡◌, ℕ, zero, suc, ◌+◌, ◌-◌, ◌*◌, ◌<◌, ◌≤◌, true, List, [], length, get_or, is_err, IsErrAnd, Some, None, Ok, Err, Option, Result, sym, refl, ap, ◌∙◌, subst, ap₂, arith}
use Rattle.std.proofs.lemmas.Result.{IfOk-from_err}
use Rattle.std.proofs.lemmas.Bool.{false≢true}
use Rattle.supply.specs.declared.faults.Fault.{Fault}
use Rattle.supply.specs.declared.faults.Fault.TheVariants.{Breach}
use Rattle.supply.specs.Stocks.{Stock}
use Rattle.node.specs.declared.head.Head.{Head}
use Rattle.node.specs.declared.ends.Handle.{Handle}
use Rattle.node.specs.declared.ends.Side.{Side}
use Rattle.node.specs.declared.ends.Side.TheVariants.{First, Last}
use Rattle.node.specs.Balance.{Balanced, Rooted}
use Rattle.node.specs.Ends.{Chain, end_edge}
use Rattle.node.specs.Laws.{occurs}
use Rattle.node.specs.Links.{edge}
use Rattle.node.specs.Shape.{Tree, node, none, flat, root_least}
use Rattle.node.specs.Store.{Tables, tables, times, first, second}
use Rattle.node.proofs.Balances.{balanced_as}
use Rattle.node.proofs.Runs.{run_at}
use Rattle.walk.specs.declared.climb.Spot.{Spot}
use Rattle.walk.specs.declared.walks.Walk.{Walk}
use Rattle.node.specs.Breaches.{Breached}
use Rattle.walk.specs.Climbs.{handle, spot, onward, ups, Finds, Leads}
use Rattle.walk.specs.Leaving.{Leaves}
use Rattle.walk.specs.Steps.{step}
use Rattle.walk.specs.Walks.{end_of, moved, Walks, Hands, Stepped, StandsAt}
use Rattle.walk.specs.Window.{bounds, bound, put, Shown}
use Rattle.node.proofs.Breaking.{breached_by}
use Rattle.walk.proofs.Stepping.{length_cons, step_takes, step_stops}
use Rattle.walk.proofs.Walking.{Goes, goes}
use Rattle.walk.proofs.Windows.{shown_fanned}

pub ok_is : {X : Type 0} (x y : X) → ◌≡◌ {A = Result X Fault} (Ok x) (Ok y) → x ≡ y
ok_is x y e = cc

pub err_ok : {X : Type 0} (f : Fault) (x : X) → ◌≡◌ {A = Result X Fault} (Err f) (Ok x) → ⊥
err_ok f x e = let z : ◌≡◌ {A = ℕ} 0 1 = cc in omega arith

-- an entry that is read where it stands
pub read_at : {K V : Type 0} (H : List Head) (ks : List K) (vs : List V) (p : Spot) (k : K) (v : V) → k ≡ get_or ks (11 * p.node + p.idx) k → v ≡ get_or vs (11 * p.node + p.idx) v
    → StandsAt (tables H ks vs) p (Ok (get_or ks (11 * p.node + p.idx) k, get_or vs (11 * p.node + p.idx) v))
read_at H ks vs p k v q r us bs x cs sz n e =
    ap₂ (λ k v. Ok (k, v)) (sym q ∙ run_at first ks (11 * p.node) p.idx us x bs k n.keys_are e q) (sym r ∙ run_at second vs (11 * p.node) p.idx us x bs v n.values_are e r)

leads_at : (s : Side) (H : List Head) (n m i : ℕ) (f : Handle) (r : Result Handle Fault) → Leads s H (spot m i n) r → n ≤ 5 → (n ≡ 0 → f ≡ handle m (onward s i))
    → ((j : ℕ) → n ≡ suc j → Chain s H j (edge H m (onward s i)) × (f ≡ end_edge s H j (edge H m (onward s i)))) → r ≡ Ok f
leads_at s H zero m i f r l o a b = l.here refl ∙ ap (λ x. Ok x) (sym (a refl))
leads_at s H (suc j) m i f r l o a b = let c = b j refl in l.below j refl (omega arith) c.0 ∙ ap (λ x. Ok x) (sym c.1)

module _ {K V : Type 0} (s : Side) (T : Tables K V) (S : Stock) (h : ℕ) (t : Tree (K × V)) (w : Walk) where
  bound_is : bound s (bounds (Some w.front) (Some w.back)) ≡ Some (end_of s w)
  bound_is = elim s as (λ s. bound s (bounds (Some w.front) (Some w.back)) ≡ Some (end_of s w)) [ First ↦ refl | Last ↦ refl ]

  bounds_moved : (f : Handle) → put s (Some f) (bounds (Some w.front) (Some w.back)) ≡ bounds (Some (moved s f w).front) (Some (moved s f w).back)
  bounds_moved f =
      elim s as (λ s. put s (Some f) (bounds (Some w.front) (Some w.back)) ≡ bounds (Some (moved s f w).front) (Some (moved s f w).back)) [ First ↦ refl | Last ↦ refl ]

  left_moved : (f : Handle) → (moved s f w).left ≡ w.left - 1
  left_moved f = elim s as (λ s. (moved s f w).left ≡ w.left - 1) [ First ↦ refl | Last ↦ refl ]

  -- where something is left, a step has a way
  pub record Plan : Type 0 where
    pub x : K × V
    pub t' : Tree (K × V)
    pub step_is : step s h t ≡ Some (x, t')
    pub way : Goes T s (root_least h) (bounds (Some w.front) (Some w.back)) h t (end_of s w) x t'

  plan_by : Walks T S h t w → 0 < w.left → (o : Option ((K × V) × Tree (K × V))) → step s h t ≡ o → Plan
  plan_by v l None q =
      absurd (let z = ap length (step_stops s h t (shown_fanned T (root_least h) (bounds (Some w.front) (Some w.back)) h t v.shown) q) in omega (arith, z, v.counted))
  plan_by v l (Some p) q = record {
    x = p.0;
    t' = p.1;
    step_is = q;
    way = goes T s v.sized (root_least h) (bounds (Some w.front) (Some w.back)) h t (end_of s w) p.0 p.1 v.shown bound_is q;
  }

  pub plan : Walks T S h t w → 0 < w.left → Plan
  plan v l = plan_by v l (step s h t) refl

  module _ (v : Walks T S h t w) (p : Plan) where
    abbrev Place : Spot
    Place = spot p.way.m p.way.i p.way.n

    pub found_is : (r : Result Spot Fault) → Finds s T.heads 0 (end_of s w) r → r ≡ Ok Place
    found_is r f =
        let z : 0 + p.way.n ≡ p.way.n = omega arith in
        subst (λ n. r ≡ Ok (spot p.way.m p.way.i n)) z
        (f p.way.n p.way.m p.way.i (omega (arith, p.way.low, v.low)) (record { past = p.way.past; found = p.way.found (0 + p.way.n) }))

    pub entry_is : (q : Spot) (r : Result (K × V) Fault) → q ≡ Place → StandsAt T q r → r ≡ Ok p.x
    entry_is q r e a = subst (λ q. StandsAt T q r) e a p.way.us p.way.vs p.x p.way.cs v.sized p.way.entry p.way.entry_at

    pub edge_is : (q : Spot) (r : Result Handle Fault) → q ≡ Place → Leads s T.heads q r → r ≡ Ok p.way.f
    edge_is q r e a =
        leads_at s T.heads p.way.n p.way.m p.way.i p.way.f r (subst (λ q. Leads s T.heads q r) e a) (omega (arith, p.way.low, v.low)) p.way.next_here p.way.next_below

    pub left_is : (q : Spot) (S' : Stock) (r : Result (Unit {0}) Fault) → q ≡ Place → Leaves S S' T.heads q.level (end_of s w).node r → r ≡ Ok tt
    left_is q S' r e a =
        (subst (λ q. Leaves S S' T.heads q.level (end_of s w).node r) e a).whole p.way.lie (λ x. omega (arith, p.way.gone x, v.owned x))

    -- the walk after it
    pub hands_on : (S' : Stock) → Balanced S S' (λ x. times x (ups T.heads p.way.n (end_of s w).node)) (λ _. 0) → Hands s T S S' h t (moved s p.way.f w) (Ok (Some p.x))
    hands_on S' b =
        let fanned = shown_fanned T (root_least h) (bounds (Some w.front) (Some w.back)) h t v.shown in
        let is = (step_takes s h t p.x p.t' fanned p.step_is).flat_is in
        record {
          entry = p.x;
          rest = p.t';
          answer = refl;
          step_is = p.step_is;
          walks = record {
            sized = v.sized;
            fits = b.size ∙ v.fits;
            low = v.low;
            shown = subst (λ b. Shown T (root_least h) b h p.t') (bounds_moved p.way.f) p.way.shown;
            owned = λ x. omega (arith, b.marks x, p.way.gone x, v.owned x);
            rooted = subst (Rooted T) (sym p.way.number_same) v.rooted;
            counted = left_moved p.way.f ∙ omega (arith, v.counted, ap length is, length_cons s p.x (flat h p.t'));
          };
          balanced = balanced_as S S' (λ x. times x (ups T.heads p.way.n (end_of s w).node)) (λ _. 0) (λ x. occurs x h t) (λ x. occurs x h p.t') (λ x. omega (arith, p.way.gone x)) b;
          flat_is = is;
        }

-- ---- what a step answers, by its ways

-- the heads are those of the same tables under another name
module _ {K V : Type 0} (s : Side) {T U : Tables K V} (y : U ≡ T) (S S' : Stock) (w : Walk) (e : Handle) (z : e ≡ end_of s w) where
  pub at_end : (r : Result Spot Fault) → Finds s U.heads 0 e r → Finds s T.heads 0 (end_of s w) r
  at_end r f = subst (λ (T : Tables K V). Finds s T.heads 0 (end_of s w) r) y (subst (λ e. Finds s U.heads 0 e r) z f)

  pub at_view : (r : Result Spot Fault) → Finds s T.heads 0 (end_of s w) r → Finds s U.heads 0 e r
  at_view r f = subst (λ (T : Tables K V). Finds s T.heads 0 e r) (sym y) (subst (λ e. Finds s T.heads 0 e r) (sym z) f)

  from_end : (n : ℕ) (r : Result (Unit {0}) Fault) → Leaves S S' U.heads n e.node r → Leaves S S' T.heads n (end_of s w).node r
  from_end n r f = subst (λ (T : Tables K V). Leaves S S' T.heads n (end_of s w).node r) y (subst (λ e. Leaves S S' U.heads n e.node r) z f)

  leading : (q : Spot) (r : Result Handle Fault) → Leads s U.heads q r → Leads s T.heads q r
  leading q r f = subst (λ (T : Tables K V). Leads s T.heads q r) y f

  -- a refusal that cannot be for a walk
  pub stepped_refused : (r : Result (Option (K × V)) Fault) → 0 < w.left → is_err r ≡ true → Breached r → ((h : ℕ) (t : Tree (K × V)) → Walks T S h t w → Plan s T S h t w → ⊥) → Stepped s T S S' w w r
  stepped_refused r l q g f = record {
    fault = g;
    none_left = λ z. absurd (omega arith);
    one_less = λ _. IfOk-from_err r _ q;
    kept = λ _. refl;
    hands = λ h t v o. absurd (f h t v (plan s T S h t w v o));
  }

  module _ (h : ℕ) (t : Tree (K × V)) (v : Walks T S h t w) (p : Plan s T S h t w) where
    pub spot_found : (q : Spot) → Finds s U.heads 0 e (Ok q) → q ≡ spot p.way.m p.way.i p.way.n
    spot_found q f = ok_is q (spot p.way.m p.way.i p.way.n) (found_is s T S h t w v p (Ok q) (at_end (Ok q) f))

    pub no_spot : (y : Fault) → Finds s U.heads 0 e (Err y) → ⊥
    no_spot y f = err_ok y (spot p.way.m p.way.i p.way.n) (found_is s T S h t w v p (Err y) (at_end (Err y) f))

    pub no_entry : (q : Spot) (y : Fault) → Finds s U.heads 0 e (Ok q) → StandsAt T q (Err y) → ⊥
    no_entry q y f a = err_ok y p.x (entry_is s T S h t w v p q (Err y) (spot_found q f) a)

    pub no_edge : (q : Spot) (y : Fault) → Finds s U.heads 0 e (Ok q) → Leads s U.heads q (Err y) → ⊥
    no_edge q y f a = err_ok y p.way.f (edge_is s T S h t w v p q (Err y) (spot_found q f) (leading q (Err y) a))

    pub no_leave : (q : Spot) (y : Fault) → Finds s U.heads 0 e (Ok q) → Leaves S S' U.heads q.level e.node (Err y) → ⊥
    no_leave q y f a = err_ok y tt (left_is s T S h t w v p q S' (Err y) (spot_found q f) (from_end q.level (Err y) a))

    hands_all : (q : Spot) (x : K × V) (f : Handle) → Finds s U.heads 0 e (Ok q) → StandsAt T q (Ok x) → Leads s U.heads q (Ok f) → Leaves S S' U.heads q.level e.node (Ok tt)
        → Hands s T S S' h t (moved s f w) (Ok (Some x))
    hands_all q x f a b c d =
        let is = spot_found q a in
        let x-is = ok_is x p.x (entry_is s T S h t w v p q (Ok x) is b) in
        let f-is = ok_is f p.way.f (edge_is s T S h t w v p q (Ok f) is (leading q (Ok f) c)) in
        subst (λ y. Hands s T S S' h t (moved s f w) (Ok (Some y))) (sym x-is)
        (subst (λ g. Hands s T S S' h t (moved s g w) (Ok (Some p.x))) (sym f-is)
        (hands_on s T S h t w v p S' (subst (λ q. Leaves S S' T.heads q.level (end_of s w).node (Ok tt)) is (from_end q.level (Ok tt) d)).given))

  -- the refusals of the code
  module _ (r : Result (Option (K × V)) Fault) (f : Fault) (l : 0 < w.left) (c : is_err r ≡ true × IsErrAnd r (λ z. z ≡ f)) (g : f ≡ Breach) where
    refused : ((h : ℕ) (t : Tree (K × V)) → Walks T S h t w → Plan s T S h t w → ⊥) → Stepped s T S S' w w r
    refused a = stepped_refused r l c.0 (breached_by r f c.1 g) a

    pub refused_spot : Finds s U.heads 0 e (Err f) → Stepped s T S S' w w r
    refused_spot a = refused (λ h t v p. no_spot h t v p f a)

    module _ (q : Spot) (x : Finds s U.heads 0 e (Ok q)) where
      pub refused_entry : StandsAt T q (Err f) → Stepped s T S S' w w r
      refused_entry a = refused (λ h t v p. no_entry h t v p q f x a)

      pub refused_edge : Leads s U.heads q (Err f) → Stepped s T S S' w w r
      refused_edge a = refused (λ h t v p. no_edge h t v p q f x a)

      pub refused_leave : Leaves S S' U.heads q.level e.node (Err f) → Stepped s T S S' w w r
      refused_leave a = refused (λ h t v p. no_leave h t v p q f x a)

  pub stepped_done : (w' : Walk) (q : Spot) (x : K × V) (f : Handle) → 0 < w.left → w' ≡ moved s f w
      → Finds s U.heads 0 e (Ok q) → StandsAt T q (Ok x) → Leads s U.heads q (Ok f) → Leaves S S' U.heads q.level e.node (Ok tt) → Stepped s T S S' w w' (Ok (Some x))
  stepped_done w' q x f l o a b c d = record {
    fault = tt;
    none_left = λ y. absurd (omega arith);
    one_less = λ _. let y : w'.left ≡ w.left - 1 = ap (λ u. u.left) o ∙ left_moved s T S 0 (node 0 [] none) w f in omega arith;
    kept = λ q. absurd (false≢true q);
    hands = λ h t v i. subst (λ u. Hands s T S S' h t u (Ok (Some x))) (sym o) (hands_all h t v (plan s T S h t w v i) q x f a b c d);
  }
