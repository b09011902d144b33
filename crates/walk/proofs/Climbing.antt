-- The way up from the edge of a leaf. Assumes nothing.
use Rattle.std.proofs.lemmas.Option.{none-some}
use Rattle.std.proofs.Common.{◌≡◌, ℕ, zero, suc, ◌+◌, ◌-◌, ◌<◌, ◌≤◌, List, [], ◌∷◌, ◌++◌, Some, None, Ok, Option, Result, sym, refl, ap, ◌∙◌, subst, ap₂, arith}
use Rattle.std.proofs.lemmas.Bool.Decides.{nat_tests}
use Rattle.supply.specs.declared.faults.Fault.{Fault}
use Rattle.node.specs.declared.head.Head.{Head}
use Rattle.node.specs.declared.ends.Handle.{Handle}
use Rattle.node.specs.declared.ends.Side.{Side}
use Rattle.node.specs.declared.ends.Side.TheVariants.{First, Last}
use Rattle.node.specs.Store.{head_in}
use Rattle.walk.specs.declared.climb.Spot.{Spot}
use Rattle.walk.specs.Climbs.{spot, up, up_from, ups, beside, Edged, Past, Rises, Finds}

pub some_number : (i j : ℕ) → ◌≡◌ {A = Option ℕ} (Some i) (Some j) → i ≡ j
some_number i j e = cc

module _ (s : Side) (H : List Head) where
  -- whether there is an entry beside an edge
  abbrev pub At : Handle → Option ℕ → Type 0
  At e o = beside s (head_in H e.node).len e.idx ≡ o

  pub rises_edged : (n : ℕ) (e : Handle) (w : Spot) → Rises s H n e w → Edged H e
  unfolding Past up_from
  rises_edged zero e w r = r.found.edged
  rises_edged (suc n) e w r = r.past.0

  pub rises_here : (n : ℕ) (e : Handle) (w : Spot) (i : ℕ) → Rises s H n e w → At e (Some i) → (n ≡ 0) × (w.node ≡ e.node) × (w.idx ≡ i)
  unfolding Past up_from
  rises_here zero e w i r a = (refl, r.found.node_is, some_number w.idx i (sym r.found.entry_is ∙ a))
  rises_here (suc n) e w i r a = absurd (none-some i (sym r.past.1 ∙ a))

  pub rises_on : (n : ℕ) (e : Handle) (w : Spot) → Rises s H n e w → At e None → (0 < n) × Rises s H (n - 1) (up H e) w
  unfolding Past up_from
  rises_on zero e w r a = absurd (none-some w.idx (sym a ∙ r.found.entry_is))
  rises_on (suc n) e w r a = (omega arith, subst (λ k. Rises s H k (up H e) w) (omega arith) (record { past = r.past.2; found = r.found }))

-- ---- a search for an entry

-- an entry beside an edge stands in the row
pub beside_low : (s : Side) (len i j : ℕ) → beside s len i ≡ Some j → i ≤ len → j < len
beside_low First len i j e l = grind (arith, nat_tests)
beside_low Last len i j e l = grind (arith, nat_tests)

module _ (s : Side) (H : List Head) where
  pub find_here : (level : ℕ) (e : Handle) (len j n m i : ℕ) → len ≡ (head_in H e.node).len → Some j ≡ beside s len e.idx → Rises s H n e (spot m i (level + n))
      → ◌≡◌ {A = Result Spot Fault} (Ok (spot e.node j level)) (Ok (spot m i (level + n)))
  find_here level e len j n m i p q r =
      let a = rises_here s H n e (spot m i (level + n)) j r (ap (λ k. beside s k e.idx) (sym p) ∙ sym q) in
      let z : level ≡ level + n = omega (arith, a.0) in
      let x : Spot → Result Spot Fault = λ w. Ok w in
      ap (λ l. x (spot e.node j l)) z ∙ ap₂ (λ a b. x (spot a b (level + n))) (sym a.1) (sym a.2)

  pub find_more : (level : ℕ) (e : Handle) (len : ℕ) (r : Result Spot Fault) → len ≡ (head_in H e.node).len → None ≡ beside s len e.idx → Finds s H (level + 1) (up H e) r → Finds s H level e r
  find_more level e len r p q f n m i l w =
      let a = rises_on s H n e (spot m i (level + n)) w (ap (λ k. beside s k e.idx) (sym p) ∙ sym q) in
      let z : level + 1 + (n - 1) ≡ level + n = omega (arith, a.0) in
      subst (λ k. r ≡ Ok (spot m i k)) z (f (n - 1) m i (omega arith) (subst (λ k. Rises s H (n - 1) (up H e) (spot m i k)) (sym z) a.1))

  pub find_top : (level : ℕ) (e : Handle) (len : ℕ) (r : Result Spot Fault) → level ≡ 5 → len ≡ (head_in H e.node).len → None ≡ beside s len e.idx → Finds s H level e r
  find_top level e len r z p q n m i l w =
      let a = rises_on s H n e (spot m i (level + n)) w (ap (λ k. beside s k e.idx) (sym p) ∙ sym q) in absurd (omega (arith, a.0))

-- ---- one level more

module _ (s : Side) (H : List Head) where
  pub up_last : (n : ℕ) (e : Handle) → up_from H (suc n) e ≡ up H (up_from H n e)
  unfolding up_from
  up_last zero e = refl
  up_last (suc n) e = up_last n (up H e)

  pub ups_last : (n : ℕ) (e : Handle) → ups H (suc n) e.node ≡ ups H n e.node ++ (up_from H n e).node ∷ []
  unfolding ups up_from
  ups_last zero e = refl
  ups_last (suc n) e = ap (λ r. e.node ∷ r) (ups_last n (up H e))

  pub past_last : (n : ℕ) (e : Handle) → Past s H n e → Edged H (up_from H n e) → At s H (up_from H n e) None → Past s H (suc n) e
  unfolding Past up_from
  past_last zero e p w a = (w, a, tt)
  past_last (suc n) e p w a = (p.0, p.1, past_last n (up H e) p.2 w a)
