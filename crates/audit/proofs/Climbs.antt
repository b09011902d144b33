-- The way up from an edge, and the exits of a `?`. Assumes nothing.
use Rattle.std.proofs.Common.{◌≡◌, ℕ, suc, ◌-◌, ◌<◌, ◌≤◌, List, length, Option, Some, None, sym, refl, subst, arith}
use Rattle.std.specs.Option.{MatchOption}
use Rattle.node.specs.declared.head.Head.{Head}
use Rattle.node.specs.declared.ends.Handle.{Handle}
use Rattle.node.proofs.Frames.{height_suc}
use Rattle.walk.specs.Climbs.{up, up_from}
use Rattle.audit.specs.Passes.{Climbable}

pub none_by : {X : Type 0} (r : Option X) (P : Type 0) (Q : X → Type 0) → r ≡ None → P → MatchOption r P Q
none_by r P Q e p = subst (λ r. MatchOption r P Q) (sym e) p

pub turned : {X : Type 0} (r : Option X) (P P' : Type 0) (Q Q' : X → Type 0) → (P → P') → ((x : X) → Q x → Q' x) → MatchOption r P Q → MatchOption r P' Q'
turned None P P' Q Q' f g m = f m
turned (Some x) P P' Q Q' f g m = g x m

module _ (H : List Head) where
  abbrev pub Above : ℕ → Handle → Handle → Type 0
  Above n e x = Climbable H n e × (x ≡ up_from H n e)

  pub climb_zero : (n : ℕ) (e : Handle) → n ≡ 0 → Above n e e
  unfolding Climbable up_from
  climb_zero n e z = subst (λ k. Above k e e) (sym z) (tt, refl)

  pub climb_suc : (n : ℕ) (e x : Handle) → e.node < length H → Above n (up H e) x → Above (suc n) e x
  unfolding Climbable up_from
  climb_suc n e x l a = ((l, a.0), a.1)

  pub climb_uncons : (n : ℕ) (e : Handle) → Climbable H (suc n) e → (e.node < length H) × Climbable H n (up H e)
  unfolding Climbable
  climb_uncons n e c = c

  pub climb_more : (n : ℕ) (e f : Handle) (r : Option Handle) → 0 < n → e.node < length H → f ≡ up H e → MatchOption r (Climbable H (n - 1) f → ⊥) (λ x. Above (n - 1) f x)
      → MatchOption r (Climbable H n e → ⊥) (λ x. Above n e x)
  climb_more n e f r p l q m =
      subst (λ k. MatchOption r (Climbable H k e → ⊥) (λ x. Above k e x)) (sym (height_suc n p))
      (turned r (Climbable H (n - 1) f → ⊥) (Climbable H (suc (n - 1)) e → ⊥) (λ x. Above (n - 1) f x) (λ x. Above (suc (n - 1)) e x)
      (λ z c. z (subst (Climbable H (n - 1)) (sym q) (climb_uncons (n - 1) e c).1)) (λ x a. climb_suc (n - 1) e x l (subst (λ g. Above (n - 1) g x) q a)) m)

  pub climb_out : (n : ℕ) (e : Handle) → 0 < n → length H ≤ e.node → Climbable H n e → ⊥
  climb_out n e p l c = let u = climb_uncons (n - 1) e (subst (λ k. Climbable H k e) (height_suc n p) c) in omega (arith, u.0)
