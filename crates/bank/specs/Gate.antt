-- What is checked before a call does anything.
--   Fits n k v       tables of n heads, k keys and v values fit together
--   kinds ps p       what kind of thing stands in place p
--   Admits, AdmitsWalk, AdmitsBoth    a place is answered where the call passes the checks of places; else the refusal that they say
use Rattle.std.specs.Prelude.{◌≡◌, ℕ, ◌*◌, ◌<◌, ◌≤◌, List, length, Some, None, Result, MatchResult}
use Rattle.walk.specs.declared.walks.Walk.{Walk}
use Rattle.books.specs.declared.places.Place.{Place}
use Rattle.books.specs.declared.places.Place.TheVariants as P
use Rattle.calls.specs.declared.refusals.Refusal.{Refusal}
use Rattle.books.specs.Places.{place_in}
use Rattle.calls.specs.Refusals.{code}
use Rattle.books.specs.Kinds.{Kind, kind_at, is_walk, allowed}
use Rattle.calls.specs.Rules.{check_one, check_two}
use Rattle.books.specs.declared.places.CallKind.{CallKind}

pub record Fits (heads keys values : ℕ) : Type 0 where
  pub some : 0 < heads
  pub most : heads ≤ 4096
  pub keys_room : keys ≡ 11 * heads
  pub values_room : values ≡ 11 * heads

abbrev pub kinds : List Place → ℕ → Kind
kinds ps p = kind_at (place_in ps p)

abbrev pub Admits : List Place → CallKind → ℕ → Result Place Refusal → Type 0
Admits ps call p r = MatchResult r (λ x. (check_one (kinds ps) (allowed call) p ≡ None) × (x ≡ place_in ps p) × (length ps ≡ 16)) (λ e. check_one (kinds ps) (allowed call) p ≡ Some (code e))

-- of a call that only a walk allows
abbrev pub AdmitsWalk : List Place → CallKind → ℕ → Result Walk Refusal → Type 0
AdmitsWalk ps call p r =
    allowed call ≡ is_walk → MatchResult r (λ w. (check_one (kinds ps) is_walk p ≡ None) × (P.Walk w ≡ place_in ps p) × (length ps ≡ 16)) (λ e. check_one (kinds ps) is_walk p ≡ Some (code e))

-- of a call at two places, which are answered both
abbrev pub AdmitsBoth : List Place → CallKind → CallKind → ℕ → ℕ → Result (Place × Place) Refusal → Type 0
AdmitsBoth ps call call' p o r =
    MatchResult r (λ x. (check_two (kinds ps) (allowed call) (allowed call') p o ≡ None) × (x.0 ≡ place_in ps p) × (x.1 ≡ place_in ps o) × (length ps ≡ 16)) (λ e. check_two (kinds ps) (allowed call) (allowed call') p o ≡ Some (code e))
