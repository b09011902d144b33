-- The places of a register.
--   place_in ps p       what stands in place p
--   NamedPlace ps p r   what a question for place p answers: there is none above 15
use Rattle.std.specs.Prelude.{◌≡◌, ℕ, ◌<◌, ◌≤◌, List, length, Option, MatchOption, slice_index_or}
use Rattle.books.specs.declared.places.Place.{Place}
use Rattle.books.specs.declared.places.Place.TheVariants.{Bare}

abbrev pub place_in : List Place → ℕ → Place
place_in ps p = slice_index_or ps p Bare

abbrev pub NamedPlace : List Place → ℕ → Option Place → Type 0
NamedPlace ps p r = MatchOption r (16 ≤ p) (λ x. (p < 16) × (x ≡ place_in ps p) × (length ps ≡ 16))
