-- The worked calls compute. Without T written out there would be too many steps.
use Rattle.std.specs.Prelude.{Ok, None, ◌∷◌, [], List, map, replicate, ℕ}
use Rattle.std.proofs.Common.{refl, subst, sym, ◌≡◌}
use Rattle.node.specs.Cases.{count}
use Rattle.node.specs.Shape.{Tree, flat, mk, weigh}
use Rattle.rules.specs.Cases.{rows}
use Rattle.rules.specs.Rules.{grow, run}
use Rattle.map.specs.Lookup.{seek}
use Rattle.parts.specs.Rules.{cut_left, cut_right, cuts, fix_top, mend}
use Rattle.walk.specs.Steps.{step}
use Rattle.books.specs.Books.{bare, planted}
use Rattle.calls.specs.Cases.{Desk, Worked, WorkedCalls, twelve}
use Rattle.calls.specs.Rules.{outcome}
use Rattle.calls.specs.declared.calls.Answer.TheVariants.{Inserted}

abbrev leaf : List ℕ → Tree (ℕ × ℕ)
leaf ks = mk 0 (map (λ k. (k, k)) ks) []

abbrev t : Desk
t = outcome (Ok (Inserted None)) (planted 1 (mk 0 ((7, 7) ∷ []) (leaf (count 6 1 1) ∷ leaf (count 5 8 1) ∷ [])) ∷ replicate 15 bare)

twelve_is : twelve ≡ t
unfolding grow run seek
twelve_is = refl

worked : Worked t
unfolding weigh flat grow run rows seek cut_left cut_right mend fix_top cuts step
worked = refl

pub worked_calls : WorkedCalls
worked_calls = subst Worked (sym twelve_is) worked
