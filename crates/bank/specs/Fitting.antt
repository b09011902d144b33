-- Tables of the bank's size, or a refusal.
--   FitsBank n h k v r   h heads, k keys and v values fit together and h is n, or the refusal of tables
--   coded r              a refusal by its number and values
use Rattle.std.specs.Prelude.{◌≡◌, ℕ, Ok, Err, Result, MatchResult}
use Rattle.calls.specs.declared.refusals.Refusal.{Refusal}
use Rattle.calls.specs.declared.refusals.Refusal.TheVariants.{Tables}
use Rattle.calls.specs.Refusals.{Code, code}
use Rattle.bank.specs.Gate.{Fits}

abbrev pub FitsBank : ℕ → ℕ → ℕ → ℕ → Result (Unit {0}) Refusal → Type 0
FitsBank size n k v r = MatchResult r (λ _. Fits n k v × (size ≡ n)) (λ e. (e ≡ Tables) × (Fits n k v → size ≡ n → ⊥))

-- a refusal by its number and values
abbrev pub coded : {X : Type 0} → Result X Refusal → Result X Code
coded (Ok x) = Ok x
coded (Err e) = Err (code e)
