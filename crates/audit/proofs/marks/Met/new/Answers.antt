use Rattle.std.proofs.Common.{◌≡◌, ℕ, zero, suc, false, replicate, cond, ap, get_or, refl}
use Rattle.audit.proofs.marks.Met.new.Goals as goal

none : (n x : ℕ) → get_or (replicate n false) x false ≡ false
none zero x = refl
none (suc n) zero = refl
none (suc n) (suc x) = none n x

pub returns : goal.returns
returns c = λ x. ap (λ b. cond b 1 0) (none 4096 x)
