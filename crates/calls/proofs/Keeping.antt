-- What a call makes of the book in its place, or of both: sound ones, of as many entries as the answer tells. Assumes nothing.
use Rattle.std.proofs.Common.{◌≡◌, ℕ, ◌+◌, [], ◌∷◌, length, nat_lt, Ok, Err, Result, Ordering, refl, arith}
use Rattle.std.proofs.lemmas.Bool.{cond_both}
use Rattle.calls.specs.declared.calls.Answer.{Answer}
use Rattle.books.specs.Books.{Book, entries}
use Rattle.calls.specs.Refusals.{Code}
use Rattle.calls.specs.Rules.{Part, Parts, within}
use Rattle.calls.specs.Meaning.{Sound}
use Rattle.calls.specs.Runs.{inserted, handed, dropped}

pub record Kept {K V : Type 0} (compares : K → K → Ordering) (b : Book (K × V)) (o : Part K V) : Type 0 where
  pub sound : Sound compares o.1
  pub even : length (entries o.1) + (handed o.0 + dropped o.0) ≡ length (entries b) + inserted o.0
  pub refused : (e : Code) → o.0 ≡ Err e → o.1 ≡ b

pub record BothKept {K V : Type 0} (compares : K → K → Ordering) (b d : Book (K × V)) (q : Parts K V) : Type 0 where
  pub left : Sound compares (q.1).0
  pub right : Sound compares (q.1).1
  pub even : length (entries (q.1).0) + length (entries (q.1).1) + (handed q.0 + dropped q.0) ≡ length (entries b) + length (entries d) + inserted q.0
  pub refused : (e : Code) → q.0 ≡ Err e → ((q.1).0 ≡ b) × ((q.1).1 ≡ d)

pub ok_err : {X : Type 0} (x : X) (e : Code) → ◌≡◌ {A = Result X Code} (Ok x) (Err e) → ⊥
ok_err x e q = let z : ◌≡◌ {A = ℕ} 0 1 = cc in omega arith

pub err_ok : {X : Type 0} (x : X) (e : Code) → ◌≡◌ {A = Result X Code} (Err e) (Ok x) → ⊥
err_ok x e q = let z : ◌≡◌ {A = ℕ} 0 1 = cc in omega arith

pub ok_same : {X : Type 0} (x y : X) → ◌≡◌ {A = Result X Code} (Ok x) (Ok y) → x ≡ y
ok_same x y q = cc

module _ {K V : Type 0} (compares : K → K → Ordering) where
  -- a call that is granted
  pub granted_kept : (b b' : Book (K × V)) (x : Answer K V) → Sound compares b' → length (entries b') + (handed (Ok x) + dropped (Ok x)) ≡ length (entries b) + inserted (Ok x) → Kept compares b (Ok x, b')
  granted_kept b b' x s q = record { sound = s; even = q; refused = λ e r. absurd (ok_err x e r) }

  -- one that is declined
  pub declined_kept : (b : Book (K × V)) (e : Code) → Sound compares b → Kept compares b (Err e, b)
  declined_kept b e s = record { sound = s; even = omega arith; refused = λ f r. refl }

  pub within_kept : (n a : ℕ) (b : Book (K × V)) (o : Part K V) → Sound compares b → Kept compares b o → Kept compares b (within n a b o)
  within_kept n a b o s k = cond_both {A = Part K V} (nat_lt a n) (Err (6, n ∷ a ∷ []), b) o (Kept compares b) (λ q. declined_kept b (6, n ∷ a ∷ []) s) (λ q. k)
