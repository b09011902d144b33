-- Which numbers refusals have. Assumes nothing.
use Rattle.std.proofs.Common.{◌≡◌, ℕ, ◌+◌, Bool, cond, List, [], ◌∷◌, nat_lt, nat_eq, inl, inr, Some, None, Ok, Err, Option, Result, refl, subst}
use Rattle.std.proofs.lemmas.Bool.{cond_both}
use Rattle.std.proofs.lemmas.Option.{none-some}
use Rattle.std.specs.declared.cmp.Ordering.{Ordering}
use Rattle.node.specs.declared.ends.Side.{Side}
use Rattle.node.specs.Shape.{Tree, flat}
use Rattle.map.specs.Lookup.{seek}
use Rattle.walk.specs.Steps.{step}
use Rattle.calls.specs.declared.calls.Answer.{Answer}
use Rattle.books.specs.Books.{Book, bare, planted, walked, idle, book_in}
use Rattle.calls.specs.Laws.{RuleNumbers, Numbered}
use Rattle.calls.specs.Refusals.{Code}
use Rattle.calls.specs.Asking.{Asked, Query, Insert, Lookup, Least, Count, Cut, Open, Step, Close, Release, Audit}
use Rattle.books.specs.Kinds.{Kind, kind_of}
use Rattle.calls.specs.Rules.{Shape, asks_at, acts_at, acts_at_both, of_bank, shape, check_shape, check, check_one, check_two, act_by, checked, no_place, wrong_kind, insert_in, put_in, lookup_in, least_in, cut_in, part_tree, open_in, step_in, handed_in, beside_key}
use Rattle.calls.proofs.Keeping.{ok_err}

err_same : {X : Type 0} (d e : Code) → ◌≡◌ {A = Result X Code} (Err d) (Err e) → d ≡ e
err_same d e q = cc

-- ---- the checks

abbrev Checked : Option Code → Type 0
Checked o = (e : Code) → o ≡ Some e → Numbered e

some_same : (d e : Code) → ◌≡◌ {A = Option Code} (Some d) (Some e) → d ≡ e
some_same d e q = cc

far : Checked no_place
far e q = subst Numbered (some_same (3, []) e q) (inl refl)

wrong : Checked wrong_kind
wrong e q = subst Numbered (some_same (4, []) e q) (inr (inl refl))

passes : Checked None
passes e q = absurd (none-some e q)

both : (b : Bool) (x y : Option Code) → Checked x → Checked y → Checked (cond b x y)
both b x y f g = cond_both b x y Checked (λ _. f) (λ _. g)

checked_one : (kinds : ℕ → Kind) (f : Kind → Bool) (p : ℕ) → Checked (check_one kinds f p)
checked_one kinds f p = both (nat_lt p 16) _ _ (both (f (kinds p)) _ _ passes wrong) far

checked_two : (kinds : ℕ → Kind) (f g : Kind → Bool) (p o : ℕ) → Checked (check_two kinds f g p o)
checked_two kinds f g p o =
    both (nat_lt p 16) _ _ (both (nat_lt o 16) _ _ (both (f (kinds p)) _ _ (both (g (kinds o)) _ _ (both (nat_eq p o) _ _ wrong passes) wrong) wrong) far) far

module _ {K V : Type 0} where
  abbrev Fine : Result (Answer K V) Code → Type 0
  Fine r = (e : Code) → r ≡ Err e → Numbered e

  fine_ok : (x : Answer K V) → Fine (Ok x)
  fine_ok x e q = absurd (ok_err x e q)

  fine_kind : Fine (Err (4, []))
  fine_kind e q = subst Numbered (err_same (4, []) e q) (inr (inl refl))

  fine_short : (n a : ℕ) → Fine (Err (6, n ∷ a ∷ []))
  fine_short n a e q = subst Numbered (err_same (6, n ∷ a ∷ []) e q) (inr (inr refl))

  fine_within : {Y : Type 0} (n a : ℕ) (b : Y) (o : Result (Answer K V) Code × Y) → Fine o.0 → Fine (cond (nat_lt a n) (Err (6, n ∷ a ∷ []), b) o).0
  fine_within {Y} n a b o f = cond_both {A = Result (Answer K V) Code × Y} (nat_lt a n) (Err (6, n ∷ a ∷ []), b) o (λ q. Fine q.0) (λ _. fine_short n a) (λ _. f)

  module _ (compares : K → K → Ordering) (fresh : ℕ → ℕ) (top a : ℕ) where
    fine_put : (e : K × V) (h : ℕ) (t : Tree (K × V)) (o : Option (K × V)) → Fine (put_in compares fresh top a e h t o).0
    fine_put e h t (Some x) = fine_ok _
    fine_put e h t None = fine_within _ a (planted h t) _ (fine_ok _)

    fine_insert : (e : K × V) (b : Book (K × V)) → Fine (insert_in compares fresh top a e b).0
    fine_insert e bare = fine_within 1 a bare _ (fine_ok _)
    fine_insert e (planted h t) = fine_put e h t (seek (beside_key compares e) h t)
    fine_insert e (walked h t) = fine_kind
    fine_insert e idle = fine_kind

  fine_lookup : (place : Query K) (b : Book (K × V)) → Fine (lookup_in {V = V} place b)
  fine_lookup place bare = fine_ok _
  fine_lookup place (planted h t) = fine_ok _
  fine_lookup place (walked h t) = fine_kind
  fine_lookup place idle = fine_kind

  fine_least : (place : Query K) (b : Book (K × V)) → Fine (least_in {V = V} place b)
  fine_least place bare = fine_ok _
  fine_least place (planted h t) = fine_ok _
  fine_least place (walked h t) = fine_kind
  fine_least place idle = fine_kind

  module _ (fresh : ℕ → ℕ) (a : ℕ) where
    fine_part : (place : Query K) (h : ℕ) (t : Tree (K × V)) (l : List (K × V)) → Fine (part_tree fresh a place h t l).0
    fine_part place h t [] = fine_ok _
    fine_part place h t (e ∷ es) = fine_within (h + 1) a (planted h t, bare) _ (fine_ok _)

    fine_cut : (place : Query K) (b : Book (K × V)) → Fine (cut_in fresh a place b).0
    fine_cut place bare = fine_ok _
    fine_cut place (planted h t) = fine_part place h t (flat h t)
    fine_cut place (walked h t) = fine_kind
    fine_cut place idle = fine_kind

  fine_open : (b : Book (K × V)) → Fine (open_in b).0
  fine_open bare = fine_ok _
  fine_open (planted h t) = fine_ok _
  fine_open (walked h t) = fine_kind
  fine_open idle = fine_kind

  fine_handed : (h : ℕ) (t : Tree (K × V)) (o : Option ((K × V) × Tree (K × V))) → Fine (handed_in h t o).0
  fine_handed h t None = fine_ok _
  fine_handed h t (Some p) = fine_ok _

  fine_step : (s : Side) (b : Book (K × V)) → Fine (step_in s b).0
  fine_step s bare = fine_kind
  fine_step s (planted h t) = fine_kind
  fine_step s (walked h t) = fine_handed h t (step s h t)
  fine_step s idle = fine_ok _

  module _ (compares : K → K → Ordering) (fresh : ℕ → ℕ → ℕ) (top : ℕ → ℕ) (a : ℕ) where
    abbrev Refuses : Shape K V → Type 0
    Refuses (asks_at p f r) = (b : Book (K × V)) → Fine (r b)
    Refuses (acts_at p f w r) = (b : Book (K × V)) → Fine (r compares fresh top a b).0
    Refuses (acts_at_both p o f g w r) = (b d : Book (K × V)) → Fine (r compares fresh top a b d).0
    Refuses (of_bank x) = Unit {0}

    refuses : (c : Asked K V) → Refuses (shape c)
    refuses (Insert p k v) = λ b. fine_insert compares (fresh 0) (top 0) a (k, v) b
    refuses (Lookup p place) = λ b. fine_lookup place b
    refuses (Least p place) = λ b. fine_least place b
    refuses (Count p) = λ b. fine_ok _
    refuses (Cut p o place) = λ b d. fine_cut (fresh 0) a place b
    refuses (Open p) = λ b. fine_open b
    refuses (Step p s) = λ b. fine_step s b
    refuses (Close p) = λ b. fine_ok _
    refuses (Release p) = λ b. fine_ok _
    refuses Audit = tt

    fine_shape : (x : Shape K V) → Refuses x → (bs : List (Book (K × V))) → Fine (act_by compares fresh top a x bs).answer
    fine_shape (asks_at p f r) k bs = k (book_in bs p)
    fine_shape (acts_at p f w r) k bs = k (book_in bs p)
    fine_shape (acts_at_both p o f g w r) k bs = k (book_in bs p) (book_in bs o)
    fine_shape (of_bank x) k bs = fine_ok x

  checked_any : (kinds : ℕ → Kind) (x : Shape K V) → Checked (check_shape kinds x)
  checked_any kinds (asks_at p f r) = checked_one kinds f p
  checked_any kinds (acts_at p f w r) = checked_one kinds f p
  checked_any kinds (acts_at_both p o f g w r) = checked_two kinds f g p o
  checked_any kinds (of_bank x) = passes

pub rule_numbers : {K V : Type 0} → RuleNumbers K V
rule_numbers {K} {V} compares fresh top a c bs = go (check (λ p. kind_of (book_in bs p)) c) (checked_any (λ p. kind_of (book_in bs p)) (shape c))
  where
    go : (o : Option Code) → Checked o → Fine (checked compares fresh top a c bs o).answer
    go None f e q = fine_shape compares fresh top a (shape c) (refuses compares fresh top a c) bs e q
    go (Some d) f e q = subst Numbered (err_same d e q) (f d refl)
