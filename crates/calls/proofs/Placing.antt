-- A list of books with one of them replaced, and what the checks of places show. Assumes nothing.
use Rattle.std.proofs.Common.{◌≡◌, ◌≢◌, ℕ, zero, suc, ◌+◌, ◌<◌, Bool, true, false, cond, List, [], ◌∷◌, length, get_or, set, nat_lt, nat_eq, slice_set, None, All, refl, sym, ap, ◌∙◌, arith, length-set, get_or-set_same, get_or-set_other}
use Rattle.std.proofs.lemmas.List.{set-get_or}
use Rattle.std.proofs.lemmas.List.Elements.{All-set}
use Rattle.std.proofs.lemmas.Option.{none-some}
use Rattle.std.proofs.lemmas.Bool.{false≢true, ltb-true, eqb-false}
use Rattle.node.specs.Shape.{total}
use Rattle.books.specs.Books.{Book, bare, planted, walked, idle, book_in}
use Rattle.books.specs.Kinds.{Kind, kind_of, is_bare}
use Rattle.calls.specs.Rules.{no_place, wrong_kind, check_one, check_two}

-- ---- one element replaced

module _ {X : Type 0} where
  -- the sum loses the old term and gains the new one
  pub total_set : (f : X → ℕ) (xs : List X) (p : ℕ) (x d : X) → p < length xs → total f (set xs p x) + f (get_or xs p d) ≡ total f xs + f x
  total_set f [] p x d l = absurd (omega arith)
  total_set f (y ∷ ys) zero x d l = omega arith
  total_set f (y ∷ ys) (suc p) x d l = omega (arith, total_set f ys p x d (omega arith))

module _ {E : Type 0} where
  pub sixteen : (bs : List (Book E)) (p : ℕ) (b : Book E) → length bs ≡ 16 → length (slice_set bs p b) ≡ 16
  sixteen bs p b q = length-set bs p b ∙ q

  pub there : (bs : List (Book E)) (p : ℕ) (b : Book E) → p < length bs → book_in (slice_set bs p b) p ≡ b
  there bs p b l = get_or-set_same bs p b bare l

  pub elsewhere : (bs : List (Book E)) (p x : ℕ) (b : Book E) → x ≢ p → book_in (slice_set bs p b) x ≡ book_in bs x
  elsewhere bs p x b n = get_or-set_other bs p x b bare n

  pub replaced : (f : Book E → ℕ) (bs : List (Book E)) (p : ℕ) (b : Book E) → p < length bs → total f (slice_set bs p b) + f (book_in bs p) ≡ total f bs + f b
  replaced f bs p b l = total_set f bs p b bare l

  pub all_replaced : (P : Book E → Type 0) (bs : List (Book E)) (p : ℕ) (b : Book E) → P b → All P bs → All P (slice_set bs p b)
  all_replaced P bs p b q a = All-set P bs p b q a

  pub all_at : (P : Book E → Type 0) (bs : List (Book E)) (p : ℕ) → p < length bs → All P bs → P (book_in bs p)
  all_at P bs p l a = a p bare l

  -- the same book again changes nothing
  pub again : (bs : List (Book E)) (p : ℕ) (b : Book E) → b ≡ book_in bs p → slice_set bs p b ≡ bs
  again bs p b q = ap (λ c. slice_set bs p c) q ∙ set-get_or bs p bare

-- ---- the checks

pub record One (kinds : ℕ → Kind) (allowed : Kind → Bool) (p : ℕ) : Type 0 where
  pub low : p < 16
  pub kind : allowed (kinds p) ≡ true

pub one_passes : (kinds : ℕ → Kind) (allowed : Kind → Bool) (p : ℕ) → check_one kinds allowed p ≡ None → One kinds allowed p
one_passes kinds allowed p = go (nat_lt p 16) refl (allowed (kinds p)) refl
  where
    go : (l : Bool) → nat_lt p 16 ≡ l → (k : Bool) → allowed (kinds p) ≡ k → cond l (cond k None wrong_kind) no_place ≡ None → One kinds allowed p
    go true l true k q = record { low = ltb-true p 16 l; kind = k }
    go true l false k q = absurd (none-some (4, []) (sym q))
    go false l k z q = absurd (none-some (3, []) (sym q))

pub record Two (kinds : ℕ → Kind) (f g : Kind → Bool) (p o : ℕ) : Type 0 where
  pub low : p < 16
  pub low' : o < 16
  pub kind : f (kinds p) ≡ true
  pub kind' : g (kinds o) ≡ true
  pub apart : p ≢ o

pub two_pass : (kinds : ℕ → Kind) (f g : Kind → Bool) (p o : ℕ) → check_two kinds f g p o ≡ None → Two kinds f g p o
two_pass kinds f g p o = go (nat_lt p 16) refl (nat_lt o 16) refl (f (kinds p)) refl (g (kinds o)) refl (nat_eq p o) refl
  where
    go : (l : Bool) → nat_lt p 16 ≡ l → (m : Bool) → nat_lt o 16 ≡ m → (k : Bool) → f (kinds p) ≡ k → (j : Bool) → g (kinds o) ≡ j → (e : Bool) → nat_eq p o ≡ e
        → cond l (cond m (cond k (cond j (cond e wrong_kind None) wrong_kind) wrong_kind) no_place) no_place ≡ None → Two kinds f g p o
    go false l m m' k k' j j' e e' q = absurd (none-some (3, []) (sym q))
    go true l false m k k' j j' e e' q = absurd (none-some (3, []) (sym q))
    go true l true m false k j j' e e' q = absurd (none-some (4, []) (sym q))
    go true l true m true k false j e e' q = absurd (none-some (4, []) (sym q))
    go true l true m true k true j true e q = absurd (none-some (4, []) (sym q))
    go true l true m true k true j false e q = record { low = ltb-true p 16 l; low' = ltb-true o 16 m; kind = k; kind' = j; apart = eqb-false p o e }

-- a bare book by its kind
pub bare_is : {E : Type 0} (b : Book E) → is_bare (kind_of b) ≡ true → b ≡ bare
bare_is bare q = refl
bare_is (planted h t) q = absurd (false≢true q)
bare_is (walked h t) q = absurd (false≢true q)
bare_is idle q = absurd (false≢true q)
