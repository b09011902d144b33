-- Laying out, from its checks. Assumes nothing.
use Rattle.std.proofs.Common.{◌≡◌, ℕ, Bool, true, false, List, [], replicate, slice_index_or, Ok, Err, refl, sym, subst, arith}
use Rattle.std.proofs.lemmas.List.{get_or-replicate}
use Rattle.std.specs.declared.cmp.Ordering.{Ordering}
use Rattle.supply.specs.Stocks.{Stock, marked}
use Rattle.supply.proofs.StockLaws.{marked_returned}
use Rattle.node.proofs.Balances.{mark_unused}
use Rattle.books.specs.declared.places.Place.TheVariants as P
use Rattle.books.specs.Books.{Book, bare, book_in, BookAt, at_bare}
use Rattle.calls.specs.Runs.{Runs}
use Rattle.books.specs.States.{State, Models}
use Rattle.bank.specs.Layout.{FitsAlone, UnusedSupply, laid, LaysOut}

none_marked : (ms : List Bool) (x : ℕ) → marked ms ≡ 0 → slice_index_or ms x false ≡ false
none_marked ms x q = go (slice_index_or ms x false) refl
  where
    go : (b : Bool) → slice_index_or ms x false ≡ b → b ≡ false
    go true h = absurd (omega (arith, marked_returned ms x h))
    go false h = refl

module _ {K V : Type 0} (compares : K → K → Ordering) (s : State K V) where
  fresh_models : FitsAlone s → UnusedSupply s → Models compares (laid s) (replicate 16 bare)
  fresh_models f u = record {
    sized = record { most = f.most; keys_room = f.keys_room; values_room = f.values_room };
    size_is = refl;
    fits = λ _. u.size;
    sixteen = refl;
    held = λ p l. subst (λ x. BookAt compares s.tables x (book_in (replicate 16 bare) p)) (sym (get_or-replicate 16 p P.Bare P.Bare l)) (subst (λ b. BookAt compares s.tables P.Bare b) (sym (get_or-replicate 16 p none none l)) at_bare);
    numbers = λ x. omega (arith, mark_unused s.stock x (none_marked s.stock.marks x u.none));
  }
    where
      none : Book (K × V)
      none = bare

  begin_here : (S : Stock) → Runs {K = K} {V = V} compares [] S (replicate 16 bare)
  unfolding Runs
  begin_here S = refl

  pub laid_misfit : (FitsAlone s → ⊥) → LaysOut compares s s (Err (1, []))
  laid_misfit n = record {
    misfit = λ _. (refl, refl);
    taken = λ f. absurd (n f);
    granted = λ f. absurd (n f);
    models = λ f. absurd (n f);
    begins = begin_here s.stock;
  }

  pub laid_taken : FitsAlone s → (UnusedSupply s → ⊥) → LaysOut compares s s (Err (2, []))
  laid_taken f n = record {
    misfit = λ m. absurd (m f);
    taken = λ _ _. (refl, refl);
    granted = λ _ u. absurd (n u);
    models = λ _ u. absurd (n u);
    begins = begin_here s.stock;
  }

  pub laid_out : FitsAlone s → UnusedSupply s → LaysOut compares s (laid s) (Ok tt)
  laid_out f u = record {
    misfit = λ m. absurd (m f);
    taken = λ _ n. absurd (n u);
    granted = λ _ _. (refl, refl);
    models = fresh_models;
    begins = begin_here s.stock;
  }
