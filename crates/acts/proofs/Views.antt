-- What a place holds, by its kind.
use Rattle.std.proofs.Common.{◌≡◌, ℕ, ◌≤◌, true, length, None, ◌<◌, refl, sym, ap, ◌∙◌, subst, arith}
use Rattle.std.specs.declared.cmp.Ordering.{Ordering}
use Rattle.supply.specs.Stocks.{Stock, size_of}
use Rattle.node.specs.declared.nodes.NodeRef.{NodeRef}
use Rattle.node.specs.Balance.{mark, Owns}
use Rattle.node.specs.Laws.{occurs}
use Rattle.node.specs.Shape.{Tree, number, root_least}
use Rattle.node.specs.Store.{Tables, Sized}
use Rattle.node.proofs.Balances.{mark_most}
use Rattle.node.proofs.Frames.{held_low}
use Rattle.node.proofs.Numbers.{few_nodes}
use Rattle.walk.proofs.Closing.{flat_few, out_inside}
use Rattle.walk.proofs.Opening.{whole_shown}
use Rattle.walk.specs.Window.{bounds}
use Rattle.books.specs.declared.places.Place.{Place}
use Rattle.books.specs.declared.places.Place.TheVariants as P
use Rattle.books.specs.Books.{Book, bare, planted, walked, idle, uses, BookAt, TreeAt, at_bare, at_tree, at_walk, at_idle}
use Rattle.calls.specs.Meaning.{Sound}
use Rattle.books.specs.Kinds.{kind_of, is_map}
use Rattle.acts.specs.Acts.{Ready}

pub record TreeBook {K V : Type 0} (compares : K → K → Ordering) (T : Tables K V) (root : NodeRef) (count : ℕ) (b : Book (K × V)) : Type 0 where
  pub height : ℕ
  pub tree : Tree (K × V)
  pub book_is : b ≡ planted height tree
  pub here : TreeAt compares T root count height tree

module _ {K V : Type 0} (compares : K → K → Ordering) (T : Tables K V) where
  pub tree_book : (root : NodeRef) (count : ℕ) (b : Book (K × V)) → BookAt compares T (P.Tree root count) b → TreeBook compares T root count b
  tree_book root count b (at_tree h t a) = record { height = h; tree = t; book_is = refl; here = a }

  -- a place without a tree or a walk
  pub bare_book : (p : Place) (b : Book (K × V)) → ((root : NodeRef) (count : ℕ) → p ≡ P.Tree root count → ⊥) → is_map (kind_of b) ≡ true → BookAt compares T p b → (p ≡ P.Bare) × (b ≡ bare)
  bare_book p b n m at_bare = (refl, refl)
  bare_book (P.Tree root count) b n m (at_tree h t a) = absurd (n root count refl)
  bare_book p b n m (at_walk h t a) = cc m
  bare_book p b n m (at_idle a) = cc m

-- a tree in a place that is ready
pub record ReadyTree {K V : Type 0} (compares : K → K → Ordering) (T : Tables K V) (S : Stock) (root : NodeRef) (count : ℕ) (b : Book (K × V)) : Type 0 where
  pub tree : Tree (K × V)
  pub book_is : b ≡ planted root.height tree
  pub here : TreeAt compares T root count root.height tree
  pub node_is : number tree ≡ root.node
  pub owns : Owns T S root.height tree
  pub low : root.height ≤ 5
  pub few : count ≤ 45056
  pub sound : Sound compares b

module _ {K V : Type 0} (compares : K → K → Ordering) (T : Tables K V) (S : Stock) where
  few_in : {root : NodeRef} {count : ℕ} (h : ℕ) (t : Tree (K × V)) → Sized T → size_of S ≡ length T.heads → TreeAt compares T root count h t → ((x : ℕ) → occurs x h t ≤ mark S x) → count ≤ 45056
  few_in h t z f v o =
      let few = flat_few T (root_least h) (bounds None None) h t (whole_shown T (root_least h) h t v.holds v.formed) in
      let most = few_nodes (length T.heads) h t (λ x. omega (arith, o x, mark_most S x)) (λ x l. subst (λ n. x < n) f (out_inside T S x (omega (arith, o x)))) in
      omega (arith, v.count_is, z.most)

  pub ready_tree : (root : NodeRef) (count : ℕ) (p : Place) (b : Book (K × V)) → p ≡ P.Tree root count → Ready compares T S p b → ReadyTree compares T S root count b
  ready_tree root count p b e r =
      let v = tree_book compares T root count b (subst (λ q. BookAt compares T q b) e r.at) in
      let h : v.height ≡ root.height = sym (ap (λ n. n.height) v.here.root_is) in
      let q : b ≡ planted root.height v.tree = v.book_is ∙ ap (λ n. planted n v.tree) h in
      let here : TreeAt compares T root count root.height v.tree = subst (λ n. TreeAt compares T root count n v.tree) h v.here in
      let o : (x : ℕ) → occurs x root.height v.tree ≤ mark S x = λ x. subst (λ c. uses x c ≤ mark S x) q (r.owned x) in
      record {
        tree = v.tree;
        book_is = q;
        here = here;
        node_is = sym (ap (λ n. n.node) v.here.root_is);
        owns = record { sized = r.sized; fits = r.fits; holds = here.holds; owned = o };
        few = few_in root.height v.tree r.sized r.fits here o;
        low = held_low T root.height v.tree r.sized here.holds here.formed (λ x. omega (arith, o x, mark_most S x));
        sound = subst (Sound compares) (sym q) (here.formed, here.in_order);
      }
