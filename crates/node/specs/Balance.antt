-- Tables and supply together, about one part of what is out: a tree, or several, told by how often each number stands in it.
--   mark S x             1 where the number x is out, else 0
--   guard S x            1 where x is out or barred, else 0
--   Owns T S h t         the tables hold the tree t of height h, and its nodes are out, each once
--   Rooted T m           node m names no parent
--   Balanced S S' f g    a part that had the numbers f has the numbers g now, and what is out has changed by just that
--   Beside T T' S f      every node that was out and is not of the part f is as it was, and every barred node
--   Spared T T' S        every barred node is as it was
--   Unchanged            tables and supply are as they were
--   FrameBeside          a tree that stands beside the part is still held
-- Where x was out and is not of the part, or is barred, f x is 0 and guard S x is 1, so that f x < guard S x says just this.
use Rattle.std.specs.Prelude.{◌≡◌, ℕ, ◌+◌, ◌<◌, ◌≤◌, true, cond, length}
use Rattle.supply.specs.Stocks.{Stock, size_of, is_out, is_barred, outs_of}
use Rattle.node.specs.Shape.{Tree}
use Rattle.node.specs.Store.{Tables, Sized, Holds, SameBody, SameLink, head_at}
use Rattle.node.specs.Laws.{occurs}

abbrev pub mark : Stock → ℕ → ℕ
mark S x = cond (is_out S x) 1 0

-- barred, and not out
abbrev pub bar : Stock → ℕ → ℕ
bar S x = cond (is_out S x) 0 (cond (is_barred S x) 1 0)

abbrev pub guard : Stock → ℕ → ℕ
guard S x = mark S x + bar S x

pub record Owns {K V : Type 0} (T : Tables K V) (S : Stock) (h : ℕ) (t : Tree (K × V)) : Type 0 where
  pub sized : Sized T
  pub fits : size_of S ≡ length T.heads
  pub holds : Holds T h t
  pub owned : (x : ℕ) → occurs x h t ≤ mark S x

abbrev pub Rooted : {K V : Type 0} → Tables K V → ℕ → Type 0
Rooted T m = (head_at T m).parent ≡ 65535

pub record Balanced (S S' : Stock) (f g : ℕ → ℕ) : Type 0 where
  pub size : size_of S' ≡ size_of S
  pub marks : (x : ℕ) → mark S' x + f x ≡ mark S x + g x
  pub allowance : S'.allowance + outs_of S' ≡ S.allowance + outs_of S
  pub aside : S'.aside ≡ S.aside
  pub bars : (x : ℕ) → bar S' x ≡ bar S x

pub record Beside {K V : Type 0} (T T' : Tables K V) (S : Stock) (f : ℕ → ℕ) : Type 0 where
  pub heads_len : length T'.heads ≡ length T.heads
  pub keys_len : length T'.keys ≡ length T.keys
  pub values_len : length T'.values ≡ length T.values
  pub bodies : (x : ℕ) → f x < guard S x → SameBody T T' x
  pub links : (x : ℕ) → f x < guard S x → SameLink T T' x

abbrev pub Spared : {K V : Type 0} → Tables K V → Tables K V → Stock → Type 0
Spared T T' S = (x : ℕ) → is_barred S x ≡ true → SameBody T T' x × SameLink T T' x

pub record Unchanged {K V : Type 0} (T T' : Tables K V) (S S' : Stock) : Type 0 where
  pub tables_same : T' ≡ T
  pub stock_same : S' ≡ S

abbrev pub FrameBeside : Type 0 → Type 0 → Type 0
FrameBeside K V =
    (T T' : Tables K V) (S : Stock) (f : ℕ → ℕ) (h : ℕ) (t : Tree (K × V)) → Beside T T' S f
    → ((x : ℕ) → f x + occurs x h t ≤ mark S x) → Holds T h t → Holds T' h t
