-- What the operations on a parent p and two of its children, l and r, do to a table of keys or of values. Node x has the eleven cells from
-- 11 · x on; the entry of p at index i stands between the two children.
--   MergedRow     the row of l is its own, the cell of p at i, and the row of r; p loses that cell
--   StolenLeft    the last n cells of l go over: all but the first of them to the front of r, behind them the cell of p at i, and the first to p
--   StolenRight   the first n cells of r go over: the cell of p at i and all but the last of them to the end of l, and the last to p
use Rattle.std.specs.Prelude.{◌≡◌, ℕ, ◌+◌, ◌-◌, ◌*◌, ◌≤◌, List, ◌++◌, length, ◌≢◌}
use Rattle.node.specs.Cells.{span}

-- p has k cells, l has a and r has b
pub record MergedRow {X : Type 0} (xs xs' : List X) (p i k l a r b : ℕ) : Type 0 where
  pub size : length xs' ≡ length xs
  pub left : span xs' (11 * l) (a + (1 + b)) ≡ span xs (11 * l) a ++ (span xs (11 * p + i) 1 ++ span xs (11 * r) b)
  pub parent : span xs' (11 * p) (i + (k - i - 1)) ≡ span xs (11 * p) i ++ span xs (11 * p + i + 1) (k - i - 1)
  pub others : (x : ℕ) → (x ≢ p) → (x ≢ l) → span xs' (11 * x) 11 ≡ span xs (11 * x) 11

-- l keeps a cells and gives n + 1, r has b
pub record StolenLeft {X : Type 0} (xs xs' : List X) (p i l a n r b : ℕ) : Type 0 where
  pub size : length xs' ≡ length xs
  pub right : span xs' (11 * r) (n + (1 + b)) ≡ span xs (11 * l + a + 1) n ++ (span xs (11 * p + i) 1 ++ span xs (11 * r) b)
  pub parent : span xs' (11 * p + i) 1 ≡ span xs (11 * l + a) 1
  pub before : span xs' (11 * p) i ≡ span xs (11 * p) i
  pub behind : (k : ℕ) → i + 1 + k ≤ 11 → span xs' (11 * p + i + 1) k ≡ span xs (11 * p + i + 1) k
  pub others : (x : ℕ) → (x ≢ p) → (x ≢ r) → span xs' (11 * x) 11 ≡ span xs (11 * x) 11

-- l has a cells, r gives n + 1 and keeps b
pub record StolenRight {X : Type 0} (xs xs' : List X) (p i l a n r b : ℕ) : Type 0 where
  pub size : length xs' ≡ length xs
  pub left : span xs' (11 * l) (a + (1 + n)) ≡ span xs (11 * l) a ++ (span xs (11 * p + i) 1 ++ span xs (11 * r) n)
  pub right : span xs' (11 * r) b ≡ span xs (11 * r + n + 1) b
  pub parent : span xs' (11 * p + i) 1 ≡ span xs (11 * r + n) 1
  pub before : span xs' (11 * p) i ≡ span xs (11 * p) i
  pub behind : (k : ℕ) → i + 1 + k ≤ 11 → span xs' (11 * p + i + 1) k ≡ span xs (11 * p + i + 1) k
  pub others : (x : ℕ) → (x ≢ p) → (x ≢ l) → (x ≢ r) → span xs' (11 * x) 11 ≡ span xs (11 * x) 11
