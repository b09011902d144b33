-- The rows of a parent and two of its children after a chain of writes. Assumes nothing.
use Rattle.std.proofs.Common.{◌≡◌, ℕ, ◌+◌, ◌-◌, ◌*◌, ◌<◌, ◌≤◌, List, [], ◌∷◌, ◌++◌, length, get_or, set, sym, ap, ◌∙◌, ap₂, ⊎_elim, arith}
use Rattle.std.proofs.lemmas.Bool.{cases_lt}
use Rattle.node.specs.Cells.{span, Put}
use Rattle.node.specs.Rows.{MergedRow, StolenLeft, StolenRight}
use Rattle.node.proofs.Spans.{span_split, span_length, span_one, written}
use Rattle.node.proofs.Runs.{put_others}

module _ {X : Type 0} where
  -- a stretch of node x, where another node is written to
  span_apart : (xs xs' : List X) (b : ℕ) (ws : List X) (m x a n : ℕ) → Put xs xs' b ws → 11 * m ≤ b → b + length ws ≤ 11 * m + 11 → 11 * x ≤ a → a + n ≤ 11 * x + 11 → (x ≡ m → ⊥)
      → span xs' a n ≡ span xs a n
  span_apart xs xs' b ws m x a n p low high from to other =
      ⊎_elim (λ (l : x < m). p.before a n (omega arith)) (λ (l : m ≤ x). p.behind a n (omega arith)) (cases_lt x m)

  -- what is written, by its length
  put_here : (xs xs' : List X) (b : ℕ) (ws : List X) (n : ℕ) → Put xs xs' b ws → length ws ≡ n → span xs' b n ≡ ws
  put_here xs xs' b ws n p e = ap (span xs' b) (sym e) ∙ p.here

  -- three stretches side by side
  span_three : (xs : List X) (a m n : ℕ) (us vs ws : List X) → span xs a m ≡ us → span xs (a + m) 1 ≡ vs → span xs (a + m + 1) n ≡ ws → span xs a (m + (1 + n)) ≡ us ++ (vs ++ ws)
  span_three xs a m n us vs ws p q r = span_split xs a m (1 + n) ∙ ap₂ (λ x y. x ++ y) p (span_split xs (a + m) 1 n ∙ ap₂ (λ x y. x ++ y) q r)

-- the parent's cell is taken out, put behind the left row, and the right row is put behind that
module _ {X : Type 0} (xs x1 x3 : List X) (p i k l a r b : ℕ) (v : X)
    (np : 11 * p + 11 ≤ length xs) (nl : 11 * l + 11 ≤ length xs) (nr : 11 * r + 11 ≤ length xs) (within : i < k) (few : k ≤ 11) (fits : a + b + 1 ≤ 11)
    (lp : l ≡ p → ⊥) (rp : r ≡ p → ⊥) (lr : l ≡ r → ⊥)
    (is : span xs (11 * p + i) 1 ≡ v ∷ []) (w1 : Put xs x1 (11 * p + i) (span xs (11 * p + i + 1) (k - i - 1)))
    (w3 : Put (set x1 (11 * l + a) v) x3 (11 * l + a + 1) (span (set x1 (11 * l + a) v) (11 * r) b)) where
  abbrev x2 : List X
  x2 = set x1 (11 * l + a) v

  w2 : Put x1 x2 (11 * l + a) (v ∷ [])
  w2 = written x1 (11 * l + a) v (omega (arith, w1.size))

  n1 : length (span xs (11 * p + i + 1) (k - i - 1)) ≡ k - i - 1
  n1 = span_length xs (11 * p + i + 1) (k - i - 1) (omega arith)

  n3 : length (span x2 (11 * r) b) ≡ b
  n3 = span_length x2 (11 * r) b (omega (arith, w1.size, w2.size))

  pub merged_row : MergedRow xs x3 p i k l a r b
  merged_row = record {
    size = w3.size ∙ w2.size ∙ w1.size;
    left = span_three x3 (11 * l) a b (span xs (11 * l) a) (span xs (11 * p + i) 1) (span xs (11 * r) b)
        (w3.before (11 * l) a (omega arith) ∙ w2.before (11 * l) a (omega arith)
        ∙ span_apart xs x1 (11 * p + i) (span xs (11 * p + i + 1) (k - i - 1)) p l (11 * l) a w1 (omega arith) (omega (arith, n1)) (omega arith) (omega arith) lp)
        (w3.before (11 * l + a) 1 (omega arith) ∙ w2.here ∙ sym is)
        (put_here x2 x3 (11 * l + a + 1) (span x2 (11 * r) b) b w3 n3
        ∙ span_apart x1 x2 (11 * l + a) (v ∷ []) l r (11 * r) b w2 (omega arith) (omega arith) (omega arith) (omega arith) (λ e. lr (sym e))
        ∙ span_apart xs x1 (11 * p + i) (span xs (11 * p + i + 1) (k - i - 1)) p r (11 * r) b w1 (omega arith) (omega (arith, n1)) (omega arith) (omega arith) rp);
    parent = span_split x3 (11 * p) i (k - i - 1)
        ∙ ap₂ (λ u w. u ++ w) (off (11 * p) i (omega arith) (omega arith) ∙ w1.before (11 * p) i (omega arith))
        (off (11 * p + i) (k - i - 1) (omega arith) (omega arith) ∙ put_here xs x1 (11 * p + i) (span xs (11 * p + i + 1) (k - i - 1)) (k - i - 1) w1 n1);
    others = λ x op ol.
        put_others x2 x3 (11 * l + a + 1) (span x2 (11 * r) b) l w3 (omega arith) (omega (arith, n3)) x ol
        ∙ put_others x1 x2 (11 * l + a) (v ∷ []) l w2 (omega arith) (omega arith) x ol
        ∙ put_others xs x1 (11 * p + i) (span xs (11 * p + i + 1) (k - i - 1)) p w1 (omega arith) (omega (arith, n1)) x op;
  }
    where
      -- the parent's cells after its own was taken out
      off : (c n : ℕ) → 11 * p ≤ c → c + n ≤ 11 * p + 11 → span x3 c n ≡ span x1 c n
      off c n from to =
          span_apart x2 x3 (11 * l + a + 1) (span x2 (11 * r) b) l p c n w3 (omega arith) (omega (arith, n3)) from to (λ e. lp (sym e))
          ∙ span_apart x1 x2 (11 * l + a) (v ∷ []) l p c n w2 (omega arith) (omega arith) from to (λ e. lp (sym e))

-- the right row makes room, the end of the left row comes before it, and the parent's cell between them is changed for the cell before that end
module _ {X : Type 0} (xs x1 x2 : List X) (p i l a n r b : ℕ) (u v : X)
    (np : 11 * p + 11 ≤ length xs) (nl : 11 * l + 11 ≤ length xs) (nr : 11 * r + 11 ≤ length xs) (within : i < 11) (most : a + 1 + n ≤ 11) (fits : n + 1 + b ≤ 11)
    (lp : l ≡ p → ⊥) (rp : r ≡ p → ⊥) (lr : l ≡ r → ⊥)
    (w1 : Put xs x1 (11 * r + n + 1) (span xs (11 * r) b)) (w2 : Put x1 x2 (11 * r) (span x1 (11 * l + a + 1) n))
    (is : u ≡ get_or x2 (11 * p + i) u) (was : v ≡ get_or (set x2 (11 * r + n) u) (11 * l + a) v) where
  abbrev x3 : List X
  x3 = set x2 (11 * r + n) u

  abbrev x4 : List X
  x4 = set x3 (11 * p + i) v

  m1 : length (span xs (11 * r) b) ≡ b
  m1 = span_length xs (11 * r) b (omega arith)

  m2 : length (span x1 (11 * l + a + 1) n) ≡ n
  m2 = span_length x1 (11 * l + a + 1) n (omega (arith, w1.size))

  w3 : Put x2 x3 (11 * r + n) (u ∷ [])
  w3 = written x2 (11 * r + n) u (omega (arith, w1.size, w2.size))

  w4 : Put x3 x4 (11 * p + i) (v ∷ [])
  w4 = written x3 (11 * p + i) v (omega (arith, w1.size, w2.size, w3.size))

  -- what the writes to the right node leave of another node x
  apart_right : (x c m : ℕ) → 11 * x ≤ c → c + m ≤ 11 * x + 11 → (x ≡ r → ⊥) → span x3 c m ≡ span xs c m
  apart_right x c m from to other =
      span_apart x2 x3 (11 * r + n) (u ∷ []) r x c m w3 (omega arith) (omega arith) from to other
      ∙ span_apart x1 x2 (11 * r) (span x1 (11 * l + a + 1) n) r x c m w2 (omega arith) (omega (arith, m2)) from to other
      ∙ span_apart xs x1 (11 * r + n + 1) (span xs (11 * r) b) r x c m w1 (omega arith) (omega (arith, m1)) from to other

  -- what the write to the parent leaves of the right node
  apart_parent : (c m : ℕ) → 11 * r ≤ c → c + m ≤ 11 * r + 11 → span x4 c m ≡ span x3 c m
  apart_parent c m from to = span_apart x3 x4 (11 * p + i) (v ∷ []) p r c m w4 (omega arith) (omega arith) from to rp

  between : span xs (11 * p + i) 1 ≡ u ∷ []
  between =
      sym (span_apart x1 x2 (11 * r) (span x1 (11 * l + a + 1) n) r p (11 * p + i) 1 w2 (omega arith) (omega (arith, m2)) (omega arith) (omega arith) (λ e. rp (sym e))
      ∙ span_apart xs x1 (11 * r + n + 1) (span xs (11 * r) b) r p (11 * p + i) 1 w1 (omega arith) (omega (arith, m1)) (omega arith) (omega arith) (λ e. rp (sym e)))
      ∙ span_one x2 (11 * p + i) u (omega (arith, w1.size, w2.size)) is

  pub stolen_left : StolenLeft xs x4 p i l a n r b
  stolen_left = record {
    size = w4.size ∙ w3.size ∙ w2.size ∙ w1.size;
    right = span_three x4 (11 * r) n b (span xs (11 * l + a + 1) n) (span xs (11 * p + i) 1) (span xs (11 * r) b)
        (apart_parent (11 * r) n (omega arith) (omega arith) ∙ w3.before (11 * r) n (omega arith) ∙ put_here x1 x2 (11 * r) (span x1 (11 * l + a + 1) n) n w2 m2
        ∙ span_apart xs x1 (11 * r + n + 1) (span xs (11 * r) b) r l (11 * l + a + 1) n w1 (omega arith) (omega (arith, m1)) (omega arith) (omega arith) lr)
        (apart_parent (11 * r + n) 1 (omega arith) (omega arith) ∙ w3.here ∙ sym between)
        (apart_parent (11 * r + n + 1) b (omega arith) (omega arith) ∙ w3.behind (11 * r + n + 1) b (omega arith) ∙ w2.behind (11 * r + n + 1) b (omega (arith, m2))
        ∙ put_here xs x1 (11 * r + n + 1) (span xs (11 * r) b) b w1 m1);
    parent = w4.here ∙ sym (span_one x3 (11 * l + a) v (omega (arith, w1.size, w2.size, w3.size)) was) ∙ apart_right l (11 * l + a) 1 (omega arith) (omega arith) lr;
    before = w4.before (11 * p) i (omega arith) ∙ apart_right p (11 * p) i (omega arith) (omega arith) (λ e. rp (sym e));
    behind = λ k t. w4.behind (11 * p + i + 1) k (omega arith) ∙ apart_right p (11 * p + i + 1) k (omega arith) (omega arith) (λ e. rp (sym e));
    others = λ x op or. put_others x3 x4 (11 * p + i) (v ∷ []) p w4 (omega arith) (omega arith) x op ∙ apart_right x (11 * x) 11 (omega arith) (omega arith) or;
  }

-- the parent's cell and the front of the right row come behind the left row, the next cell goes to the parent, and the rest of the right row forward
module _ {X : Type 0} (xs x2 x4 : List X) (p i l a n r b : ℕ) (u v : X)
    (np : 11 * p + 11 ≤ length xs) (nl : 11 * l + 11 ≤ length xs) (nr : 11 * r + 11 ≤ length xs) (within : i < 11) (most : n + 1 + b ≤ 11) (fits : a + 1 + n ≤ 11)
    (lp : l ≡ p → ⊥) (rp : r ≡ p → ⊥) (lr : l ≡ r → ⊥)
    (is : u ≡ get_or xs (11 * p + i) u) (w2 : Put (set xs (11 * l + a) u) x2 (11 * l + a + 1) (span (set xs (11 * l + a) u) (11 * r) n))
    (was : v ≡ get_or x2 (11 * r + n) v) (w4 : Put (set x2 (11 * p + i) v) x4 (11 * r) (span (set x2 (11 * p + i) v) (11 * r + n + 1) b)) where
  abbrev y1 : List X
  y1 = set xs (11 * l + a) u

  abbrev y3 : List X
  y3 = set x2 (11 * p + i) v

  z1 : Put xs y1 (11 * l + a) (u ∷ [])
  z1 = written xs (11 * l + a) u (omega arith)

  z3 : Put x2 y3 (11 * p + i) (v ∷ [])
  z3 = written x2 (11 * p + i) v (omega (arith, z1.size, w2.size))

  k2 : length (span y1 (11 * r) n) ≡ n
  k2 = span_length y1 (11 * r) n (omega (arith, z1.size))

  k4 : length (span y3 (11 * r + n + 1) b) ≡ b
  k4 = span_length y3 (11 * r + n + 1) b (omega (arith, z1.size, w2.size, z3.size))

  -- what the writes to the left node leave of another node x
  apart_left : (x c m : ℕ) → 11 * x ≤ c → c + m ≤ 11 * x + 11 → (x ≡ l → ⊥) → span x2 c m ≡ span xs c m
  apart_left x c m from to other =
      span_apart y1 x2 (11 * l + a + 1) (span y1 (11 * r) n) l x c m w2 (omega arith) (omega (arith, k2)) from to other
      ∙ span_apart xs y1 (11 * l + a) (u ∷ []) l x c m z1 (omega arith) (omega arith) from to other

  -- what the later writes leave of the left node, and of the parent
  later_left : (c m : ℕ) → 11 * l ≤ c → c + m ≤ 11 * l + 11 → span x4 c m ≡ span x2 c m
  later_left c m from to =
      span_apart y3 x4 (11 * r) (span y3 (11 * r + n + 1) b) r l c m w4 (omega arith) (omega (arith, k4)) from to lr
      ∙ span_apart x2 y3 (11 * p + i) (v ∷ []) p l c m z3 (omega arith) (omega arith) from to lp

  later_parent : (c m : ℕ) → 11 * p ≤ c → c + m ≤ 11 * p + 11 → span x4 c m ≡ span y3 c m
  later_parent c m from to = span_apart y3 x4 (11 * r) (span y3 (11 * r + n + 1) b) r p c m w4 (omega arith) (omega (arith, k4)) from to (λ e. rp (sym e))

  pub stolen_right : StolenRight xs x4 p i l a n r b
  stolen_right = record {
    size = w4.size ∙ z3.size ∙ w2.size ∙ z1.size;
    left = span_three x4 (11 * l) a n (span xs (11 * l) a) (span xs (11 * p + i) 1) (span xs (11 * r) n)
        (later_left (11 * l) a (omega arith) (omega arith) ∙ w2.before (11 * l) a (omega arith) ∙ z1.before (11 * l) a (omega arith))
        (later_left (11 * l + a) 1 (omega arith) (omega arith) ∙ w2.before (11 * l + a) 1 (omega arith) ∙ z1.here ∙ sym (span_one xs (11 * p + i) u (omega arith) is))
        (later_left (11 * l + a + 1) n (omega arith) (omega arith) ∙ put_here y1 x2 (11 * l + a + 1) (span y1 (11 * r) n) n w2 k2
        ∙ span_apart xs y1 (11 * l + a) (u ∷ []) l r (11 * r) n z1 (omega arith) (omega arith) (omega arith) (omega arith) (λ e. lr (sym e)));
    right = put_here y3 x4 (11 * r) (span y3 (11 * r + n + 1) b) b w4 k4
        ∙ span_apart x2 y3 (11 * p + i) (v ∷ []) p r (11 * r + n + 1) b z3 (omega arith) (omega arith) (omega arith) (omega arith) rp
        ∙ apart_left r (11 * r + n + 1) b (omega arith) (omega arith) (λ e. lr (sym e));
    parent = later_parent (11 * p + i) 1 (omega arith) (omega arith) ∙ z3.here ∙ sym (span_one x2 (11 * r + n) v (omega (arith, z1.size, w2.size)) was)
        ∙ apart_left r (11 * r + n) 1 (omega arith) (omega arith) (λ e. lr (sym e));
    before = later_parent (11 * p) i (omega arith) (omega arith) ∙ z3.before (11 * p) i (omega arith) ∙ apart_left p (11 * p) i (omega arith) (omega arith) (λ e. lp (sym e));
    behind = λ k t.
        later_parent (11 * p + i + 1) k (omega arith) (omega arith) ∙ z3.behind (11 * p + i + 1) k (omega arith)
        ∙ apart_left p (11 * p + i + 1) k (omega arith) (omega arith) (λ e. lp (sym e));
    others = λ x op ol or.
        put_others y3 x4 (11 * r) (span y3 (11 * r + n + 1) b) r w4 (omega arith) (omega (arith, k4)) x or
        ∙ put_others x2 y3 (11 * p + i) (v ∷ []) p z3 (omega arith) (omega arith) x op
        ∙ apart_left x (11 * x) 11 (omega arith) (omega arith) ol;
  }
