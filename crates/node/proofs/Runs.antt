-- Rows of entries in a table, and what writes leave of them. Assumes nothing.
use Rattle.std.proofs.Common.{◌≡◌, ℕ, suc, ◌+◌, ◌-◌, ◌*◌, ◌<◌, ◌≤◌, List, [], ◌∷◌, ◌++◌, map, length, get_or, take, drop, sym, refl, ap, ◌∙◌, subst, ap₂, ⊎_elim, arith, length-append}
use lib.ListN.{length-map}
use Rattle.std.proofs.lemmas.List.{map-append, take_at, drop_at, take-take, get_or-take, get_or-append-add, append_assoc, nil_from_length}
use Rattle.std.proofs.lemmas.Bool.{cases_lt}
use Rattle.node.specs.Cells.{span, Put, Run}
use Rattle.node.specs.Store.{itself}
use Rattle.node.proofs.Spans.{span_split, span_len, span_at}

module _ {X : Type 0} where
  -- what is behind the first m of a stretch
  pub span_front : (xs : List X) (a m n : ℕ) → m ≤ n → take m (span xs a n) ≡ span xs a m
  span_front xs a m n l = take-take m n (drop a xs) l

  -- a stretch that is known in two parts
  pub span_parts : (xs : List X) (a : ℕ) (us vs : List X) → span xs a (length us + length vs) ≡ us ++ vs → (span xs a (length us) ≡ us) × (span xs (a + length us) (length vs) ≡ vs)
  span_parts xs a us vs e =
      let m : ℕ = length us in
      let n : ℕ = length vs in
      let long : length (us ++ vs) ≡ m + n = length-append us vs in
      let far : length (span xs a m) ≡ m = omega (arith, span_len xs a (m + n), span_len xs a m, ap length e) in
      let s = span_split xs a m n in (
        sym (span_front xs a m (m + n) (omega arith)) ∙ ap (take m) e ∙ take_at us vs m refl,
        sym (drop_at (span xs a m) (span xs (a + m) n) m far) ∙ ap (drop m) (sym s ∙ e) ∙ drop_at us vs m refl,
      )

  -- a write within the eleven cells of node m leaves those of any other
  pub put_others : (xs xs' : List X) (b : ℕ) (ws : List X) (m : ℕ) → Put xs xs' b ws → 11 * m ≤ b → b + length ws ≤ 11 * m + 11 → (x : ℕ) → (x ≡ m → ⊥) → span xs' (11 * x) 11 ≡ span xs (11 * x) 11
  put_others xs xs' b ws m p low high x other =
      ⊎_elim (λ (l : x < m). p.before (11 * x) 11 (omega arith)) (λ (l : m ≤ x). p.behind (11 * x) 11 (omega arith)) (cases_lt x m)

module _ {X E : Type 0} (f : E → X) where
  pub put_run : (xs xs' : List X) (b : ℕ) (ws : List X) (es : List E) → Put xs xs' b ws → ws ≡ map f es → Run f xs' b es
  put_run xs xs' b ws es p e =
      let n : length ws ≡ length es = ap length e ∙ length-map es f in
      ap (span xs' b) (sym n) ∙ p.here ∙ e

  pub run_before : (xs xs' : List X) (b : ℕ) (ws : List X) (a : ℕ) (es : List E) → Put xs xs' b ws → a + length es ≤ b → Run f xs a es → Run f xs' a es
  run_before xs xs' b ws a es p l r = p.before a (length es) l ∙ r

  pub run_behind : (xs xs' : List X) (b : ℕ) (ws : List X) (a : ℕ) (es : List E) → Put xs xs' b ws → b + length ws ≤ a → Run f xs a es → Run f xs' a es
  run_behind xs xs' b ws a es p l r = p.behind a (length es) l ∙ r

  pub run_append : (xs : List X) (a : ℕ) (es fs : List E) → Run f xs a es → Run f xs (a + length es) fs → Run f xs a (es ++ fs)
  run_append xs a es fs r s =
      ap (span xs a) (length-append es fs) ∙ span_split xs a (length es) (length fs) ∙ ap₂ (λ u v. u ++ v) r s ∙ sym (map-append f es fs)

  pub run_parts : (xs : List X) (a : ℕ) (es fs : List E) → Run f xs a (es ++ fs) → Run f xs a es × Run f xs (a + length es) fs
  run_parts xs a es fs r =
      let p : span xs a (length (map f es) + length (map f fs)) ≡ map f es ++ map f fs =
      ap (span xs a) (ap₂ (λ m n. m + n) (length-map es f) (length-map fs f) ∙ sym (length-append es fs)) ∙ r ∙ map-append f es fs in
      let q = span_parts xs a (map f es) (map f fs) p in
      (ap (span xs a) (sym (length-map es f)) ∙ q.0, ap₂ (λ m n. span xs (a + m) n) (sym (length-map es f)) (sym (length-map fs f)) ∙ q.1)

  -- a row lies within the table, so far as it has entries
  pub run_inside : (xs : List X) (a : ℕ) (es : List E) → Run f xs a es → length es ≤ length xs - a
  run_inside xs a es r = omega (arith, span_len xs a (length es), ap length r, length-map es f)

  -- the row of a node whose eleven cells are the same
  pub run_same : (xs xs' : List X) (a : ℕ) (es : List E) → span xs' a 11 ≡ span xs a 11 → length es ≤ 11 → Run f xs a es → Run f xs' a es
  run_same xs xs' a es e l r = sym (span_front xs' a (length es) 11 l) ∙ ap (take (length es)) e ∙ span_front xs a (length es) 11 l ∙ r

  -- an entry put between es and fs
  pub run_insert : (xs xs' : List X) (a : ℕ) (es fs : List E) (e : E) (i n : ℕ) → Run f xs a (es ++ fs) → length es ≡ i → length fs ≡ n
      → Put xs xs' (a + i) (f e ∷ span xs (a + i) n) → Run f xs' a (es ++ e ∷ fs)
  run_insert xs xs' a es fs e i n r p q w =
      let s = run_parts xs a es fs r in
      let behind : span xs (a + i) n ≡ map f fs = ap₂ (λ j k. span xs (a + j) k) (sym p) (sym q) ∙ s.1 in
      run_append xs' a es (e ∷ fs)
      (run_before xs xs' (a + i) (f e ∷ span xs (a + i) n) a es w (omega arith) s.0)
      (subst (λ j. Run f xs' (a + j) (e ∷ fs)) (sym p) (put_run xs xs' (a + i) (f e ∷ span xs (a + i) n) (e ∷ fs) w (ap (λ u. f e ∷ u) behind)))

-- edges are read as themselves
pub itself_map : (ks : List ℕ) → map itself ks ≡ ks
itself_map [] = refl
itself_map (k ∷ ks) = ap (λ r. k ∷ r) (itself_map ks)

-- a part of the edges, as a stretch of them
pub edges_part : (es : List ℕ) (ks ls : List ℕ) (i n : ℕ) → Run itself es 0 (ks ++ ls) → length ks ≡ i → length ls ≡ n → span es i n ≡ ls
edges_part es ks ls i n r p q =
    let s = run_parts itself es 0 ks ls r in
    let z : 0 + length ks ≡ i = omega arith in
    ap₂ (span es) (sym z) (sym q) ∙ s.1 ∙ itself_map ls

-- an edge put between ks and ls
pub edges_insert : (es es' : List ℕ) (ks ls : List ℕ) (c i n : ℕ) → Run itself es 0 (ks ++ ls) → length ks ≡ i → length ls ≡ n → Put es es' i (c ∷ span es i n) → Run itself es' 0 (ks ++ c ∷ ls)
edges_insert es es' ks ls c i n r p q w =
    let z : i ≡ 0 + i = omega arith in
    run_insert itself es es' 0 ks ls c i n r p q (subst (λ j. Put es es' j (c ∷ span es j n)) z w)

module _ {X E : Type 0} (f : E → X) where
  -- a row of another node than the one that is written to
  pub run_apart : (xs xs' : List X) (b : ℕ) (ws : List X) (m x a : ℕ) (es : List E) → Put xs xs' b ws → 11 * m ≤ b → b + length ws ≤ 11 * m + 11
      → 11 * x ≤ a → a + length es ≤ 11 * x + 11 → (x ≡ m → ⊥) → Run f xs a es → Run f xs' a es
  run_apart xs xs' b ws m x a es p low high from to other r =
      ⊎_elim (λ (l : x < m). run_before f xs xs' b ws a es p (omega arith) r) (λ (l : m ≤ x). run_behind f xs xs' b ws a es p (omega arith) r) (cases_lt x m)

  -- the entries fs of node m, behind es and gs, copied to the front of node n
  pub run_tail : (xs xs' : List X) (m n i s c : ℕ) (es gs fs : List E) → Run f xs (11 * m) (es ++ (gs ++ fs)) → length (es ++ (gs ++ fs)) ≤ 11 → length es ≡ i → length gs ≡ s → length fs ≡ c
      → (n ≡ m → ⊥) → Put xs xs' (11 * n) (span xs (11 * m + i + s) c) → Run f xs' (11 * m) es × Run f xs' (11 * n) fs
  run_tail xs xs' m n i s c es gs fs r few p q t other w =
      let u = run_parts f xs (11 * m) es (gs ++ fs) r in
      let v = run_parts f xs (11 * m + length es) gs fs u.1 in
      let z : 11 * m + i + s ≡ 11 * m + length es + length gs = omega arith in
      let is : span xs (11 * m + i + s) c ≡ map f fs = ap₂ (span xs) z (sym t) ∙ v.1 in
      let n1 = length-append es (gs ++ fs) in
      let n2 = length-append gs fs in
      let n3 : length (span xs (11 * m + i + s) c) ≡ c = ap length is ∙ length-map fs f ∙ t in (
        run_apart xs xs' (11 * n) (span xs (11 * m + i + s) c) n m (11 * m) es w (omega arith) (omega arith) (omega arith) (omega arith) (λ e. other (sym e)) u.0,
        put_run f xs xs' (11 * n) (span xs (11 * m + i + s) c) fs w is,
      )

  -- the entry that stands at a place of a row
  pub run_at : (xs : List X) (a i : ℕ) (es : List E) (e : E) (fs : List E) (x : X) → Run f xs a (es ++ e ∷ fs) → length es ≡ i → x ≡ get_or xs (a + i) x → x ≡ f e
  run_at xs a i es e fs x r p q =
      let s = (run_parts f xs a es (e ∷ fs) r).1 in
      let z : a + length es + 0 ≡ a + i = omega arith in
      q ∙ ap (λ n. get_or xs n x) (sym z) ∙ sym (span_at xs (a + length es) (suc (length fs)) 0 x (omega arith)) ∙ ap (λ l. get_or l 0 x) s

-- edge i + n of a node, by what stands from i on
pub edge_is : (es : List ℕ) (ks ls : List ℕ) (i n j : ℕ) → Run itself es 0 (ks ++ ls) → length ks ≡ i → n < length ls → j ≡ i + n → get_or es j 0 ≡ get_or ls n 0
edge_is es ks ls i n j r p q e =
    let all : ℕ = length (ks ++ ls) in
    let z : j ≡ length ks + n = omega arith in
    sym (get_or-take all es j 0 (omega (arith, length-append ks ls))) ∙ ap (λ l. get_or l j 0) (r ∙ itself_map (ks ++ ls)) ∙ ap (λ k. get_or (ks ++ ls) k 0) z ∙ get_or-append-add ks ls n 0

-- an edge taken out from between ks and ls
pub edges_remove : (es es' : List ℕ) (ks : List ℕ) (c : ℕ) (ls : List ℕ) (i n : ℕ) → Run itself es 0 (ks ++ c ∷ ls) → length ks ≡ i → length ls ≡ n → Put es es' i (span es (i + 1) n) → Run itself es' 0 (ks ++ ls)
edges_remove es es' ks c ls i n r p q w =
    let s = run_parts itself es 0 ks (c ∷ ls) r in
    let z : 0 + length ks ≡ i = omega arith in
    let behind : span es (i + 1) n ≡ ls =
    edges_part es (ks ++ c ∷ []) ls (i + 1) n (subst (λ (x : List ℕ). Run itself es 0 x) (sym (append_assoc ks (c ∷ []) ls)) r) (length-append ks (c ∷ []) ∙ omega arith) q in
    run_append itself es' 0 ks ls (run_before itself es es' i (span es (i + 1) n) 0 ks w (omega arith) s.0)
    (subst (λ k. Run itself es' k ls) (sym z) (put_run itself es es' i (span es (i + 1) n) ls w (behind ∙ sym (itself_map ls))))

-- edges ls written behind the edges cs of a node of height h, which is a leaf without any or has n of them
pub edges_tail : (es es' : List ℕ) (h n : ℕ) (cs ls ws : List ℕ) → Run itself es 0 cs → (h ≡ 0 → (length cs ≡ 0) × (length ls ≡ 0)) → (0 < h → length cs ≡ n) → ws ≡ ls → Put es es' n ws → Run itself es' 0 (cs ++ ls)
edges_tail es es' h n cs ls ws r low high e w =
    ⊎_elim
    (λ (l : h < 1). let z = low (omega arith) in none (cs ++ ls) (omega (arith, length-append cs ls)))
    (λ (l : 1 ≤ h).
    let z : length cs ≡ n = high (omega arith) in
    let y : n ≡ 0 + length cs = omega arith in
    run_append itself es' 0 cs ls (run_before itself es es' n ws 0 cs w (omega arith) r) (subst (λ k. Run itself es' k ls) y (put_run itself es es' n ws ls w (e ∙ sym (itself_map ls)))))
    (cases_lt h 1)
  where
    none : (xs : List ℕ) → length xs ≡ 0 → Run itself es' 0 xs
    none [] z = refl
    none (x ∷ xs) z = absurd (omega arith)

-- a part of the edges, where a leaf has none
pub edges_part_of : (es : List ℕ) (h i n : ℕ) (ks ls : List ℕ) → Run itself es 0 (ks ++ ls) → (h ≡ 0 → (length ls ≡ 0) × (n ≡ 0)) → (0 < h → (length ks ≡ i) × (length ls ≡ n)) → span es i n ≡ ls
edges_part_of es h i n ks ls r low high =
    ⊎_elim
    (λ (l : h < 1). let z = low (omega arith) in subst (λ k. span es i k ≡ ls) (sym z.1) (sym (nil_from_length ls z.0)))
    (λ (l : 1 ≤ h). let z = high (omega arith) in edges_part es ks ls i n r z.0 z.1)
    (cases_lt h 1)

module _ {X E : Type 0} (f : E → X) where
  -- a row that is put together of two rows and an entry between them
  pub run_three : (xs : List X) (a : ℕ) (us vs ws : List X) (es : List E) (e : E) (fs : List E) (n : ℕ) → n ≡ length es + (1 + length fs) → span xs a n ≡ us ++ (vs ++ ws)
      → us ≡ map f es → vs ≡ f e ∷ [] → ws ≡ map f fs → Run f xs a (es ++ e ∷ fs)
  run_three xs a us vs ws es e fs n z s p q r =
      ap (span xs a) (length-append es (e ∷ fs) ∙ omega arith) ∙ s ∙ ap₂ (λ u v. u ++ v) p (ap₂ (λ u v. u ++ v) q r) ∙ sym (map-append f es (e ∷ fs))

  -- the entry behind es, and the row behind that
  pub run_next : (xs : List X) (a : ℕ) (es : List E) (e : E) (fs : List E) (i : ℕ) → length es ≡ i → Run f xs a (es ++ e ∷ fs) → Run f xs a es × (span xs (a + i) 1 ≡ f e ∷ []) × Run f xs (a + i + 1) fs
  run_next xs a es e fs i p r =
      let s = run_parts f xs a es (e ∷ fs) r in
      let t : Run f xs (a + i) (e ∷ fs) = subst (λ k. Run f xs (a + k) (e ∷ fs)) p s.1 in
      let u = run_parts f xs (a + i) (e ∷ []) fs t in
      (s.0, u.0, u.1)

  -- a row in which one entry was changed for another
  pub run_changed : (xs xs' : List X) (a : ℕ) (us : List E) (e x : E) (ws : List E) (i : ℕ) → length us ≡ i → Run f xs a (us ++ e ∷ ws) → span xs' a i ≡ span xs a i
      → span xs' (a + i) 1 ≡ f x ∷ [] → span xs' (a + i + 1) (length ws) ≡ span xs (a + i + 1) (length ws) → Run f xs' a (us ++ x ∷ ws)
  run_changed xs xs' a us e x ws i p r front cell back =
      let s = run_next xs a us e ws i p r in
      run_three xs' a (span xs' a i) (span xs' (a + i) 1) (span xs' (a + i + 1) (length ws)) us x ws (i + (1 + length ws)) (omega arith)
      (span_split xs' a i (1 + length ws) ∙ ap (λ u. span xs' a i ++ u) (span_split xs' (a + i) 1 (length ws)))
      (front ∙ ap (span xs a) (sym p) ∙ s.0) cell (back ∙ s.2)
