-- What the tables hold once an entry is put into a node. Assumes nothing.
use Rattle.std.proofs.Common.{◌≡◌, ℕ, suc, ◌+◌, ◌-◌, ◌*◌, ◌<◌, ◌≤◌, ltb, leb, List, [], ◌∷◌, ◌++◌, map, length, get_or, take, drop, Ok, All, Result, sym, refl, ap, ◌∙◌, subst, ⊎_elim, arith, length-drop, take-append-drop, length-take}
use lib.Seq.{split_at}
use Rattle.std.proofs.lemmas.Bool.{cond-true, cond-false, lt-ltb, le-ltb, le-leb, lt-leb, cases_lt}
use Rattle.supply.specs.declared.faults.Fault.{Fault}
use Rattle.supply.specs.Stocks.{Stock, size_of, Given}
use Rattle.node.specs.Shape.{Tree, number, mk, total}
use Rattle.node.specs.Operations.{Lies}
use Rattle.node.specs.Store.{Tables, Sized, Holds, Changed, times}
use Rattle.node.specs.Laws.{occurs, same}
use Rattle.node.specs.Rules.{Grown, whole, parted, settle, put, swap}
use Rattle.node.specs.Balance.{mark, guard, Balanced}
use Rattle.node.proofs.Adopts.{times_append}
use Rattle.node.proofs.Balances.{mark_most, guard_most, balanced_none, balanced_as, balanced_given, beside_changed}
use Rattle.node.proofs.Numbers.{tops_occur, same_self}
use Rattle.node.proofs.Weaves.{total_append}
use Rattle.rules.specs.Held.{Held}
use Rattle.rules.proofs.Branches.{held_mk, held_to, occurs_held}
use Rattle.map.specs.Inserts.{InsertsIn, InsertsLeft, InsertsRight}
use Rattle.insertion.specs.declared.descent.InsertResult.TheVariants.{Fit, Split}
use Rattle.insertion.specs.Grew.{Grew, seated, coming, members}
use Rattle.insertion.specs.Descent.{Comes}
use Rattle.insertion.proofs.Slots.{Fits, up_to, past, seated_parts, swap_parts, seated_front, seated_back, fits_front, fits_back, seated_length, up_to_none, up_to_long, past_none, comes_fits, comes_lengths, comes_edges}
use Rattle.insertion.proofs.Settling.{fit_held, left_held, right_held}

-- how many entries node m has, as it was read from the same tables
pub held_long : {K V : Type 0} {T₀ : Tables K V} (T : Tables K V) (h m : ℕ) {n : ℕ} (es : List (K × V)) (ts : List (Tree (K × V))) → T₀ ≡ T → Lies T₀ m n → Holds T h (mk m es ts) → n ≡ length es
held_long T h m {n} es ts eq lies w = sym (subst (λ U. Lies U m n) eq lies).len_is ∙ (held_mk T h m es ts w).body.len_is

module _ {K V : Type 0} (T T' : Tables K V) (S : Stock) (h m i : ℕ) (e : K × V) (c : ℕ) (es : List (K × V)) (ks new : List (Tree (K × V)))
    (sized : Sized T) (fits : size_of S ≡ length T.heads) (w : Holds T h (mk m es (seated i new ks))) (others : All (Holds T (h - 1)) (coming new))
    (low : i ≤ length es) (comes : Comes h i c new ks) (owned : (x : ℕ) → members h m (seated i new ks) (coming new) x ≤ mark S x) where
  abbrev f : ℕ → ℕ
  f = members h m (seated i new ks) (coming new)

  abbrev occ : ℕ → List (Tree (K × V)) → ℕ
  occ x ts = total (occurs x (h - 1)) ts

  fit : Fits i new ks
  fit = comes_fits h i c new ks comes

  held : Held T h m es (seated i new ks)
  held = held_mk T h m es (seated i new ks) w

  many : (h ≡ 0 → length new ≡ 0) × (0 < h → 0 < length new)
  many = comes_lengths h i c new ks comes

  -- ---- with room

  module _ (fresh : ℕ) (r : Result (Unit {0}) Fault) (room : length es < 11) (did : InsertsIn T T' h m i e c r) where
    abbrev us : List (Tree (K × V))
    us = up_to i new ks

    abbrev ws : List (Tree (K × V))
    ws = past i ks

    count_in : (x : ℕ) → f x ≡ same x m + (occ x us + (occ x (coming new) + occ x ws))
    count_in x = let s : occ x (seated i new ks) ≡ occ x us + occ x ws = ap (occ x) (seated_parts i new ks fit) ∙ total_append (occurs x (h - 1)) us ws in omega arith

    held_in : (r ≡ Ok tt) × Held T' h m (put i e es) (us ++ (coming new ++ ws)) × Changed T T' (m ∷ []) (map number (coming new) ++ map number ws)
    held_in =
        let n : length (take i es) ≡ i = omega (arith, length-take i es) in
        fit_held T T' h m i e c r (take i es) (drop i es) us ws (coming new) sized
        (subst (λ ts. Held T h m (take i es ++ drop i es) ts) (seated_parts i new ks fit) (subst (λ l. Held T h m l (seated i new ks)) (sym (take-append-drop i es)) held))
        others n
        (record { leaf = λ z. up_to_none i new ks fit (many.0 z); inner = λ z. omega (arith, n, up_to_long i new ks fit (many.1 z)) })
        (comes_edges h i c new ks comes) (omega (arith, ap length (take-append-drop i es)))
        (λ x. omega (arith, count_in x, owned x, mark_most S x)) did

    grown : settle fresh m i es ks e new ≡ whole (mk m (put i e es) (swap i new ks))
    grown = cond-true (ltb (length es) 11) _ _ (lt-ltb (length es) 11 room)

    pub settled_fit : (r ≡ Ok tt) × Grew T T' S S f h m (settle fresh m i es ks e new) 0 (Ok Fit)
    settled_fit = (
      held_in.0,
      subst (λ g. Grew T T' S S f h m g 0 (Ok Fit)) (sym grown) (record {
        held = held_to T' h m (put i e es) (swap i new ks) whole_held;
        told = refl;
        stem_is = refl;
        balance = balanced_as S S f f f (λ x. occurs x h (mk m (put i e es) (swap i new ks))) (λ x. omega (arith, count x)) (balanced_none S f);
        beside = beside_changed T T' S f (m ∷ []) (map number (coming new) ++ map number ws) held_in.2
            (λ x l. omega (arith, guard_most S x, count_in x))
            (λ x l. omega (arith, guard_most S x, count_in x, times_append x (map number (coming new)) (map number ws), tops_occur x (h - 1) (coming new), tops_occur x (h - 1) ws));
        link = held_in.2.links m (omega (arith, owned m, mark_most S m, same_self m, count_in m, times_append m (map number (coming new)) (map number ws), tops_occur m (h - 1) (coming new), tops_occur m (h - 1) ws));
        taken = omega arith;
      }),
    )
      where
        whole_held : Held T' h m (put i e es) (swap i new ks)
        whole_held = subst (λ ts. Held T' h m (put i e es) ts) (sym (swap_parts i new ks fit)) held_in.1

        count : (x : ℕ) → occurs x h (mk m (put i e es) (swap i new ks)) ≡ f x
        count x =
            let s : occ x (swap i new ks) ≡ occ x us + (occ x (coming new) + occ x ws) =
            ap (occ x) (swap_parts i new ks fit) ∙ total_append (occurs x (h - 1)) us (coming new ++ ws) ∙ ap (λ n. occ x us + n) (total_append (occurs x (h - 1)) (coming new) ws) in
            omega (arith, count_in x, occurs_held x h m (put i e es) (swap i new ks) whole_held.fan.leaf)

  -- ---- a full node, with a number that was taken for its right half

  module _ (S' : Stock) (n : ℕ) (r : Result (K × V) Fault) (full : 11 ≤ length es) (given : Given S S' n)
      (left : InsertsLeft T T' h m i e c n r) (right : InsertsRight T T' h m i e c n r) where
    abbrev front : List (Tree (K × V))
    front = take 7 ks

    abbrev back : List (Tree (K × V))
    back = drop 7 ks

    abbrev x₆ : K × V
    x₆ = get_or es 6 e

    eleven : length es ≡ 11
    eleven = omega (arith, held.body.few)

    twelve : 0 < h → length ks ≡ 12
    twelve up = omega (arith, held.fan.inner up, seated_length i new ks fit, eleven)

    parts_row : es ≡ take 6 es ++ x₆ ∷ drop 7 es
    parts_row = split_at es 6 e (omega arith)

    there : n < length T.heads
    there = omega (arith, given.below, fits)

    balance_given : Balanced S S' f (λ x. same x n + f x)
    balance_given = balanced_given S S' n f given

    -- the new number is none of those
    unused : (x : ℕ) → same x n + f x ≤ 1
    unused x = omega (arith, balance_given.marks x, mark_most S' x, owned x)

    other : n ≡ m → ⊥
    other z = omega (arith, unused m, same_self m, ap (λ k. same m k) z)

    away : (x : ℕ) → f x < guard S x → (same x n ≡ 0) × (f x ≡ 0)
    away x l = (omega (arith, balance_given.marks x, balance_given.bars x, guard_most S' x), omega (arith, guard_most S x))

    -- what is to be shown, of the two halves
    module _ (ls rs' : List (K × V)) (lt rt : List (Tree (K × V))) (ns : List ℕ) (done : (r ≡ Ok x₆) × Held T' h m ls lt × Held T' h n rs' rt × Changed T T' (n ∷ m ∷ []) ns)
        (sum : (x : ℕ) → f x ≡ same x m + (occ x lt + occ x rt)) (tops : (x : ℕ) → times x ns ≤ 2 * (occ x lt + occ x rt)) where
      halves : Grew T T' S S' f h m (parted (mk m ls lt) x₆ (mk n rs' rt)) 1 (Ok (Split x₆.0 x₆.1 n))
      halves = record {
        held = (held_to T' h m ls lt done.1, held_to T' h n rs' rt done.2);
        told = refl;
        stem_is = refl;
        balance = balanced_as S S' f (λ x. same x n + f x) f (λ x. occurs x h (mk m ls lt) + occurs x h (mk n rs' rt))
            (λ x. omega (arith, sum x, occurs_held x h m ls lt done.1.fan.leaf, occurs_held x h n rs' rt done.2.fan.leaf)) balance_given;
        beside = beside_changed T T' S f (n ∷ m ∷ []) ns done.3
            (λ x l. omega (arith, away x l, sum x))
            (λ x l. omega (arith, away x l, sum x, tops x));
        link = done.3.links m (omega (arith, unused m, sum m, same_self m, tops m));
        taken = given.allowance;
      }

    module _ (l : i ≤ 6) where
      abbrev us_l : List (Tree (K × V))
      us_l = up_to i new front

      abbrev vs_l : List (Tree (K × V))
      vs_l = past i front

      fit_l : Fits i new front
      fit_l = fits_front i new ks fit l

      seated_l : seated i new ks ≡ (us_l ++ vs_l) ++ back
      seated_l = ap (seated i new) (sym (take-append-drop 7 ks)) ∙ seated_front i new front back fit_l ∙ ap (λ z. z ++ back) (seated_parts i new front fit_l)

      count_l : (x : ℕ) → f x ≡ same x m + (occ x us_l + (occ x (coming new) + (occ x vs_l + occ x back)))
      count_l x =
          let s : occ x (seated i new ks) ≡ (occ x us_l + occ x vs_l) + occ x back =
          ap (occ x) seated_l ∙ total_append (occurs x (h - 1)) (us_l ++ vs_l) back ∙ ap (λ k. k + occ x back) (total_append (occurs x (h - 1)) us_l vs_l) in
          omega arith

      done_l : (r ≡ Ok x₆) × Held T' h m (put i e (take 6 es)) (us_l ++ (coming new ++ vs_l)) × Held T' h n (drop 7 es) back
          × Changed T T' (n ∷ m ∷ []) (map number back ++ (map number (coming new) ++ map number vs_l))
      done_l =
          let six : length (take 6 es) ≡ 6 = omega (arith, length-take 6 es) in
          let at : length (take i (take 6 es)) ≡ i = omega (arith, length-take i (take 6 es)) in
          let row_is : es ≡ (take i (take 6 es) ++ drop i (take 6 es)) ++ x₆ ∷ drop 7 es = parts_row ∙ ap (λ z. z ++ x₆ ∷ drop 7 es) (sym (take-append-drop i (take 6 es))) in
          left_held T T' h m i e c n r x₆ (coming new) sized others (comes_edges h i c new ks comes) there other
          (take i (take 6 es)) (drop i (take 6 es)) (drop 7 es) us_l vs_l back
          (subst (λ ts. Held T h m ((take i (take 6 es) ++ drop i (take 6 es)) ++ x₆ ∷ drop 7 es) ts) seated_l (subst (λ l. Held T h m l (seated i new ks)) row_is held))
          at (ap length (take-append-drop i (take 6 es)) ∙ six)
          (record { leaf = λ z. up_to_none i new front fit_l (many.0 z); inner = λ z. omega (arith, at, up_to_long i new front fit_l (many.1 z)) })
          ((λ z. past_none i new front fit_l (many.0 z)), (λ z. omega (arith, twelve z, length-drop (suc i) front, length-take 7 ks, length-drop i (take 6 es), six)))
          (λ x. omega (arith, unused x, count_l x)) left

      swap_l : swap i new front ≡ us_l ++ (coming new ++ vs_l)
      swap_l = swap_parts i new front fit_l

      pub settled_left : (r ≡ Ok x₆) × Grew T T' S S' f h m (settle n m i es ks e new) 1 (Ok (Split x₆.0 x₆.1 n))
      settled_left = (
        done_l.0,
        subst (λ g. Grew T T' S S' f h m g 1 (Ok (Split x₆.0 x₆.1 n)))
            (sym (cond-false (ltb (length es) 11) _ _ (le-ltb (length es) 11 full) ∙ cond-true (leb i 6) _ _ (le-leb i 6 l)))
            (halves (put i e (take 6 es)) (drop 7 es) (swap i new front) back (map number back ++ (map number (coming new) ++ map number vs_l))
            (done_l.0, subst (λ ts. Held T' h m (put i e (take 6 es)) ts) (sym swap_l) done_l.1, done_l.2, done_l.3)
            (λ x. omega (arith, count_l x, total_swap x))
            (λ x.
            omega (
              arith,
              total_swap x,
              times_append x (map number back) (map number (coming new) ++ map number vs_l),
              times_append x (map number (coming new)) (map number vs_l),
              tops_occur x (h - 1) back,
              tops_occur x (h - 1) (coming new),
              tops_occur x (h - 1) vs_l,
            ))),
      )
        where
          total_swap : (x : ℕ) → occ x (swap i new front) ≡ occ x us_l + (occ x (coming new) + occ x vs_l)
          total_swap x = ap (occ x) swap_l ∙ total_append (occurs x (h - 1)) us_l (coming new ++ vs_l) ∙ ap (λ k. occ x us_l + k) (total_append (occurs x (h - 1)) (coming new) vs_l)

    module _ (l : 6 < i) where
      abbrev j : ℕ
      j = i - 7

      abbrev vs_r : List (Tree (K × V))
      vs_r = up_to j new back

      abbrev ws_r : List (Tree (K × V))
      ws_r = past j back

      fit_r : Fits j new back
      fit_r = fits_back i new ks fit l

      seven : 0 < h → length front ≡ 7
      seven z = omega (arith, twelve z, length-take 7 ks)

      seated_at : seated i new ks ≡ front ++ seated j new back
      seated_at = ⊎_elim
          (λ (z : h < 1). ap (λ u. seated i u ks) (comes.leaf (omega arith)).0 ∙ sym (take-append-drop 7 ks) ∙ ap (λ u. front ++ seated j u back) (sym (comes.leaf (omega arith)).0))
          (λ (z : 1 ≤ h).
          let at : i ≡ length front + j = omega (arith, seven (omega arith)) in
          ap (λ u. seated i new u) (sym (take-append-drop 7 ks)) ∙ ap (λ k. seated k new (front ++ back)) at ∙ seated_back j new front back fit_r)
          (cases_lt h 1)

      seated_r : seated i new ks ≡ front ++ (vs_r ++ ws_r)
      seated_r = seated_at ∙ ap (λ z. front ++ z) (seated_parts j new back fit_r)

      count_r : (x : ℕ) → f x ≡ same x m + (occ x front + (occ x (coming new) + (occ x vs_r + occ x ws_r)))
      count_r x =
          let s : occ x (seated i new ks) ≡ occ x front + (occ x vs_r + occ x ws_r) =
          ap (occ x) seated_r ∙ total_append (occurs x (h - 1)) front (vs_r ++ ws_r) ∙ ap (λ k. occ x front + k) (total_append (occurs x (h - 1)) vs_r ws_r) in
          omega arith

      done_r : (r ≡ Ok x₆) × Held T' h m (take 6 es) front × Held T' h n (put j e (drop 7 es)) (vs_r ++ (coming new ++ ws_r))
          × Changed T T' (n ∷ m ∷ []) ((map number vs_r ++ map number ws_r) ++ (map number (coming new) ++ map number ws_r))
      done_r =
          let six : length (take 6 es) ≡ 6 = omega (arith, length-take 6 es) in
          let at : length (take j (drop 7 es)) ≡ j = omega (arith, length-take j (drop 7 es), length-drop 7 es) in
          let row_is : es ≡ take 6 es ++ x₆ ∷ (take j (drop 7 es) ++ drop j (drop 7 es)) = parts_row ∙ ap (λ z. take 6 es ++ x₆ ∷ z) (sym (take-append-drop j (drop 7 es))) in
          right_held T T' h m i e c n r x₆ (coming new) sized others (comes_edges h i c new ks comes) there other
          (take 6 es) (take j (drop 7 es)) (drop j (drop 7 es)) front vs_r ws_r
          (subst (λ ts. Held T h m (take 6 es ++ x₆ ∷ (take j (drop 7 es) ++ drop j (drop 7 es))) ts) seated_r (subst (λ l. Held T h m l (seated i new ks)) row_is held))
          six (omega arith)
          (record { leaf = λ z. ap (λ u. length (take 7 u)) (comes.leaf z).1; inner = λ z. omega (arith, six, seven z) })
          (record { leaf = λ z. up_to_none j new back fit_r (many.0 z); inner = λ z. omega (arith, at, up_to_long j new back fit_r (many.1 z)) })
          (λ x. omega (arith, unused x, count_r x)) right

      swap_r : swap j new back ≡ vs_r ++ (coming new ++ ws_r)
      swap_r = swap_parts j new back fit_r

      pub settled_right : (r ≡ Ok x₆) × Grew T T' S S' f h m (settle n m i es ks e new) 1 (Ok (Split x₆.0 x₆.1 n))
      settled_right = (
        done_r.0,
        subst (λ g. Grew T T' S S' f h m g 1 (Ok (Split x₆.0 x₆.1 n)))
            (sym (cond-false (ltb (length es) 11) _ _ (le-ltb (length es) 11 full) ∙ cond-false (leb i 6) _ _ (lt-leb i 6 l)))
            (halves (take 6 es) (put j e (drop 7 es)) front (swap j new back) ((map number vs_r ++ map number ws_r) ++ (map number (coming new) ++ map number ws_r))
            (done_r.0, done_r.1, subst (λ ts. Held T' h n (put j e (drop 7 es)) ts) (sym swap_r) done_r.2, done_r.3)
            (λ x. omega (arith, count_r x, total_swap x))
            (λ x.
            omega (
              arith,
              total_swap x,
              times_append x (map number vs_r ++ map number ws_r) (map number (coming new) ++ map number ws_r),
              times_append x (map number vs_r) (map number ws_r),
              times_append x (map number (coming new)) (map number ws_r),
              tops_occur x (h - 1) vs_r,
              tops_occur x (h - 1) (coming new),
              tops_occur x (h - 1) ws_r,
            ))),
      )
        where
          total_swap : (x : ℕ) → occ x (swap j new back) ≡ occ x vs_r + (occ x (coming new) + occ x ws_r)
          total_swap x = ap (occ x) swap_r ∙ total_append (occurs x (h - 1)) vs_r (coming new ++ ws_r) ∙ ap (λ k. occ x vs_r + k) (total_append (occurs x (h - 1)) (coming new) ws_r)

    pub settled_full : (r ≡ Ok x₆) × Grew T T' S S' f h m (settle n m i es ks e new) 1 (Ok (Split x₆.0 x₆.1 n))
    settled_full = ⊎_elim (λ (l : 6 < i). settled_right l) (λ (l : i ≤ 6). settled_left l) (cases_lt 6 i)

-- the same answer in other words
pub retold : {K V : Type 0} {T T' : Tables K V} {S S' : Stock} {f : ℕ → ℕ} {h m : ℕ} {g : Grown (K × V)} {k n : ℕ} (p q : K × V) → p ≡ q
    → Grew T T' S S' f h m g k (Ok (Split q.0 q.1 n)) → Grew T T' S S' f h m g k (Ok (Split p.0 p.1 n))
retold {K} {V} {T} {T'} {S} {S'} {f} {h} {m} {g} {k} {n} p q e w = subst (λ (y : K × V). Grew T T' S S' f h m g k (Ok (Split y.0 y.1 n))) (sym e) w
