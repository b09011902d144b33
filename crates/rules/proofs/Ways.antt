-- The way of the index: what stands left and right of it.
use Rattle.node.proofs.Weaves.{all_front, all_back}
use Rattle.std.proofs.Common.{◌≡◌, ℕ, zero, suc, ◌≤◌, Bool, true, false, List, [], ◌∷◌, ◌++◌, map, length, take, drop, All, sym, ap, ◌∙◌, subst, ⊎_elim, append_assoc, arith, take-append-drop}
use Rattle.std.proofs.lemmas.List.Elements.{All-append, All-nil, All-cons, All-head, All-tail}
use Rattle.std.proofs.lemmas.Bool.{cases_Bool, both_ways, cond_both}
use Rattle.node.specs.Shape.{Tree, row, kids, kid, flat, weave, before, after, Within}
use Rattle.rules.specs.Rules.{low, high}
use Rattle.node.specs.Sorted.{index}
use Rattle.rules.specs.Laws.{WayParts}
use Rattle.node.specs.Sorted.{Rising}
use Rattle.rules.proofs.Nodes.{flat_open, within_kid, within_fan}

module _ {E : Type 0} (b : E → Bool) where
  abbrev IsYes : E → Type 0
  IsYes x = b x ≡ true

  abbrev IsNo : E → Type 0
  IsNo x = b x ≡ false

  abbrev pub Yes : List E → Type 0
  Yes xs = All (λ x. b x ≡ true) xs

  abbrev pub No : List E → Type 0
  No xs = All (λ x. b x ≡ false) xs

  -- empty, or the first is not below
  abbrev pub Stops : List E → Type 0
  Stops [] = Unit {0}
  Stops (x ∷ xs) = b x ≡ false

  pub index_le : (es : List E) → index b es ≤ length es
  index_le [] = omega arith
  index_le (e ∷ es) = cond_both (b e) (suc (index b es)) 0 (λ i. i ≤ suc (length es)) (λ _. omega (arith, index_le es)) (λ _. omega arith)

  pub index_yes : (es : List E) → Yes (take (index b es) es)
  index_yes [] = All-nil IsYes
  index_yes (e ∷ es) = cond_both (b e) (suc (index b es)) 0 (λ i. Yes (take i (e ∷ es))) (λ q. All-cons IsYes e (take (index b es) es) q (index_yes es)) (λ _. All-nil IsYes)

  pub index_stops : (es : List E) → Stops (drop (index b es) es)
  index_stops [] = tt
  index_stops (e ∷ es) = cond_both (b e) (suc (index b es)) 0 (λ i. Stops (drop i (e ∷ es))) (λ q. index_stops es) (λ q. q)

  pub no_parts : (xs ys : List E) → No (xs ++ ys) → No xs × No ys
  no_parts xs ys a = (all_front IsNo xs ys a, all_back IsNo xs ys a)

  pub rising_parts : (xs ys : List E) → Rising b (xs ++ ys) → Rising b xs × Rising b ys
  rising_parts [] ys r = (tt, r)
  rising_parts (x ∷ xs) ys r = (((λ q. (no_parts xs ys (r.0 q)).0), (rising_parts xs ys r.1).0), (rising_parts xs ys r.1).1)

  -- what stands before one that is below is below
  pub rising_yes : (xs : List E) (x : E) (ys : List E) → Rising b (xs ++ x ∷ ys) → b x ≡ true → Yes xs
  rising_yes [] x ys r q = All-nil IsYes
  rising_yes (z ∷ xs) x ys r q =
      All-cons IsYes z xs
      (⊎_elim (λ p. p) (λ p. absurd (both_ways (b x) (All-head IsNo x ys (no_parts xs (x ∷ ys) (r.0 p)).1) q)) (cases_Bool (b z)))
      (rising_yes xs x ys r.1 q)

  pub before_yes : (ls : List (List E)) (es : List E) → Yes es → Rising b (before ls es) → Yes (before ls es)
  before_yes [] es y r = All-nil IsYes
  before_yes (l ∷ ls) [] y r = All-nil IsYes
  before_yes (l ∷ ls) (e ∷ es) y r =
      All-append (λ x. b x ≡ true) l (e ∷ before ls es) (rising_yes l e (before ls es) r (All-head IsYes e es y))
      (All-cons IsYes e (before ls es) (All-head IsYes e es y) (before_yes ls es (All-tail IsYes e es y) (rising_parts l (e ∷ before ls es) r).1.1))

  pub after_no : (ls : List (List E)) (es : List E) → Stops es → Rising b (after ls es) → No (after ls es)
  after_no ls [] s r = All-nil IsNo
  after_no ls (e ∷ es) s r = All-cons IsNo e (weave ls es) s (r.0 s)

  pub stops_no : (es : List E) → Stops es → Rising b es → No es
  stops_no [] s r = All-nil IsNo
  stops_no (e ∷ es) s r = All-cons IsNo e es s (r.0 s)

  pub way_flat : (least h : ℕ) (t : Tree E) → Within least h t → flat h t ≡ low b h t ++ high b h t
  unfolding flat low high
  way_flat least zero t w = sym (take-append-drop (index b (row t)) (row t))
  way_flat least (suc h) t w =
      let i : ℕ = index b (row t) in
      let ante : List E = before (map (flat h) (take i (kids t))) (take i (row t)) in
      let post : List E = after (map (flat h) (drop (suc i) (kids t))) (drop i (row t)) in
      flat_open h t i (index_le (row t)) (within_fan least (suc h) t w)
      ∙ ap (λ r. ante ++ (r ++ post)) (way_flat 4 h (kid t i) (within_kid least h t i w (index_le (row t))))
      ∙ ap (λ r. ante ++ r) (append_assoc (low b h (kid t i)) (high b h (kid t i)) post)
      ∙ sym (append_assoc ante (low b h (kid t i)) (high b h (kid t i) ++ post))

  pub way_sides : (least h : ℕ) (t : Tree E) → Within least h t → Rising b (flat h t) → Yes (low b h t) × No (high b h t)
  unfolding flat low high
  way_sides least zero t w r = (
    index_yes (row t),
    stops_no (drop (index b (row t)) (row t)) (index_stops (row t))
        (rising_parts (take (index b (row t)) (row t)) (drop (index b (row t)) (row t)) (subst (λ l. Rising b l) (sym (take-append-drop (index b (row t)) (row t))) r)).1,
  )
  way_sides least (suc h) t w r =
      let i : ℕ = index b (row t) in
      let ante : List E = before (map (flat h) (take i (kids t))) (take i (row t)) in
      let post : List E = after (map (flat h) (drop (suc i) (kids t))) (drop i (row t)) in
      let open' = flat_open h t i (index_le (row t)) (within_fan least (suc h) t w) in
      let first : Rising b ante × Rising b (flat h (kid t i) ++ post) =
      rising_parts ante (flat h (kid t i) ++ post) (subst (λ l. Rising b l) open' r) in
      let second : Rising b (flat h (kid t i)) × Rising b post = rising_parts (flat h (kid t i)) post first.1 in
      let inner : Yes (low b h (kid t i)) × No (high b h (kid t i)) =
      way_sides 4 h (kid t i) (within_kid least h t i w (index_le (row t))) second.0 in (
        All-append (λ x. b x ≡ true) ante (low b h (kid t i)) (before_yes (map (flat h) (take i (kids t))) (take i (row t)) (index_yes (row t)) first.0) inner.0,
        All-append (λ x. b x ≡ false) (high b h (kid t i)) post inner.1 (after_no (map (flat h) (drop (suc i) (kids t))) (drop i (row t)) (index_stops (row t)) second.1),
      )

pub way_parts : {E : Type 0} → WayParts E
way_parts b h t w = (way_flat b _ h t w, λ r. way_sides b _ h t w r)
