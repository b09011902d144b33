-- What a pass takes of a tree: its nodes, and the keys of its list. Assumes nothing.
use Rattle.std.proofs.Common.{◌≡◌, ℕ, zero, suc, ◌+◌, ◌-◌, List, [], ◌∷◌, ◌++◌, map, sym, refl, ap, ◌∙◌, arith}
use Rattle.std.proofs.lemmas.List.{map-append}
use Rattle.node.specs.declared.ends.Side.TheVariants.{First, Last}
use Rattle.node.specs.Laws.{same, occurs}
use Rattle.node.specs.Links.{edge}
use Rattle.node.specs.Shape.{Tree, number, row, kids, flat, weave, total}
use Rattle.node.specs.Store.{Tables, first}
use Rattle.node.proofs.Numbers.{occurs_parts}
use Rattle.walk.specs.Window.{Bounds, only}
use Rattle.audit.specs.Marks.{Unmet}
use Rattle.audit.specs.Passes.{count, keys_of, Trail, begins, ends, marked, stepped, pass}
use Rattle.audit.proofs.Passing.{moved, after, pass_leaf, pass_above, stepped_one, stepped_more}
use Rattle.audit.proofs.Taking.{Took, took_as, took_join, took_same, took_mark, took_keys}

module _ {K V : Type 0} (T : Tables K V) where
  flat_suc : (h : ℕ) (t : Tree (K × V)) → weave (map (flat h) (kids t)) (row t) ≡ flat (suc h) t
  unfolding flat
  flat_suc h t = refl

  pub took_leaf : (b : Bounds) (t : Tree (K × V)) (s : Trail K) → Unmet s.met (number t)
      → keys_of T (number t) (begins T.heads zero b) (ends T.heads zero b (number t) - begins T.heads zero b) ≡ map first (flat zero t)
      → Took (λ x. occurs x zero t) (map first (flat zero t)) s (pass T b zero (number t) s)
  took_leaf b t s u keys =
      let m : ℕ = number t in
      let i : ℕ = begins T.heads zero b in
      let n : ℕ = ends T.heads zero b m - i in
      let s1 : Trail K = marked m s in
      took_same (λ x. occurs x zero t) (map first (flat zero t)) (moved T m i n s1) (pass_leaf T b m s)
      (took_as (λ x. same x m + 0) (λ x. occurs x zero t) ([] ++ keys_of T m i n) (map first (flat zero t)) s (moved T m i n s1)
      (λ x. omega (arith, occurs_parts x zero t)) keys
      (took_join (λ x. same x m) (λ _. 0) [] (keys_of T m i n) s s1 (moved T m i n s1) (took_mark m s u) (took_keys (keys_of T m i n) s1)))

  -- the last child
  pub took_one : (h m i : ℕ) (b : Bounds) (t : Tree (K × V)) (s : Trail K) → Took (λ x. occurs x h t) (map first (flat h t)) s (after T h b (edge T.heads m i) s)
      → Took (λ x. total (occurs x h) (t ∷ [])) (map first (flat h t)) s (stepped T (after T h) m zero i b s)
  took_one h m i b t s w =
      took_same (λ x. total (occurs x h) (t ∷ [])) (map first (flat h t)) (after T h b (edge T.heads m i) s) (stepped_one T (after T h) m i b s)
      (took_as (λ x. occurs x h t) (λ x. total (occurs x h) (t ∷ [])) (map first (flat h t)) (map first (flat h t)) s (after T h b (edge T.heads m i) s) (λ x. omega arith) refl w)

  -- a child, the entry behind it, and the children from there on
  pub took_more : (h m n i : ℕ) (b : Bounds) (t : Tree (K × V)) (ts : List (Tree (K × V))) (e : K × V) (es : List (K × V)) (s : Trail K) → keys_of T m i 1 ≡ first e ∷ []
      → Took (λ x. occurs x h t) (map first (flat h t)) s (after T h (only First b) (edge T.heads m i) s)
      → Took (λ x. total (occurs x h) ts) (map first (weave (map (flat h) ts) es)) (moved T m i 1 (after T h (only First b) (edge T.heads m i) s))
      (stepped T (after T h) m n (i + 1) (only Last b) (moved T m i 1 (after T h (only First b) (edge T.heads m i) s)))
      → Took (λ x. total (occurs x h) (t ∷ ts)) (map first (flat h t ++ e ∷ weave (map (flat h) ts) es)) s (stepped T (after T h) m (suc n) i b s)
  took_more h m n i b t ts e es s q t1 t3 =
      let s1 : Trail K = after T h (only First b) (edge T.heads m i) s in
      let s2 : Trail K = moved T m i 1 s1 in
      let s3 : Trail K = stepped T (after T h) m n (i + 1) (only Last b) s2 in
      let ks : List K = map first (flat h t) in
      let ls : List K = map first (weave (map (flat h) ts) es) in
      let one : List K = keys_of T m i 1 in
      let all : List (K × V) = flat h t ++ e ∷ weave (map (flat h) ts) es in
      let split : ks ++ (one ++ ls) ≡ map first all = ap (λ o. ks ++ (o ++ ls)) q ∙ sym (map-append first (flat h t) (e ∷ weave (map (flat h) ts) es)) in
      took_same (λ x. total (occurs x h) (t ∷ ts)) (map first all) s3 (stepped_more T (after T h) m n i b s)
      (took_as (λ x. occurs x h t + (0 + total (occurs x h) ts)) (λ x. total (occurs x h) (t ∷ ts)) (ks ++ (one ++ ls)) (map first all) s s3 (λ x. omega arith) split
      (took_join (λ x. occurs x h t) (λ x. 0 + total (occurs x h) ts) ks (one ++ ls) s s1 s3 t1
      (took_join (λ _. 0) (λ x. total (occurs x h) ts) one ls s1 s2 s3 (took_keys one s1) t3)))

  pub took_above : (b : Bounds) (h : ℕ) (t : Tree (K × V)) (s : Trail K) → Unmet s.met (number t)
      → Took (λ x. total (occurs x h) (kids t)) (map first (weave (map (flat h) (kids t)) (row t))) (marked (number t) s)
      (stepped T (after T h) (number t) (count T (suc h) b (number t)) (begins T.heads (suc h) b) b (marked (number t) s))
      → Took (λ x. occurs x (suc h) t) (map first (flat (suc h) t)) s (pass T b (suc h) (number t) s)
  took_above b h t s u w =
      let m : ℕ = number t in
      let s1 : Trail K = marked m s in
      let s2 : Trail K = stepped T (after T h) m (count T (suc h) b m) (begins T.heads (suc h) b) b s1 in
      let keys : List K = map first (weave (map (flat h) (kids t)) (row t)) in
      took_same (λ x. occurs x (suc h) t) (map first (flat (suc h) t)) s2 (pass_above T b h m s)
      (took_as (λ x. same x m + total (occurs x h) (kids t)) (λ x. occurs x (suc h) t) ([] ++ keys) (map first (flat (suc h) t)) s s2 (λ x. sym (occurs_parts x (suc h) t)) (ap (map first) (flat_suc h t))
      (took_join (λ x. same x m) (λ x. total (occurs x h) (kids t)) [] keys s s1 s2 (took_mark m s u) w))
