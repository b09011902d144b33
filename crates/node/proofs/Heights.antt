-- How many entries and nodes a formed tree has at least. Assumes nothing.
use Rattle.std.proofs.Common.{ℕ, zero, suc, ◌+◌, ◌*◌, ◌^◌, ◌≤◌, map, length, All, ◌∙◌, le_trans, mul-le-mul_right, arith}
use lib.ListN.{length-map}
use Rattle.std.proofs.lemmas.List.Elements.{All-map, All-weaker}
use Rattle.node.specs.Shape.{Tree, row, kids, flat, weave, weigh, total, Within}
use Rattle.node.specs.Laws.{HeightBound, ManyNodes, fewest, nodes}
use Rattle.node.proofs.Weaves.{weave_long, total_least}

module _ {E : Type 0} where
  pub within_long : (least h : ℕ) (t : Tree E) → Within least h t → suc least * 5 ^ h ≤ length (flat h t) + 1
  unfolding flat Within
  within_long least zero t w = omega (arith, w.0)
  within_long least (suc h) t w =
      let kidwise : All (λ l. 5 ^ suc h ≤ length l + 1) (map (flat h) (kids t)) =
      All-map (λ l. 5 ^ suc h ≤ length l + 1) (flat h) (kids t)
      (All-weaker (Within 4 h) (λ k. 5 ^ suc h ≤ length (flat h k) + 1) (λ k v. omega (arith, within_long 4 h k v)) (kids t) w.3) in
      let long : length (map (flat h) (kids t)) * 5 ^ suc h ≤ length (weave (map (flat h) (kids t)) (row t)) + 1 =
      weave_long (5 ^ suc h) (map (flat h) (kids t)) (row t) (length-map (kids t) (flat h) ∙ w.2) kidwise in
      let many : suc least ≤ length (map (flat h) (kids t)) = simp length-map (omega arith) in
      le_trans (mul-le-mul_right (5 ^ suc h) many) long

  pub height_bound : HeightBound E
  unfolding flat Within
  height_bound zero t w q = omega (arith, within_long 1 zero t (q, w.1, w.2))
  height_bound (suc h) t w q = within_long 1 (suc h) t w

  -- the nodes of a tree by the least number of entries at its top
  nodes_step : (least h : ℕ) (t : Tree E) → ((k : Tree E) → Within 4 h k → fewest h ≤ nodes h k) → Within least (suc h) t → 1 + suc least * fewest h ≤ nodes (suc h) t
  unfolding Within weigh
  nodes_step least h t ih w =
      let each : All (λ k. fewest h ≤ nodes h k) (kids t) = All-weaker (Within 4 h) (λ k. fewest h ≤ nodes h k) ih (kids t) w.3 in
      let sum : length (kids t) * fewest h ≤ total (nodes h) (kids t) = total_least (nodes h) (fewest h) (kids t) each in
      let wide : suc least ≤ length (kids t) = omega (arith, w.0, w.2) in
      let many : suc least * fewest h ≤ length (kids t) * fewest h = mul-le-mul_right (fewest h) wide in
      omega arith

  pub kid_nodes : (h : ℕ) (t : Tree E) → Within 4 h t → fewest h ≤ nodes h t
  unfolding weigh
  kid_nodes zero t w = omega arith
  kid_nodes (suc h) t w = nodes_step 4 h t (λ k v. kid_nodes h k v) w

  pub many_nodes : ManyNodes E
  many_nodes h t w = nodes_step 1 h t (λ k v. kid_nodes h k v) w

fewest_some : (h : ℕ) → 1 ≤ fewest h
fewest_some zero = omega arith
fewest_some (suc h) = omega arith

pub fewest_five : (h : ℕ) → 5 ≤ h → 3906 ≤ fewest h
fewest_five zero l = absurd (omega arith)
fewest_five (suc zero) l = absurd (omega arith)
fewest_five (suc (suc zero)) l = absurd (omega arith)
fewest_five (suc (suc (suc zero))) l = absurd (omega arith)
fewest_five (suc (suc (suc (suc zero)))) l = absurd (omega arith)
fewest_five (suc (suc (suc (suc (suc h))))) l = omega (arith, fewest_some h)
