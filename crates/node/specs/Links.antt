-- What the correction of links does to the heads.
--   edge H m i            edge i of node m
--   relink H p i c        node c with parent p and place i
--   Adopted H H' p i cs   the nodes cs have p for a parent, and their places from i on; nothing else has changed
use Rattle.std.specs.Prelude.{◌≡◌, ℕ, ◌+◌, ◌<◌, List, length, slice_index, slice_set}
use Rattle.node.specs.declared.head.Head.{Head}
use Rattle.node.specs.Store.{head_in, times, Once}

abbrev pub edge : List Head → ℕ → ℕ → ℕ
edge H m i = slice_index (head_in H m).edges i

abbrev pub relink : List Head → ℕ → ℕ → ℕ → List Head
relink H p i c = slice_set H c (record { parent = p; place = i; len = (head_in H c).len; edges = (head_in H c).edges })

pub record Adopted (H H' : List Head) (p i : ℕ) (cs : List ℕ) : Type 0 where
  pub size : length H' ≡ length H
  pub lens : (x : ℕ) → (head_in H' x).len ≡ (head_in H x).len
  pub edges : (x : ℕ) → (head_in H' x).edges ≡ (head_in H x).edges
  pub parent_same : (x : ℕ) → times x cs ≡ 0 → (head_in H' x).parent ≡ (head_in H x).parent
  pub place_same : (x : ℕ) → times x cs ≡ 0 → (head_in H' x).place ≡ (head_in H x).place
  pub parents : (j : ℕ) → j < length cs → (head_in H' (slice_index cs j)).parent ≡ p
  pub places : Once cs → (j : ℕ) → j < length cs → (head_in H' (slice_index cs j)).place ≡ i + j
