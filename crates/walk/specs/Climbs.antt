-- The way up from the edge of a leaf, by the heads alone.
--   up H e           the edge in the parent that leads to the node of e
--   up_from H n e    the edge n levels up
--   ups H n m        node m, its parent and so on: n nodes
--   beside s len i   the entry behind or before edge i of a node with len entries: none at the end of the row
--   onward s i       the edge on the far side of entry i
--   Edged H e        e is an edge of a node that stands in the table
--   Found s H e w    w names the entry beside the edge e
--   Past s H n e     on n levels from e on there is no entry beside the edge
--   Rises s H n e w  n levels up from e there is one, which w names
--   Finds            what a search for such an entry answers
--   Leads            what the way from an entry to the next edge answers
--   Tops H n m       m is n levels below a node without a parent
use Rattle.std.specs.Prelude.{◌≡◌, ℕ, zero, suc, ◌+◌, ◌-◌, ◌<◌, ◌≤◌, cond, List, [], ◌∷◌, length, Some, None, Ok, Option, Result, nat_lt}
use Rattle.supply.specs.declared.faults.Fault.{Fault}
use Rattle.node.specs.Breaches.{Breached}
use Rattle.node.specs.declared.head.Head.{Head}
use Rattle.node.specs.declared.ends.Handle.{Handle}
use Rattle.node.specs.declared.ends.Side.{Side}
use Rattle.node.specs.declared.ends.Side.TheVariants.{First, Last}
use Rattle.node.specs.Ends.{Chain, end_edge}
use Rattle.node.specs.Links.{edge}
use Rattle.node.specs.Store.{head_in}
use Rattle.walk.specs.declared.climb.Spot.{Spot}

abbrev pub handle : ℕ → ℕ → Handle
handle m i = record { node = m; idx = i }

abbrev pub spot : ℕ → ℕ → ℕ → Spot
spot m i l = record { node = m; idx = i; level = l }

abbrev pub up : List Head → Handle → Handle
up H e = handle (head_in H e.node).parent (head_in H e.node).place

unfoldable pub up_from : List Head → ℕ → Handle → Handle
up_from H zero e = e
up_from H (suc n) e = up_from H n (up H e)

unfoldable pub ups : List Head → ℕ → ℕ → List ℕ
ups H zero m = []
ups H (suc n) m = m ∷ ups H n (head_in H m).parent

abbrev pub beside : Side → ℕ → ℕ → Option ℕ
beside First len i = cond (nat_lt i len) (Some i) None
beside Last len i = cond (nat_lt 0 i) (Some (i - 1)) None

abbrev pub onward : Side → ℕ → ℕ
onward First i = i + 1
onward Last i = i

pub record Edged (H : List Head) (e : Handle) : Type 0 where
  pub inside : e.node < length H
  pub few : (head_in H e.node).len ≤ 11
  pub within : e.idx ≤ (head_in H e.node).len

unfoldable pub Past : Side → List Head → ℕ → Handle → Type 0
Past s H zero e = Unit {0}
Past s H (suc n) e = Edged H e × (beside s (head_in H e.node).len e.idx ≡ None) × Past s H n (up H e)

pub record Found (s : Side) (H : List Head) (e : Handle) (w : Spot) : Type 0 where
  pub edged : Edged H e
  pub node_is : w.node ≡ e.node
  pub entry_is : beside s (head_in H e.node).len e.idx ≡ Some w.idx

pub record Rises (s : Side) (H : List Head) (n : ℕ) (e : Handle) (w : Spot) : Type 0 where
  pub past : Past s H n e
  pub found : Found s H (up_from H n e) w

-- an entry up to level 5 is found, from level `level` on
abbrev pub Finds : Side → List Head → ℕ → Handle → Result Spot Fault → Type 0
Finds s H level e r = (n m i : ℕ) → level + n ≤ 5 → Rises s H n e (spot m i (level + n)) → r ≡ Ok (spot m i (level + n))

-- in the same leaf, or else at the end of the leaves under the edge behind the entry
pub record Leads (s : Side) (H : List Head) (w : Spot) (r : Result Handle Fault) : Type 0 where
  pub fault : Breached r
  pub here : w.level ≡ 0 → r ≡ Ok (handle w.node (onward s w.idx))
  pub below : (n : ℕ) → w.level ≡ suc n → n ≤ 5 → Chain s H n (edge H w.node (onward s w.idx)) → r ≡ Ok (end_edge s H n (edge H w.node (onward s w.idx)))

unfoldable pub Tops : List Head → ℕ → ℕ → Type 0
Tops H zero m = (m < length H) × ((head_in H m).parent ≡ 65535)
Tops H (suc n) m = (m < length H) × ((head_in H m).parent < 65535) × Tops H n (head_in H m).parent
