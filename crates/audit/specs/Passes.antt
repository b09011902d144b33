-- A pass over the nodes under one, which shows what stands between the bounds b.
--   Trail            the nodes met, and the run of the keys
--   part             a node by its number, its height and so on
--   Climbable H n e  the nodes from e on lie in the table, n levels up
--   Under H h m o    an edge, if there is one, lies under node m of height h
--   index_in H h o d the index of the edge of that node that leads to it, else d
--   begins, ends     the indexes of the first and the last edge that are shown
--   marked m s       the trail with node m met
--   noting ks s      the trail with the keys ks taken
--   Fits             node m lies in the tables, with at least `least` entries, and the bounds lie under it, in order
--   Led T m i        node m has an edge more than entries; the child at edge i lies in the tables, and names m as its parent and i as its place
--   keys_of T m i n  the n keys of node m from index i on
--   stepped T f m n i b s    the trail after n + 1 children of node m, from edge i on, and the entries between them, where f is what a child makes of it
--   count T h b m    how many entries of node m are shown
--   pass T b h m s   the trail after a pass over node m of height h
--   Steps c T P f m n i b s  those children are led to and met with P, and the entries come in order
--   Passable c T l b h m s   the pass is without fault
use Rattle.std.specs.Prelude.{◌≡◌, ℕ, zero, suc, ◌+◌, ◌-◌, ◌*◌, ◌<◌, ◌≤◌, List, length, Some, None, Option}
use Rattle.std.specs.declared.cmp.Ordering.{Ordering}
use Rattle.node.specs.declared.head.Head.{Head}
use Rattle.node.specs.declared.ends.Handle.{Handle}
use Rattle.node.specs.declared.ends.Side.TheVariants.{First, Last}
use Rattle.node.specs.Cells.{span}
use Rattle.node.specs.Links.{edge}
use Rattle.node.specs.Operations.{Lies}
use Rattle.node.specs.Store.{Tables, Link, head_in, head_at}
use Rattle.walk.specs.Climbs.{up, up_from}
use Rattle.walk.specs.Window.{Bounds, only}
use Rattle.audit.specs.declared.marks.Met.{Met}
use Rattle.audit.specs.declared.runs.Run.{Run}
use Rattle.audit.specs.declared.passes.Part.{Part}
use Rattle.audit.specs.Marks.{Unmet, with_mark}
use Rattle.audit.specs.Runs.{Notes, noted}

pub record Trail (K : Type 0) : Type 0 where
  pub met : Met
  pub run : Run K

abbrev pub trail : {K : Type 0} → Met → Run K → Trail K
trail m r = record { met = m; run = r }

abbrev pub part : ℕ → ℕ → ℕ → Option Handle → Option Handle → Part
part m h l e f = record { node = record { node = m; height = h }; least = l; front = e; back = f }

unfoldable pub Climbable : List Head → ℕ → Handle → Type 0
Climbable H zero e = Unit {0}
Climbable H (suc n) e = (e.node < length H) × Climbable H n (up H e)

abbrev pub Under : List Head → ℕ → ℕ → Option Handle → Type 0
Under H h m None = Unit {0}
Under H h m (Some e) = Climbable H h e × ((up_from H h e).node ≡ m)

abbrev pub index_in : List Head → ℕ → Option Handle → ℕ → ℕ
index_in H h None d = d
index_in H h (Some e) d = (up_from H h e).idx

abbrev pub begins : List Head → ℕ → Bounds → ℕ
begins H h b = index_in H h b.front 0

abbrev pub ends : List Head → ℕ → Bounds → ℕ → ℕ
ends H h b m = index_in H h b.back (head_in H m).len

pub record Fits {K V : Type 0} (T : Tables K V) (least : ℕ) (b : Bounds) (h m : ℕ) : Type 0 where
  pub lies : Lies T m (head_at T m).len
  pub enough : least ≤ (head_at T m).len
  pub front : Under T.heads h m b.front
  pub back : Under T.heads h m b.back
  pub ordered : begins T.heads h b ≤ ends T.heads h b m
  pub within : ends T.heads h b m ≤ (head_at T m).len

pub record Led {K V : Type 0} (T : Tables K V) (m i : ℕ) : Type 0 where
  pub wide : (head_at T m).len < length (head_at T m).edges
  pub inside : edge T.heads m i < length T.heads
  pub link : Link T m i (edge T.heads m i)

abbrev pub marked : {K : Type 0} → ℕ → Trail K → Trail K
marked m s = trail (with_mark s.met m) s.run

abbrev pub noting : {K : Type 0} → List K → Trail K → Trail K
noting ks s = trail s.met (noted ks s.run)

module _ {K V : Type 0} (T : Tables K V) where
  abbrev pub keys_of : ℕ → ℕ → ℕ → List K
  keys_of m i n = span T.keys (11 * m + i) n

  unfoldable pub stepped : (Bounds → ℕ → Trail K → Trail K) → ℕ → ℕ → ℕ → Bounds → Trail K → Trail K
  stepped f m zero i b s = f b (edge T.heads m i) s
  stepped f m (suc n) i b s = stepped f m n (i + 1) (only Last b) (noting (keys_of m i 1) (f (only First b) (edge T.heads m i) s))

  abbrev pub count : ℕ → Bounds → ℕ → ℕ
  count h b m = ends T.heads h b m - begins T.heads h b

  unfoldable pub pass : Bounds → ℕ → ℕ → Trail K → Trail K
  pass b zero m s = noting (keys_of m (begins T.heads zero b) (count zero b m)) (marked m s)
  pass b (suc h) m s = stepped (λ c k r. pass c h k r) m (count (suc h) b m) (begins T.heads (suc h) b) b (marked m s)

module _ {K V : Type 0} (compares : K → K → Ordering) (T : Tables K V) where
  unfoldable pub Steps : (Bounds → ℕ → Trail K → Type 0) → (Bounds → ℕ → Trail K → Trail K) → ℕ → ℕ → ℕ → Bounds → Trail K → Type 0
  Steps P f m zero i b s = Led T m i × P b (edge T.heads m i) s
  Steps P f m (suc n) i b s =
      Led T m i
      × P (only First b) (edge T.heads m i) s
      × Notes compares (keys_of T m i 1) (f (only First b) (edge T.heads m i) s).run
      × Steps P f m n (i + 1) (only Last b) (noting (keys_of T m i 1) (f (only First b) (edge T.heads m i) s))

  unfoldable pub Passable : ℕ → Bounds → ℕ → ℕ → Trail K → Type 0
  Passable least b zero m s = Fits T least b zero m × Unmet s.met m × Notes compares (keys_of T m (begins T.heads zero b) (count T zero b m)) s.run
  Passable least b (suc h) m s =
      Fits T least b (suc h) m
      × Unmet s.met m
      × Steps (λ c k r. Passable 4 c h k r) (λ c k r. pass T c h k r) m (count T (suc h) b m) (begins T.heads (suc h) b) b (marked m s)
