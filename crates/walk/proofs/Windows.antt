-- A tree shown between two edges. Assumes nothing.
use Rattle.std.proofs.Common.{◌≡◌, ℕ, zero, suc, ◌<◌, List, [], ◌∷◌, ◌++◌, length, None, All, Option, refl, subst, arith}
use Rattle.std.proofs.lemmas.List.Elements.{All-nil, All-cons}
use Rattle.node.specs.declared.ends.Handle.{Handle}
use Rattle.node.specs.declared.ends.Side.{Side}
use Rattle.node.specs.declared.ends.Side.TheVariants.{First, Last}
use Rattle.node.specs.Shape.{Tree, row, kids}
use Rattle.node.specs.Store.{Tables}
use Rattle.walk.specs.Steps.{other, cons, Fanned}
use Rattle.walk.specs.Window.{Bounds, bound, put, only, Pane, Leafs, Inner, Among, Shown}

-- ---- bounds

-- the first of all has both where it is alone, and one of them else
module _ {X : Type 0} (P : Bounds → X → Type 0) where
  among_push : (b : Bounds) (k : X) (ks : List X) (l : X) → P (only Last b) l → Among P (only First b) (k ∷ ks) → Among P b ((k ∷ ks) ++ l ∷ [])
  among_push b k [] l p a = (a, p)
  among_push b k (k' ∷ ks) l p a = (a.0, among_push (only Last b) k' ks l p a.1)

  among_unpush : (b : Bounds) (k : X) (ks : List X) (l : X) → Among P b ((k ∷ ks) ++ l ∷ []) → P (only Last b) l × Among P (only First b) (k ∷ ks)
  among_unpush b k [] l a = (a.1, a.0)
  among_unpush b k (k' ∷ ks) l a = let r = among_unpush (only Last b) k' ks l a.1 in (r.0, (a.0, r.1))

  pub among_more : (s : Side) (b : Bounds) (k : X) (l : X) (ls : List X) → P (only s b) k → Among P (only (other s) b) (l ∷ ls) → Among P b (cons s k (l ∷ ls))
  among_more First b k l ls p a = (p, a)
  among_more Last b k l ls p a = among_push b l ls k p a

  pub among_less : (s : Side) (b : Bounds) (k : X) (l : X) (ls : List X) → Among P b (cons s k (l ∷ ls)) → P (only s b) k × Among P (only (other s) b) (l ∷ ls)
  among_less First b k l ls a = a
  among_less Last b k l ls a = among_unpush b l ls k a

  pub among_one : (s : Side) (b : Bounds) (k : X) → P b k → Among P b (cons s k [])
  among_one First b k p = p
  among_one Last b k p = p

  pub among_alone : (s : Side) (b : Bounds) (k : X) → Among P b (cons s k []) → P b k
  among_alone First b k p = p
  among_alone Last b k p = p

-- ---- views

module _ {K V : Type 0} (T : Tables K V) (least : ℕ) (b : Bounds) where
  pub shown_leaf : (t : Tree (K × V)) → Shown T least b zero t → Leafs T least b t
  unfolding Shown
  shown_leaf t w = w

  pub leaf_shown : (t : Tree (K × V)) → Leafs T least b t → Shown T least b zero t
  unfolding Shown
  leaf_shown t w = w

  pub shown_inner : (h : ℕ) (t : Tree (K × V)) → Shown T least b (suc h) t → Inner T least b t
  unfolding Shown
  shown_inner h t w = w.0

  pub shown_kids : (h : ℕ) (t : Tree (K × V)) → Shown T least b (suc h) t → Among (λ c k. Shown T 4 c h k) b (kids t)
  unfolding Shown
  shown_kids h t w = w.1

  pub inner_shown : (h : ℕ) (t : Tree (K × V)) → Inner T least b t → Among (λ c k. Shown T 4 c h k) b (kids t) → Shown T least b (suc h) t
  unfolding Shown
  inner_shown h t i a = (i, a)

  pub shown_pane : (h : ℕ) (t : Tree (K × V)) → Shown T least b h t → Pane T least b t
  shown_pane zero t w = (shown_leaf t w).pane
  shown_pane (suc h) t w = (shown_inner h t w).pane

-- ---- the child at an end

-- the child k at the end s of children between the bounds b, itself between the bounds c
pub record EndKid {X : Type 0} (P : Bounds → X → Type 0) (s : Side) (b : Bounds) (k : X) (ks : List X) : Type 0 where
  pub c : Bounds
  pub kid : P c k
  pub bound_same : bound s c ≡ bound s b
  -- another in its place
  pub rebuild : (e : Option Handle) (k' : X) → P (put s e c) k' → Among P (put s e b) (cons s k' ks)
  -- alone, it has both bounds
  pub alone : length ks ≡ 0 → c ≡ b
  -- else it has one, and the others have the other
  pub others : 0 < length ks → (bound (other s) c ≡ None) × Among P (only (other s) b) ks

only_same : (s : Side) (b : Bounds) → bound s (only s b) ≡ bound s b
only_same First b = refl
only_same Last b = refl

only_other : (s : Side) (b : Bounds) → bound (other s) (only s b) ≡ None
only_other First b = refl
only_other Last b = refl

put_only : (s : Side) (e : Option Handle) (b : Bounds) → put s e (only s b) ≡ only s (put s e b)
put_only First e b = refl
put_only Last e b = refl

only_put : (s : Side) (e : Option Handle) (b : Bounds) → only (other s) b ≡ only (other s) (put s e b)
only_put First e b = refl
only_put Last e b = refl

pub end_kid : {X : Type 0} (P : Bounds → X → Type 0) (s : Side) (b : Bounds) (k : X) (ks : List X) → Among P b (cons s k ks) → EndKid P s b k ks
end_kid P s b k [] a = record {
  c = b;
  kid = among_alone P s b k a;
  bound_same = refl;
  rebuild = λ e k' p. among_one P s (put s e b) k' p;
  alone = λ _. refl;
  others = λ l. absurd (omega arith);
}
end_kid P s b k (l ∷ ls) a =
    let r = among_less P s b k l ls a in
    record {
      c = only s b;
      kid = r.0;
      bound_same = only_same s b;
      rebuild = λ e k' p. among_more P s (put s e b) k' l ls (subst (λ c. P c k') (put_only s e b) p) (subst (λ c. Among P c (l ∷ ls)) (only_put s e b) r.1);
      alone = λ z. absurd (omega arith);
      others = λ _. (only_other s b, r.1);
    }

-- children of which none has the bound at s, as they are after a new one was put there
pub only_none : (s : Side) (b : Bounds) → bound s (only (other s) b) ≡ None
only_none First b = refl
only_none Last b = refl

pub put_other : (s : Side) (e : Option Handle) (b : Bounds) → put s e (only (other s) b) ≡ put s e b
put_other First e b = refl
put_other Last e b = refl

-- ---- every child

pub among_all : {X : Type 0} (P : Bounds → X → Type 0) (Q : X → Type 0) → ((c : Bounds) (k : X) → P c k → Q k) → (b : Bounds) (ks : List X) → Among P b ks → All Q ks
among_all P Q f b [] a = All-nil Q
among_all P Q f b (k ∷ []) a = All-cons Q k [] (f b k a) (All-nil Q)
among_all P Q f b (k ∷ (k' ∷ ks)) a = All-cons Q k (k' ∷ ks) (f (only First b) k a.0) (among_all P Q f (only Last b) (k' ∷ ks) a.1)

module _ {K V : Type 0} (T : Tables K V) where
  fanned_leaf : (t : Tree (K × V)) → length (kids t) ≡ 0 → Fanned zero t
  unfolding Fanned
  fanned_leaf t q = q

  fanned_inner : (h : ℕ) (t : Tree (K × V)) → length (kids t) ≡ suc (length (row t)) → All (Fanned h) (kids t) → Fanned (suc h) t
  unfolding Fanned
  fanned_inner h t q a = (q, a)

  pub shown_fanned : (least : ℕ) (b : Bounds) (h : ℕ) (t : Tree (K × V)) → Shown T least b h t → Fanned h t
  shown_fanned least b zero t w = fanned_leaf t (shown_leaf T least b t w).bare
  shown_fanned least b (suc h) t w =
      fanned_inner h t (shown_inner T least b h t w).fan (among_all (λ c k. Shown T 4 c h k) (Fanned h) (λ c k v. shown_fanned 4 c h k v) b (kids t) (shown_kids T least b h t w))
