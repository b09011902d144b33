-- A pass over one node, step by step. Assumes nothing.
use Rattle.std.proofs.Common.{◌≡◌, ℕ, zero, suc, ◌+◌, ◌-◌, ◌<◌, Option, sym, refl, ap, ap₂, ◌∙◌, subst}
use Rattle.std.specs.Option.{MatchOption}
use Rattle.std.specs.declared.cmp.Ordering.{Ordering}
use Rattle.node.specs.declared.ends.Handle.{Handle}
use Rattle.node.specs.declared.ends.Side.TheVariants.{First, Last}
use Rattle.node.specs.Links.{edge}
use Rattle.node.specs.Store.{Tables}
use Rattle.node.proofs.Frames.{height_suc}
use Rattle.walk.specs.Window.{Bounds, bounds, only}
use Rattle.audit.specs.declared.marks.Met.{Met}
use Rattle.audit.specs.declared.passes.Part.{Part}
use Rattle.audit.specs.declared.runs.Run.{Run}
use Rattle.audit.specs.Marks.{Unmet, with_mark}
use Rattle.audit.specs.Runs.{Notes, noted}
use Rattle.audit.specs.Passes.{Trail, trail, part, begins, ends, count, keys_of, Fits, Led, marked, noting, stepped, pass, Steps, Passable}
use Rattle.audit.proofs.Climbs.{turned}

-- what is said of a part, by its fields
pub part_as : (F : ℕ → Bounds → ℕ → ℕ → Type 0) (p : Part) (k h : ℕ) (e f g : Option Handle) → p ≡ part k h 4 e g → e ≡ f → F p.least (bounds p.front p.back) p.node.height p.node.node → F 4 (bounds f g) h k
part_as F p k h e f g q z x =
    subst (λ e. F 4 (bounds e g) h k) z (subst (λ (p : Part). F p.least (bounds p.front p.back) p.node.height p.node.node) q x)

-- ---- the trail, step by step

module _ {K V : Type 0} (T : Tables K V) where
  abbrev pub moved : ℕ → ℕ → ℕ → Trail K → Trail K
  moved m i n s = noting (keys_of T m i n) s

  abbrev pub after : ℕ → Bounds → ℕ → Trail K → Trail K
  after h c k r = pass T c h k r

  pub pass_leaf : (b : Bounds) (m : ℕ) (s : Trail K) → pass T b zero m s ≡ moved m (begins T.heads zero b) (count T zero b m) (marked m s)
  unfolding pass
  pass_leaf b m s = refl

  pub pass_above : (b : Bounds) (h m : ℕ) (s : Trail K) → pass T b (suc h) m s ≡ stepped T (after h) m (count T (suc h) b m) (begins T.heads (suc h) b) b (marked m s)
  unfolding pass
  pass_above b h m s = refl

  module _ (f : Bounds → ℕ → Trail K → Trail K) where
    pub stepped_one : (m i : ℕ) (b : Bounds) (s : Trail K) → stepped T f m zero i b s ≡ f b (edge T.heads m i) s
    unfolding stepped
    stepped_one m i b s = refl

    pub stepped_more : (m n i : ℕ) (b : Bounds) (s : Trail K) → stepped T f m (suc n) i b s ≡ stepped T f m n (i + 1) (only Last b) (moved m i 1 (f (only First b) (edge T.heads m i) s))
    unfolding stepped
    stepped_more m n i b s = refl

module _ {K V : Type 0} (compares : K → K → Ordering) (T : Tables K V) where
  abbrev pub Kid : ℕ → Bounds → ℕ → Trail K → Type 0
  Kid h c k r = Passable compares T 4 c h k r

  -- ---- views

  pub record Leaf (least : ℕ) (b : Bounds) (m : ℕ) (s : Trail K) : Type 0 where
    pub fits : Fits T least b zero m
    pub unmet : Unmet s.met m
    pub notes : Notes compares (keys_of T m (begins T.heads zero b) (count T zero b m)) s.run

  pub record Above (least : ℕ) (b : Bounds) (h m : ℕ) (s : Trail K) : Type 0 where
    pub fits : Fits T least b (suc h) m
    pub unmet : Unmet s.met m
    pub steps : Steps compares T (Kid h) (after T h) m (count T (suc h) b m) (begins T.heads (suc h) b) b (marked m s)

  pub passable_leaf : (least : ℕ) (b : Bounds) (m : ℕ) (s : Trail K) → Passable compares T least b zero m s → Leaf least b m s
  unfolding Passable
  passable_leaf least b m s p = record { fits = p.0; unmet = p.1; notes = p.2 }

  pub leaf_passable : (least : ℕ) (b : Bounds) (m : ℕ) (s : Trail K) → Leaf least b m s → Passable compares T least b zero m s
  unfolding Passable
  leaf_passable least b m s p = (p.fits, p.unmet, p.notes)

  pub passable_above : (least : ℕ) (b : Bounds) (h m : ℕ) (s : Trail K) → Passable compares T least b (suc h) m s → Above least b h m s
  unfolding Passable
  passable_above least b h m s p = record { fits = p.0; unmet = p.1; steps = p.2 }

  pub above_passable : (least : ℕ) (b : Bounds) (h m : ℕ) (s : Trail K) → Above least b h m s → Passable compares T least b (suc h) m s
  unfolding Passable
  above_passable least b h m s p = (p.fits, p.unmet, p.steps)

  -- what stands behind the first child of some
  pub record More (P : Bounds → ℕ → Trail K → Type 0) (f : Bounds → ℕ → Trail K → Trail K) (m n i : ℕ) (b : Bounds) (s : Trail K) : Type 0 where
    pub led : Led T m i
    pub kid : P (only First b) (edge T.heads m i) s
    pub notes : Notes compares (keys_of T m i 1) (f (only First b) (edge T.heads m i) s).run
    pub rest : Steps compares T P f m n (i + 1) (only Last b) (moved T m i 1 (f (only First b) (edge T.heads m i) s))

  module _ (P : Bounds → ℕ → Trail K → Type 0) (f : Bounds → ℕ → Trail K → Trail K) where
    pub steps_one : (m i : ℕ) (b : Bounds) (s : Trail K) → Steps compares T P f m zero i b s → Led T m i × P b (edge T.heads m i) s
    unfolding Steps
    steps_one m i b s w = w

    pub one_steps : (m i : ℕ) (b : Bounds) (s : Trail K) → Led T m i → P b (edge T.heads m i) s → Steps compares T P f m zero i b s
    unfolding Steps
    one_steps m i b s l p = (l, p)

    pub steps_more : (m n i : ℕ) (b : Bounds) (s : Trail K) → Steps compares T P f m (suc n) i b s → More P f m n i b s
    unfolding Steps
    steps_more m n i b s w = record { led = w.0; kid = w.1; notes = w.2; rest = w.3 }

    pub more_steps : (m n i : ℕ) (b : Bounds) (s : Trail K) → More P f m n i b s → Steps compares T P f m (suc n) i b s
    unfolding Steps
    more_steps m n i b s w = (w.led, w.kid, w.notes, w.rest)

  -- ---- a leaf

  pub leaf_taken : (least : ℕ) (b : Bounds) (h m i j : ℕ) (s : Trail K) (met : Met) (run : Run K) (r : Option (Unit {0})) → h ≡ 0 → Fits T least b h m → Unmet s.met m → met ≡ with_mark s.met m → i ≡ begins T.heads h b → j ≡ ends T.heads h b m
      → MatchOption r (Notes compares (keys_of T m i (j - i)) s.run → ⊥) (λ _. Notes compares (keys_of T m i (j - i)) s.run × (run ≡ noted (keys_of T m i (j - i)) s.run))
      → MatchOption r (Passable compares T least b h m s → ⊥) (λ _. Passable compares T least b h m s × (trail met run ≡ pass T b h m s))
  leaf_taken least b h m i j s met run r z w u e p q o = subst At (sym z) go w p q
    where
      At : ℕ → Type 0
      At h =
          Fits T least b h m → i ≡ begins T.heads h b → j ≡ ends T.heads h b m
          → MatchOption r (Passable compares T least b h m s → ⊥) (λ _. Passable compares T least b h m s × (trail met run ≡ pass T b h m s))

      Here : ℕ → ℕ → Type 0
      Here i j = MatchOption r (Notes compares (keys_of T m i (j - i)) s.run → ⊥) (λ _. Notes compares (keys_of T m i (j - i)) s.run × (run ≡ noted (keys_of T m i (j - i)) s.run))

      go : At 0
      go w p q =
          let a : ℕ = begins T.heads 0 b in
          let n : ℕ = ends T.heads 0 b m - a in
          let o' : Here a (ends T.heads 0 b m) = subst (λ j. Here a j) q (subst (λ i. Here i j) p o) in
          turned r (Notes compares (keys_of T m a n) s.run → ⊥) (Passable compares T least b 0 m s → ⊥)
          (λ _. Notes compares (keys_of T m a n) s.run × (run ≡ noted (keys_of T m a n) s.run)) (λ _. Passable compares T least b 0 m s × (trail met run ≡ pass T b 0 m s))
          (λ n v. n (passable_leaf least b m s v).notes)
          (λ _ v. (leaf_passable least b m s (record { fits = w; unmet = u; notes = v.0 }), ap₂ trail e v.1 ∙ sym (pass_leaf T b m s)))
          o'

  pub lowered : (least : ℕ) (b : Bounds) (h m : ℕ) (s : Trail K) → 0 < h → Passable compares T least b h m s → Passable compares T least b (suc (h - 1)) m s
  lowered least b h m s l p = subst (λ k. Passable compares T least b k m s) (height_suc h l) p

  -- ---- a node above the leaves, with children of height h; those from i on are left, n behind the next, between the bounds c

  pub record Going (least : ℕ) (b : Bounds) (h m : ℕ) (s : Trail K) (n i : ℕ) (c : Bounds) (r : Trail K) : Type 0 where
    pub onto : Passable compares T least b (suc h) m s → Steps compares T (Kid h) (after T h) m n i c r
    pub back : Steps compares T (Kid h) (after T h) m n i c r → Passable compares T least b (suc h) m s
    pub same : stepped T (after T h) m n i c r ≡ pass T b (suc h) m s

  pub going_start : (least : ℕ) (b : Bounds) (h k m i j : ℕ) (s r : Trail K) → k ≡ suc h → Fits T least b k m → Unmet s.met m → r ≡ marked m s → i ≡ begins T.heads k b → j ≡ ends T.heads k b m
      → Going least b h m s (j - i) i b r
  going_start least b h k m i j s r z w u e p q =
      let p' : i ≡ begins T.heads (suc h) b = p ∙ ap (λ k. begins T.heads k b) z in
      let q' : j ≡ ends T.heads (suc h) b m = q ∙ ap (λ k. ends T.heads k b m) z in
      subst (λ r. Going least b h m s (j - i) i b r) (sym e)
      (subst (λ i. Going least b h m s (j - i) i b (marked m s)) (sym p')
      (subst (λ j. Going least b h m s (j - begins T.heads (suc h) b) (begins T.heads (suc h) b) b (marked m s)) (sym q')
      (record {
        onto = λ p. (passable_above least b h m s p).steps;
        back = λ p. above_passable least b h m s (record { fits = subst (λ k. Fits T least b k m) z w; unmet = u; steps = p });
        same = sym (pass_above T b h m s);
      })))

  module _ (least : ℕ) (b : Bounds) (h m : ℕ) (s : Trail K) (n i : ℕ) (c : Bounds) (r : Trail K) (w : Going least b h m s n i c r) where
    abbrev Ps : Bounds → ℕ → Trail K → Type 0
    Ps = Kid h

    abbrev fs : Bounds → ℕ → Trail K → Trail K
    fs = after T h

    pub going_led : Passable compares T least b (suc h) m s → Led T m i
    going_led p = go n c r (w.onto p)
      where
        go : (n : ℕ) (c : Bounds) (r : Trail K) → Steps compares T Ps fs m n i c r → Led T m i
        go zero c r v = (steps_one Ps fs m i c r v).0
        go (suc n) c r v = (steps_more Ps fs m n i c r v).led

    pub going_view : (n' : ℕ) → n ≡ suc n' → Passable compares T least b (suc h) m s → More Ps fs m n' i c r
    going_view n' l p = steps_more Ps fs m n' i c r (subst (λ n. Steps compares T Ps fs m n i c r) l (w.onto p))

    pub going_more : (n' : ℕ) (r' r'' : Trail K) → n ≡ suc n' → Led T m i → Ps (only First c) (edge T.heads m i) r → r' ≡ fs (only First c) (edge T.heads m i) r
        → Notes compares (keys_of T m i 1) r'.run → r'' ≡ moved T m i 1 r' → Going least b h m s n' (i + 1) (only Last c) r''
    going_more n' r' r'' more d k q v u =
        let k0 : ℕ = edge T.heads m i in
        let end : r'' ≡ moved T m i 1 (fs (only First c) k0 r) = u ∙ ap (moved T m i 1) q in
        subst (λ x. Going least b h m s n' (i + 1) (only Last c) x) (sym end) (record {
          onto = λ p. (going_view n' more p).rest;
          back = λ x.
              w.back (subst (λ n. Steps compares T Ps fs m n i c r) (sym more)
              (more_steps Ps fs m n' i c r (record { led = d; kid = k; notes = subst (λ x. Notes compares (keys_of T m i 1) x.run) q v; rest = x })));
          same = sym (stepped_more T fs m n' i c r) ∙ ap (λ n. stepped T fs m n i c r) (sym more) ∙ w.same;
        })

    pub going_done : (o : Option (Unit {0})) (r' : Trail K) → n ≡ 0 → Led T m i → MatchOption o (Ps c (edge T.heads m i) r → ⊥) (λ _. Ps c (edge T.heads m i) r × (r' ≡ fs c (edge T.heads m i) r))
        → (k : ℕ) → k ≡ suc h → MatchOption o (Passable compares T least b k m s → ⊥) (λ _. Passable compares T least b k m s × (r' ≡ pass T b k m s))
    going_done o r' z d x k y =
        subst (λ k. MatchOption o (Passable compares T least b k m s → ⊥) (λ _. Passable compares T least b k m s × (r' ≡ pass T b k m s))) (sym y)
        (turned o _ (Passable compares T least b (suc h) m s → ⊥) _ (λ _. Passable compares T least b (suc h) m s × (r' ≡ pass T b (suc h) m s))
        (λ n p. n (steps_one Ps fs m i c r (subst (λ n. Steps compares T Ps fs m n i c r) z (w.onto p))).1)
        (λ _ v. (
          w.back (subst (λ n. Steps compares T Ps fs m n i c r) (sym z) (one_steps Ps fs m i c r d v.0)),
          v.1 ∙ sym (stepped_one T fs m i c r) ∙ ap (λ n. stepped T fs m n i c r) (sym z) ∙ w.same,
        ))
        x)

  pub fits_of : (least : ℕ) (b : Bounds) (h m : ℕ) (s : Trail K) → Passable compares T least b h m s → Fits T least b h m × Unmet s.met m
  fits_of least b zero m s p = let v = passable_leaf least b m s p in (v.fits, v.unmet)
  fits_of least b (suc h) m s p = let v = passable_above least b h m s p in (v.fits, v.unmet)
