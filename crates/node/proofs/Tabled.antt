-- Nodes in the tables after a change: heads are rewritten first, links are corrected after that, and cells are written beside. Assumes nothing.
use Rattle.std.proofs.Common.{◌≡◌, ℕ, ◌+◌, ◌*◌, ◌<◌, ◌≤◌, true, List, [], ◌∷◌, ◌++◌, length, get_or, set, is_ok, Ok, Err, Result, sym, refl, ap, ◌∙◌, subst, ⊎_elim, arith, length-set}
use Rattle.std.proofs.lemmas.List.{get_or-set_same, get_or-set_other}
use Rattle.std.proofs.lemmas.Bool.{cases_lt}
use Rattle.node.specs.declared.head.Head.{Head}
use Rattle.node.specs.Cells.{span, Put, Run}
use Rattle.node.specs.Store.{Tables, tables, Sized, Node, Link, Linked, Changed, Once, head_in, no_head, times, first, second, itself}
use Rattle.node.specs.Links.{Adopted}
use Rattle.node.specs.Operations.{Strange, Fan}
use Rattle.node.proofs.Adopts.{times_one, times_append, times_at, kept_by_set}
use Rattle.node.proofs.Runs.{put_others}

pub ok_unit : {E : Type 0} (r : Result (Unit {0}) E) → is_ok r ≡ true → r ≡ Ok tt
ok_unit (Ok tt) e = refl
ok_unit (Err y) e = let z : ◌≡◌ {A = ℕ} 0 1 = cc in absurd (omega arith)

-- a node that the tables hold lies in them
pub not_strange : {K V : Type 0} (T : Tables K V) (m : ℕ) (es : List (K × V)) (ks : List ℕ) → Sized T → Node T m es ks → Strange T m → ⊥
not_strange T m es ks s n z = z s n.inside (omega (arith, n.len_is, n.few))

-- ---- heads

-- at most the nodes bs have another length or other edges; all links are the same
pub record Rewritten (H H' : List Head) (bs : List ℕ) : Type 0 where
  pub size : length H' ≡ length H
  pub lens : (x : ℕ) → times x bs ≡ 0 → (head_in H' x).len ≡ (head_in H x).len
  pub edges : (x : ℕ) → times x bs ≡ 0 → (head_in H' x).edges ≡ (head_in H x).edges
  pub parents : (x : ℕ) → (head_in H' x).parent ≡ (head_in H x).parent
  pub places : (x : ℕ) → (head_in H' x).place ≡ (head_in H x).place

pub rewritten_none : (H : List Head) → Rewritten H H []
rewritten_none H = record { size = refl; lens = λ x z. refl; edges = λ x z. refl; parents = λ x. refl; places = λ x. refl }

-- a head with another length and other edges
abbrev pub refit : List Head → ℕ → ℕ → List ℕ → List Head
refit H m n es = set H m (record { parent = (head_in H m).parent; place = (head_in H m).place; len = n; edges = es })

module _ (H G : List Head) (bs : List ℕ) (w : Rewritten H G bs) (m n : ℕ) (es : List ℕ) (inside : m < length H) where
  abbrev new : Head
  new = record { parent = (head_in G m).parent; place = (head_in G m).place; len = n; edges = es }

  pub rewritten_set : Rewritten H (refit G m n es) (m ∷ bs)
  rewritten_set =
      let room : m < length G = omega (arith, w.size) in
      record {
        size = length-set G m new ∙ w.size;
        lens = λ x z.
            ap (λ h. h.len) (get_or-set_other G m x new no_head (times_one x m (omega (arith, times_append x (m ∷ []) bs)))) ∙ w.lens x (omega (arith, times_append x (m ∷ []) bs));
        edges = λ x z.
            ap (λ h. h.edges) (get_or-set_other G m x new no_head (times_one x m (omega (arith, times_append x (m ∷ []) bs)))) ∙ w.edges x (omega (arith, times_append x (m ∷ []) bs));
        parents = λ x. kept_by_set (λ h. h.parent) G m new refl room x ∙ w.parents x;
        places = λ x. kept_by_set (λ h. h.place) G m new refl room x ∙ w.places x;
      }

-- what a head is after a write to it, and to another
pub refit_same : (H : List Head) (m n : ℕ) (es : List ℕ) → m < length H → ((head_in (refit H m n es) m).len ≡ n) × ((head_in (refit H m n es) m).edges ≡ es)
refit_same H m n es l =
    let e = get_or-set_same H m (record { parent = (head_in H m).parent; place = (head_in H m).place; len = n; edges = es }) no_head l in
    (ap (λ h. h.len) e, ap (λ h. h.edges) e)

pub refit_other : (H : List Head) (m n : ℕ) (es : List ℕ) (x : ℕ) → (x ≡ m → ⊥) → head_in (refit H m n es) x ≡ head_in H x
refit_other H m n es x other = get_or-set_other H m x (record { parent = (head_in H m).parent; place = (head_in H m).place; len = n; edges = es }) no_head other

-- at most the nodes ls have another parent or place; lengths and edges are the same
pub record Relinked (H H' : List Head) (ls : List ℕ) : Type 0 where
  pub size : length H' ≡ length H
  pub lens : (x : ℕ) → (head_in H' x).len ≡ (head_in H x).len
  pub edges : (x : ℕ) → (head_in H' x).edges ≡ (head_in H x).edges
  pub parents : (x : ℕ) → times x ls ≡ 0 → (head_in H' x).parent ≡ (head_in H x).parent
  pub places : (x : ℕ) → times x ls ≡ 0 → (head_in H' x).place ≡ (head_in H x).place

pub relinked_none : (H : List Head) → Relinked H H []
relinked_none H = record { size = refl; lens = λ x. refl; edges = λ x. refl; parents = λ x z. refl; places = λ x z. refl }

pub relinked_adopted : (H H' : List Head) (p i : ℕ) (cs : List ℕ) → Adopted H H' p i cs → Relinked H H' cs
relinked_adopted H H' p i cs a = record { size = a.size; lens = a.lens; edges = a.edges; parents = a.parent_same; places = a.place_same }

pub relinked_both : (H G F : List Head) (us ws : List ℕ) → Relinked H G us → Relinked G F ws → Relinked H F (us ++ ws)
relinked_both H G F us ws v w = record {
  size = w.size ∙ v.size;
  lens = λ x. w.lens x ∙ v.lens x;
  edges = λ x. w.edges x ∙ v.edges x;
  parents = λ x z. w.parents x (omega (arith, times_append x us ws)) ∙ v.parents x (omega (arith, times_append x us ws));
  places = λ x z. w.places x (omega (arith, times_append x us ws)) ∙ v.places x (omega (arith, times_append x us ws));
}

-- ---- cells

-- at most the nodes bs have other cells
pub record Kept {X : Type 0} (xs xs' : List X) (bs : List ℕ) : Type 0 where
  pub size : length xs' ≡ length xs
  pub cells : (x : ℕ) → times x bs ≡ 0 → span xs' (11 * x) 11 ≡ span xs (11 * x) 11

module _ {X : Type 0} where
  pub kept_none : (xs : List X) → Kept xs xs []
  kept_none xs = record { size = refl; cells = λ x z. refl }

  pub kept_put : (xs ys zs : List X) (bs : List ℕ) (b : ℕ) (ws : List X) (m : ℕ) → Kept xs ys bs → Put ys zs b ws → 11 * m ≤ b → b + length ws ≤ 11 * m + 11 → Kept xs zs (m ∷ bs)
  kept_put xs ys zs bs b ws m k p low high = record {
    size = p.size ∙ k.size;
    cells = λ x z.
        put_others ys zs b ws m p low high x (times_one x m (omega (arith, times_append x (m ∷ []) bs))) ∙ k.cells x (omega (arith, times_append x (m ∷ []) bs));
  }

  -- the list of nodes matters only by which stand in it
  pub kept_as : (xs ys : List X) (us ws : List ℕ) → ((x : ℕ) → times x ws ≡ 0 → times x us ≡ 0) → Kept xs ys us → Kept xs ys ws
  kept_as xs ys us ws f k = record { size = k.size; cells = λ x z. k.cells x (f x z) }

-- ---- tables

module _ {K V : Type 0} (H G F : List Head) (ks ks' : List K) (vs vs' : List V) where
  pub changed_of : (bs ls : List ℕ) → Rewritten H G bs → Relinked G F ls → Kept ks ks' bs → Kept vs vs' bs → Changed (tables H ks vs) (tables F ks' vs') bs ls
  changed_of bs ls w r k v = record {
    heads_len = r.size ∙ w.size;
    keys_len = k.size;
    values_len = v.size;
    bodies = λ x z. record { len_same = r.lens x ∙ w.lens x z; edges_same = r.edges x ∙ w.edges x z; keys_same = k.cells x z; values_same = v.cells x z };
    links = λ x z. record { parent_same = r.parents x z ∙ w.parents x; place_same = r.places x z ∙ w.places x };
  }

  pub node_of : (ls : List ℕ) → Relinked G F ls → (m : ℕ) (es : List (K × V)) (cs : List ℕ) → m < length G → length es ≤ 11 → (head_in G m).len ≡ length es
      → Run itself (head_in G m).edges 0 cs → Run first ks' (11 * m) es → Run second vs' (11 * m) es → Node (tables F ks' vs') m es cs
  node_of ls r m es cs inside few len edges keys values = record {
    inside = omega (arith, r.size);
    few = few;
    len_is = r.lens m ∙ len;
    keys_are = keys;
    values_are = values;
    edges_are = subst (λ (e : List ℕ). Run itself e 0 cs) (sym (r.edges m)) edges;
  }

-- children that were adopted, and not linked otherwise after that
pub linked_of : {K V : Type 0} (H G F : List Head) (ks : List K) (vs : List V) (p i : ℕ) (cs ls : List ℕ) → Adopted H G p i cs → Relinked G F ls → Once (cs ++ ls) → Linked (tables F ks vs) p i cs
linked_of H G F ks vs p i cs ls a r once j l =
    let c : ℕ = get_or cs j 0 in
    let off : times c ls ≡ 0 = omega (arith, times_at cs j l, once c, times_append c cs ls) in
    record {
      parent_is = r.parents c off ∙ a.parents j l;
      place_is = r.places c off ∙ a.places (λ x. omega (arith, once x, times_append x cs ls)) j l;
    }

pub err_not_ok : {T E : Type 0} (y : E) (x : T) → ◌≡◌ {A = Result T E} (Err y) (Ok x) → ⊥
err_not_ok y x e = let z : ◌≡◌ {A = ℕ} 0 1 = cc in omega arith

pub ok_same : {T E : Type 0} (x y : T) → ◌≡◌ {A = Result T E} (Ok x) (Ok y) → x ≡ y
ok_same x y e = cc

pub err_same : {T E : Type 0} (x y : E) → ◌≡◌ {A = Result T E} (Err x) (Err y) → x ≡ y
err_same x y e = cc

pub fan_at : (h h' n k : ℕ) → h ≡ h' → Fan h n k → Fan h' n k
fan_at h h' n k e f = subst (λ x. Fan x n k) e f

pub rewritten_as : (H G : List Head) (us ws : List ℕ) → ((x : ℕ) → times x ws ≡ 0 → times x us ≡ 0) → Rewritten H G us → Rewritten H G ws
rewritten_as H G us ws f r = record { size = r.size; lens = λ x z. r.lens x (f x z); edges = λ x z. r.edges x (f x z); parents = r.parents; places = r.places }

-- two heads rewritten one after the other
module _ (H : List Head) (m n : ℕ) (k j : ℕ) (es fs : List ℕ) (m-in : m < length H) (n-in : n < length H) (other : m ≡ n → ⊥) where
  abbrev one : List Head
  one = refit H m k es

  abbrev both : List Head
  both = refit one n j fs

  pub both_rewritten : Rewritten H both (n ∷ m ∷ [])
  both_rewritten = rewritten_set H one (m ∷ []) (rewritten_set H H [] (rewritten_none H) m k es m-in) n j fs n-in

  pub both_first : ((head_in both m).len ≡ k) × ((head_in both m).edges ≡ es)
  both_first =
      let s = refit_same H m k es m-in in
      let o = refit_other one n j fs m other in
      (ap (λ x. x.len) o ∙ s.0, ap (λ x. x.edges) o ∙ s.1)

  pub both_second : ((head_in both n).len ≡ j) × ((head_in both n).edges ≡ fs)
  both_second = refit_same one n j fs (omega (arith, n-in, (rewritten_set H H [] (rewritten_none H) m k es m-in).size))

-- links at places that are known only above the leaves
pub linked_at : {K V : Type 0} (T : Tables K V) (p h n k : ℕ) (cs : List ℕ) → (h ≡ 0 → length cs ≡ 0) → (0 < h → n ≡ k) → Linked T p n cs → Linked T p k cs
linked_at T p h n k cs low high w j b =
    ⊎_elim (λ (z : h < 1). absurd (omega (arith, low (omega arith)))) (λ (z : 1 ≤ h). subst (λ m. Link T p (m + j) (get_or cs j 0)) (high (omega arith)) (w j b)) (cases_lt h 1)
