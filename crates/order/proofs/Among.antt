-- What follows from the laws of an order and of a query. Assumes nothing.
--     below_later, above_earlier, same_place     a query beside two keys
--     below_after, above_before                  the same for a query that stands at one place
--     stopped_first, stopped_found, stopped_made      what a search that stopped says, of any row and whatever the query
--     stopped_parted, stopped_strict             what it says of a rising row
--     told                                       all that it says
use Rattle.std.specs.Prelude.{◌≡◌, ℕ, zero, suc, ◌+◌, ◌<◌, ◌≤◌, min, Bool, true, false, List, [], ◌∷◌, length, ◌≢◌, slice_index_or}
use Rattle.std.specs.declared.cmp.Ordering.TheVariants.{Less, Equal, Greater}
use Rattle.std.specs.declared.cmp.Ordering.{Ordering}
use Rattle.std.proofs.Common.{arith}
use Rattle.std.specs.Ordering.{is_le, is_eq}
use Rattle.order.specs.Laws.{Placed, Pointed}
use Rattle.order.specs.Found.{first_not_below, found_at, comparisons, Stopped, Parted, Strict}
use Rattle.order.specs.Rising.{Rising}

-- ---- a query among keys

module _ {K Q : Type 0} {cmp : K → K → Ordering} {places : Q → K → Ordering} (p : Placed cmp places) where
  -- a query that is not above a key is not above what comes after it
  pub below_later : (q : Q) (a b : K) → is_le (cmp a b) ≡ true → (places q a ≢ Greater) → places q b ≢ Greater
  below_later q a b le n h = n (p.over q a b le h)

  -- and one that is not below a key is not below what comes before it
  pub above_earlier : (q : Q) (a b : K) → is_le (cmp a b) ≡ true → (places q b ≢ Less) → places q a ≢ Less
  above_earlier q a b le n h = n (p.under q a b le h)

  -- keys that are the same have one place
  pub same_place : (q : Q) (a b : K) → is_le (cmp a b) ≡ true → is_le (cmp b a) ≡ true → places q a ≡ places q b
  same_place q a b h k =
      let u = p.under q a b in
      let v = p.over q a b in
      let x = p.under q b a in
      let y = p.over q b a in
      grind arith

  upon : (keys : List K) (q : Q) (i : ℕ) (f : Bool) → Stopped places keys q i f → Rising cmp keys → (k : ℕ) (d : K) → i ≤ k → k < length keys → places q (slice_index_or keys k d) ≢ Greater
  upon keys q i f r up k d le lt h =
      let within : i < length keys = omega arith in
      let n = r.stops d within in
      let u = up i k d in
      let v = p.over q (slice_index_or keys i d) (slice_index_or keys k d) in
      let same : k ≤ i → k ≡ i = λ g. omega arith in
      grind arith

  absent_upon : (keys : List K) (q : Q) (i : ℕ) (f : Bool) → Stopped places keys q i f → Rising cmp keys → (k : ℕ) (d : K) → f ≡ false → i ≤ k → k < length keys → places q (slice_index_or keys k d) ≡ Less
  absent_upon keys q i f r up k d miss le lt =
      let within : i < length keys = omega arith in
      let e = r.same d within in
      let n = r.stops d within in
      let here : places q (slice_index_or keys i d) ≡ Less = grind arith in
      let u = up i k d in
      let v = p.under q (slice_index_or keys i d) (slice_index_or keys k d) in
      let same : k ≤ i → k ≡ i = λ g. omega arith in
      grind arith

  pub stopped_parted : (keys : List K) (q : Q) (i : ℕ) (f : Bool) → Stopped places keys q i f → Rising cmp keys → Parted places keys q i f
  stopped_parted keys q i f r up = record {
    above = r.before;
    not_above = upon keys q i f r up;
    below = λ k d le lt differs. let n = upon keys q i f r up k d le lt in grind arith;
    absent = absent_upon keys q i f r up;
  }

module _ {K Q : Type 0} {cmp : K → K → Ordering} {places : Q → K → Ordering} (p : Placed cmp places) (s : Pointed cmp places) where
  -- the query is below what comes after a key that it is not above
  pub below_after : (q : Q) (a b : K) → cmp a b ≡ Less → (places q a ≢ Greater) → places q b ≡ Less
  below_after q a b lt n =
      let u = p.under q a b in
      let v = p.over q a b in
      let w = s.single q a b in
      grind arith

  -- and above what comes before a key that it is not below
  pub above_before : (q : Q) (a b : K) → cmp a b ≡ Less → (places q b ≢ Less) → places q a ≡ Greater
  above_before q a b lt n =
      let u = p.under q a b in
      let v = p.over q a b in
      let w = s.single q a b in
      grind arith

  pub stopped_strict : (keys : List K) (q : Q) (i : ℕ) (f : Bool) → Stopped places keys q i f → Rising cmp keys → Strict places keys q i
  stopped_strict keys q i f r up = record {
    after = λ k d lt within. below_after q (slice_index_or keys i d) (slice_index_or keys k d) (up i k d lt within) (r.stops d (omega arith));
  }

-- ---- what was computed

-- of a row, what a search says that stopped at `i`, over its placing alone
record Stop {K : Type 0} (place : K → Ordering) (keys : List K) (i : ℕ) (f : Bool) : Type 0 where
  within : i ≤ length keys
  before : (k : ℕ) (d : K) → k < i → place (slice_index_or keys k d) ≡ Greater
  stops : (d : K) → i < length keys → place (slice_index_or keys i d) ≢ Greater
  same : (d : K) → i < length keys → f ≡ is_eq (place (slice_index_or keys i d))
  past : length keys ≤ i → f ≡ false

-- what is computed of a row of which it is said
record Computed {K : Type 0} (place : K → Ordering) (keys : List K) (i : ℕ) (f : Bool) : Type 0 where
  first : i ≡ first_not_below place keys
  found : f ≡ found_at place keys
  made : comparisons place keys ≡ min (i + 1) (length keys)

computed : {K : Type 0} (place : K → Ordering) (keys : List K) (i : ℕ) (f : Bool) → Stop place keys i f → Computed place keys i f
computed place [] i f r = record { first = omega (arith, r.within); found = r.past (omega arith); made = omega arith }
computed place (x ∷ xs) zero f r =
    let n : place x ≡ Greater → ⊥ = r.stops x (omega arith) in
    let s : f ≡ is_eq (place x) = r.same x (omega arith) in
    record { first = grind arith; found = grind arith; made = grind arith }
computed place (x ∷ xs) (suc i) f r =
    let e : place x ≡ Greater = r.before 0 x (omega arith) in
    let rest : Stop place xs i f = record {
      within = omega (arith, r.within);
      before = λ k d h. r.before (suc k) d (omega arith);
      stops = λ d h. r.stops d (omega arith);
      same = λ d h. r.same d (omega arith);
      past = λ h. r.past (omega arith);
    } in
    let m = computed place xs i f rest in
    let a = m.first in
    let b = m.found in
    let c = m.made in
    record { first = grind arith; found = grind arith; made = grind arith }

module _ {K Q : Type 0} (places : Q → K → Ordering) (keys : List K) (q : Q) (i : ℕ) (f : Bool) (r : Stopped places keys q i f) where
  all : Computed (places q) keys i f
  all = computed (places q) keys i f (record { within = r.within; before = r.before; stops = r.stops; same = r.same; past = r.past })

  pub stopped_first : i ≡ first_not_below (places q) keys
  stopped_first = all.first

  pub stopped_found : f ≡ found_at (places q) keys
  stopped_found = all.found

  pub stopped_made : comparisons (places q) keys ≡ min (i + 1) (length keys)
  stopped_made = all.made

-- all that a search says
pub record Told {K Q : Type 0} (cmp : K → K → Ordering) (places : Q → K → Ordering) (keys : List K) (q : Q) (i : ℕ) (f : Bool) : Type 0 where
  pub first : i ≡ first_not_below (places q) keys
  pub found : f ≡ found_at (places q) keys
  pub made : comparisons (places q) keys ≡ min (i + 1) (length keys)
  pub stopped : Stopped places keys q i f
  pub parted : Rising cmp keys → Parted places keys q i f
  pub strict : Pointed cmp places → Rising cmp keys → Strict places keys q i

pub at_most : (o : Ordering) → true ≡ is_le o → o ≢ Greater
at_most Less e = λ n. cc
at_most Equal e = λ n. cc
at_most Greater e = λ n. cc

pub told : {K Q : Type 0} {cmp : K → K → Ordering} {places : Q → K → Ordering} → Placed cmp places → (keys : List K) (q : Q) (i : ℕ) (f : Bool) → Stopped places keys q i f → Told cmp places keys q i f
told {places} p keys q i f r =
    record {
      first = stopped_first places keys q i f r;
      found = stopped_found places keys q i f r;
      made = stopped_made places keys q i f r;
      stopped = r;
      parted = stopped_parted p keys q i f r;
      strict = λ s. stopped_strict p s keys q i f r;
    }
