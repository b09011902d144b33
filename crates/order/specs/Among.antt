-- The laws that impls of an order and of a query cite. Assumes nothing.
--     key_placed, key_pointed                    a key is placed among the keys as it compares
--     from_total                                 what std calls a total order is an order of keys
--     viewed, viewed_placed, viewed_pointed      keys and queries that are compared by what a function reads of them
--     led_placed                                 a query that is compared by what leads the order of the keys alone
--     then_leads                                 what is compared first leads the order
use Rattle.std.specs.Prelude.{◌≡◌, true}
use Rattle.std.specs.declared.cmp.Ordering.TheVariants.{Less, Equal, Greater}
use Rattle.std.specs.declared.cmp.Ordering.{Ordering}
use Rattle.std.proofs.Common.{refl, arith}
use Rattle.std.specs.Ordering.{is_le, ordering_then}
use Rattle.std.specs.Cmp.{IsTotalOrder, alike_right}
use Rattle.order.specs.Laws.{Ordered, Placed, Pointed}

module _ {K : Type 0} {cmp : K → K → Ordering} (o : Ordered cmp) where
  key_under : (q a b : K) → is_le (cmp a b) ≡ true → cmp q a ≡ Less → cmp q b ≡ Less
  key_under q a b le h =
      let t = o.chains a b q in
      let m = o.mirrors q b in
      let n = o.mirrors q a in
      grind arith

  key_over : (q a b : K) → is_le (cmp a b) ≡ true → cmp q b ≡ Greater → cmp q a ≡ Greater
  key_over q a b le h =
      let t = o.chains q a b in
      grind arith

  key_single : (q a b : K) → cmp q a ≡ Equal → cmp q b ≡ Equal → cmp a b ≡ Equal
  key_single q a b h k =
      let t = o.chains a q b in
      let s = o.chains b q a in
      let m = o.mirrors q a in
      let n = o.mirrors q b in
      let p = o.mirrors a b in
      grind arith

  pub key_placed : Placed cmp cmp
  key_placed = record { under = key_under; over = key_over }

  pub key_pointed : Pointed cmp cmp
  key_pointed = record { single = key_single }

-- ---- orders from orders

pub from_total : {K : Type 0} {R : K → K → Ordering} (t : IsTotalOrder R) → Ordered R
from_total t = record {
  itself = λ a. let m = t.antisymm a a in grind arith;
  mirrors = λ a b. t.antisymm b a;
  chains = λ a b c h k.
      let x = t.trans a b c in
      let y = t.congr a b c in
      let z = alike_right t b c a in
      grind arith;
}

module _ {X : Type 0} {cmp : X → X → Ordering} (o : Ordered cmp) where
  pub viewed : {K : Type 0} (view : K → X) → Ordered (λ (a b : K). cmp (view a) (view b))
  viewed view = record {
    itself = λ a. o.itself (view a);
    mirrors = λ a b. o.mirrors (view a) (view b);
    chains = λ a b c. o.chains (view a) (view b) (view c);
  }

  pub viewed_placed : {K Q : Type 0} (sought : Q → X) (view : K → X) → Placed (λ (a b : K). cmp (view a) (view b)) (λ (q : Q) (k : K). cmp (sought q) (view k))
  viewed_placed sought view = record {
    under = λ q a b. key_under o (sought q) (view a) (view b);
    over = λ q a b. key_over o (sought q) (view a) (view b);
  }

  pub viewed_pointed : {K Q : Type 0} (sought : Q → X) (view : K → X) → Pointed (λ (a b : K). cmp (view a) (view b)) (λ (q : Q) (k : K). cmp (sought q) (view k))
  viewed_pointed sought view = record { single = λ q a b. key_single o (sought q) (view a) (view b) }

  pub led_placed : {K Q : Type 0} {compares : K → K → Ordering} (sought : Q → X) (view : K → X) → ((a b : K) → is_le (compares a b) ≡ true → is_le (cmp (view a) (view b)) ≡ true)
      → Placed compares (λ (q : Q) (k : K). cmp (sought q) (view k))
  led_placed sought view leads = record {
    under = λ q a b h. key_under o (sought q) (view a) (view b) (leads a b h);
    over = λ q a b h. key_over o (sought q) (view a) (view b) (leads a b h);
  }

pub then_leads : (x y : Ordering) → is_le (ordering_then x y) ≡ true → is_le x ≡ true
then_leads Less y h = refl
then_leads Equal y h = refl
then_leads Greater y h = h
