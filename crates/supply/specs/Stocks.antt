-- What a supply means, and what its calls do to that.
--   Stock       one mark for each number below the size, true where the number is out; the allowance, how many more may be taken; and what stands aside
--   Aside       what neither taking nor giving back changes: the marks of numbers that are barred, in several rows, and the terms of the supply
--   is_barred    whether a number is barred: it is not out, and is never given
--   size_of      how many numbers there are
--   is_out       whether a number is out
--   marked      how many of the marks are true
--   outs_of      how many are out
--   counted     the stock with given marks in which every number that is not out may be taken
--   fresh       so many numbers, none of which is out
--   kept_size    the size that a new supply has: 0 where more than 4096 was asked for
--   Sound       no more may be taken than are not out, and a number fits 16 bits
--   Taken       what `take` does: a number is Given, or the call is Refused
--   GivenBack   what `give_back` does: the number is Returned, or the call is Declined
--   Spared      what `spare` does: the allowance is at least what is needed, or the call is refused and says how much there is
--   TakenTwo    what `take_two` does: two numbers are given, or the call is refused
--   Drained     what `drain` does
-- Where nothing has changed, one equation says so: the stock after is the stock before.
use Rattle.std.specs.Prelude.{◌≡◌, ℕ, ◌+◌, ◌-◌, ◌^◌, ◌<◌, ◌≤◌, Bool, true, false, cond, List, [], ◌∷◌, length, set, replicate, count_by, Result, MatchResult, ◌≢◌, nat_le, slice_index_or, slice_set}
use Rattle.supply.specs.declared.faults.Fault.{Fault}
use Rattle.supply.specs.declared.faults.Fault.TheVariants.{Breach, Short}

pub record Aside : Type 0 where
  pub barred : List (List Bool)
  pub terms : List ℕ

pub record Stock : Type 0 where
  pub marks : List Bool
  pub allowance : ℕ
  pub aside : Aside

abbrev pub size_of : Stock → ℕ
size_of s = length s.marks

abbrev pub is_out : Stock → ℕ → Bool
is_out s n = slice_index_or s.marks n false

abbrev pub barred_by : List (List Bool) → ℕ → Bool
barred_by [] n = false
barred_by (m ∷ ms) n = cond (slice_index_or m n false) true (barred_by ms n)

abbrev pub is_barred : Stock → ℕ → Bool
is_barred s n = barred_by s.aside.barred n

abbrev pub nothing_aside : Aside
nothing_aside = record { barred = []; terms = [] }

abbrev pub marked : List Bool → ℕ
marked marks = count_by (λ b. b) marks

abbrev pub outs_of : Stock → ℕ
outs_of s = marked s.marks

abbrev pub counted : List Bool → Stock
counted marks = record { marks = marks; allowance = length marks - marked marks; aside = nothing_aside }

abbrev pub fresh : ℕ → Stock
fresh size = record { marks = replicate size false; allowance = size; aside = nothing_aside }

abbrev pub kept_size : ℕ → ℕ
kept_size size = cond (nat_le size 4096) size 0

pub record Sound (s : Stock) : Type 0 where
  pub within : s.allowance + outs_of s ≤ size_of s
  pub small : size_of s < 2 ^ 16
  pub apart : (n : ℕ) → is_out s n ≡ true → is_barred s n ≡ false

-- ---- take

-- The number n was not out and is now, the allowance is one less, and all else is as it was.
pub record Given (before after : Stock) (n : ℕ) : Type 0 where
  pub below : n < size_of before
  pub unused : is_out before n ≡ false
  pub allowed : is_barred before n ≡ false
  pub marks : after.marks ≡ slice_set before.marks n true
  pub allowance : before.allowance ≡ after.allowance + 1
  pub aside : after.aside ≡ before.aside
  -- these follow, and are here for callers
  pub size : size_of after ≡ size_of before
  pub out : is_out after n ≡ true
  pub others : (k : ℕ) → (k ≢ n) → is_out after k ≡ is_out before k
  pub outs : outs_of after ≡ outs_of before + 1
  pub undone : set after.marks n false ≡ before.marks

-- Nothing may be taken, the fault says so, and nothing has changed.
pub record Refused (before after : Stock) (fault : Fault) : Type 0 where
  pub none_left : before.allowance ≡ 0
  pub reason : fault ≡ Short 1 0
  pub same : after ≡ before

abbrev pub Taken : Stock → Stock → Result ℕ Fault → Type 0
Taken before after r = MatchResult r (Given before after) (Refused before after)

-- ---- give_back

-- The number n was out and is no more, the allowance is one more, and all else is as it was.
pub record Returned (before after : Stock) (n : ℕ) : Type 0 where
  pub was_out : is_out before n ≡ true
  pub marks : after.marks ≡ slice_set before.marks n false
  pub allowance : after.allowance ≡ before.allowance + 1
  pub aside : after.aside ≡ before.aside
  -- these follow, and are here for callers
  pub allowed : is_barred before n ≡ false
  pub size : size_of after ≡ size_of before
  pub unused : is_out after n ≡ false
  pub others : (k : ℕ) → (k ≢ n) → is_out after k ≡ is_out before k
  pub outs : outs_of before ≡ outs_of after + 1

-- The number n was not out, and nothing has changed.
pub record Declined (before after : Stock) (n : ℕ) (fault : Fault) : Type 0 where
  pub not_out : is_out before n ≡ false
  pub reason : fault ≡ Breach
  pub same : after ≡ before

abbrev pub GivenBack : Stock → Stock → ℕ → Result (Unit {0}) Fault → Type 0
GivenBack before after n r = MatchResult r (λ _. Returned before after n) (Declined before after n)

-- ---- spare

abbrev pub Spared : Stock → ℕ → Result (Unit {0}) Fault → Type 0
Spared s needed r = MatchResult r (λ _. needed ≤ s.allowance) (λ fault. (s.allowance < needed) × (fault ≡ Short needed s.allowance))

-- ---- take_two

-- Two numbers, m and then n, were not out and are now, the allowance is two less, and all else is as it was.
pub record GivenTwo (before after : Stock) (m n : ℕ) : Type 0 where
  pub differ : m ≡ n → ⊥
  pub unused_first : is_out before m ≡ false
  pub unused_second : is_out before n ≡ false
  pub out_first : is_out after m ≡ true
  pub out_second : is_out after n ≡ true
  pub marks : after.marks ≡ slice_set (slice_set before.marks m true) n true
  pub allowance : before.allowance ≡ after.allowance + 2
  pub aside : after.aside ≡ before.aside

-- Fewer than two may be taken, the fault says how many, and nothing has changed.
pub record RefusedTwo (before after : Stock) (fault : Fault) : Type 0 where
  pub few : before.allowance < 2
  pub reason : fault ≡ Short 2 before.allowance
  pub same : after ≡ before

abbrev pub TakenTwo : Stock → Stock → Result (ℕ × ℕ) Fault → Type 0
TakenTwo before after r = MatchResult r (λ p. GivenTwo before after p.0 p.1) (RefusedTwo before after)

-- ---- drain

-- As many numbers as the allowance was are now out besides those that were, and none is left to take.
pub record Drained (before after : Stock) (r : ℕ) : Type 0 where
  pub count : r ≡ before.allowance
  pub none_left : after.allowance ≡ 0
  pub size : size_of after ≡ size_of before
  pub kept : (k : ℕ) → is_out before k ≡ true → is_out after k ≡ true
  pub outs : outs_of after ≡ outs_of before + before.allowance
  pub aside : after.aside ≡ before.aside
