-- Rows of keys that rise. Assumes nothing.
--     less_chain            below passes along
--     rising_steps          it is enough that each key is below the next
--     rising_decided        what says whether each key is below the next says whether the row rises
--     rising_inserted       a key put where it belongs
--     rising_stored         a key put where a search for it stopped and did not find it
--     rising_removed        a key taken out
use Rattle.std.proofs.Common.{◌≡◌, ℕ, zero, suc, ◌+◌, ◌-◌, ◌<◌, ◌≤◌, Bool, true, false, List, [], ◌∷◌, length, get_or, Ordering, Less, Decides, refl, sym, ap, ◌∙◌, subst, add-one, true≢false, arith}
use Rattle.std.specs.List.{insert, remove, IsAllAdjacentAnswer}
use Rattle.std.specs.Ordering.{is_lt}
use Rattle.std.proofs.lemmas.List.Edits.{length-insert, get_or-insert_below, get_or-insert_at, get_or-insert_above, length-remove, get_or-remove_below, get_or-remove_above}
use Rattle.order.specs.Laws.{Ordered}
use Rattle.order.specs.Found.{Parted}
use Rattle.order.specs.Rising.{Rising}

shifted : {K : Type 0} (keys : List K) (at : ℕ) (x : K) → at ≤ length keys → (d : K) (k : ℕ) → at < k → get_or (insert keys at x) k d ≡ get_or keys (k - 1) d
shifted keys at x within d k h =
    let e : k - 1 + 1 ≡ k = omega arith in
    subst (λ n. get_or (insert keys at x) n d ≡ get_or keys (k - 1) d) e (get_or-insert_above keys at x d (k - 1) (omega arith) within)

module _ {K : Type 0} {cmp : K → K → Ordering} (o : Ordered cmp) where
  pub less_chain : (a b c : K) → cmp a b ≡ Less → cmp b c ≡ Less → cmp a c ≡ Less
  less_chain a b c h k =
      let t = o.chains a b c in
      let s = o.chains b c a in
      let m = o.mirrors a b in
      let n = o.mirrors a c in
      grind arith

  pub rising_steps : (keys : List K) → ((i : ℕ) (d : K) → i + 1 < length keys → cmp (get_or keys i d) (get_or keys (i + 1) d) ≡ Less) → Rising cmp keys
  rising_steps keys step i zero d lt within = absurd (omega arith)
  rising_steps keys step i (suc j) d lt within =
      let s : cmp (get_or keys j d) (get_or keys (suc j) d) ≡ Less = rw add-one at (step j d (omega arith)) in
      let h : i < j → cmp (get_or keys i d) (get_or keys j d) ≡ Less = λ l. rising_steps keys step i j d l (omega arith) in
      let t = less_chain (get_or keys i d) (get_or keys j d) (get_or keys (suc j) d) in
      grind arith

  pub rising_decided : (keys : List K) (r : Bool) → IsAllAdjacentAnswer (λ x y b. b ≡ is_lt (cmp x y)) keys r → Decides r (Rising cmp keys)
  rising_decided keys true below = (λ _. rising_steps keys (λ k d h. let b = below k d h in grind arith), λ _. refl)
  rising_decided [] false (k, within, over) = absurd (omega arith)
  rising_decided (x ∷ xs) false (k, within, over) = (λ e. absurd (true≢false (sym e)), λ up. over x ∙ ap is_lt (up k (k + 1) x (omega arith) within))

  pub rising_inserted : (keys : List K) (at : ℕ) (x : K) → at ≤ length keys → Rising cmp keys → ((k : ℕ) (d : K) → k < at → cmp (get_or keys k d) x ≡ Less) → ((k : ℕ) (d : K) → at ≤ k → k < length keys → cmp x (get_or keys k d) ≡ Less) → Rising cmp (insert keys at x)
  rising_inserted keys at x within up low high i j d lt inside =
      let n : length (insert keys at x) ≡ length keys + 1 = length-insert keys at x within in
      let il : i < at → get_or (insert keys at x) i d ≡ get_or keys i d = λ h. get_or-insert_below keys at x d i h within in
      let jl : j < at → get_or (insert keys at x) j d ≡ get_or keys j d = λ h. get_or-insert_below keys at x d j h within in
      let here : get_or (insert keys at x) at d ≡ x = get_or-insert_at keys at x d within in
      let ih : at < i → get_or (insert keys at x) i d ≡ get_or keys (i - 1) d = shifted keys at x within d i in
      let jh : at < j → get_or (insert keys at x) j d ≡ get_or keys (j - 1) d = shifted keys at x within d j in
      let u = up i j d lt in
      let v = up i (j - 1) d in
      let w = up (i - 1) (j - 1) d in
      let l = low i d in
      let h = high (j - 1) d in
      grind arith

  pub rising_stored : (keys : List K) (x : K) (i : ℕ) (f : Bool) → f ≡ false → i ≤ length keys → Rising cmp keys → Parted cmp keys x i f → Rising cmp (insert keys i x)
  rising_stored keys x i f miss within up p =
      rising_inserted keys i x within up
      (λ k d h. let a = p.above k d h in let m = o.mirrors x (get_or keys k d) in grind arith)
      (λ k d le lt. p.absent k d miss le lt)

  pub rising_removed : (keys : List K) (at : ℕ) → at < length keys → Rising cmp keys → Rising cmp (remove keys at)
  rising_removed keys at within up i j d lt inside =
      let n : length (remove keys at) + 1 ≡ length keys = length-remove keys at within in
      let il : i < at → get_or (remove keys at) i d ≡ get_or keys i d = λ h. get_or-remove_below keys at d i h within in
      let jl : j < at → get_or (remove keys at) j d ≡ get_or keys j d = λ h. get_or-remove_below keys at d j h within in
      let ih : at ≤ i → get_or (remove keys at) i d ≡ get_or keys (i + 1) d = λ h. get_or-remove_above keys at d i h within in
      let jh : at ≤ j → get_or (remove keys at) j d ≡ get_or keys (j + 1) d = λ h. get_or-remove_above keys at d j h within in
      let u = up i j d in
      let v = up i (j + 1) d in
      let w = up (i + 1) (j + 1) d in
      grind arith
