-- Moves as a program gives them, and what they answer.
--   asked_move        a move whose queries are told by how they stand to each key
--   replied f r       the answer as a reply, or the refusal's number with the values that go with it
--   told_reply r      the reply, or the refusal by its number and values
--   move_of           the move that was made
--   reply_of          what it answered
--   MakesMove         this move, with this reply, led from one state to the other
--   Performed         these moves, with these replies, led from one state to the other; and where both callers stand before, and each one's calls
--                     come behind a granted laying out, both stand afterwards
--   first_moves, first_replies    those of the first n
use Rattle.std.specs.Prelude.{◌≡◌, ℕ, List, ◌++◌, map, reverse, take, Ok, Err, Result}
use Rattle.std.specs.declared.cmp.Ordering.{Ordering}
use Rattle.calls.specs.declared.refusals.Refusal.{Refusal}
use Rattle.calls.specs.Refusals.{Code, code}
use Rattle.calls.specs.Asking.{Query, Asked, asked}
use Rattle.shared.specs.declared.moves.Move.{Move}
use Rattle.shared.specs.declared.moves.Move.TheVariants as M
use Rattle.shared.specs.declared.moves.Reply.{Reply}
use Rattle.shared.specs.declared.moves.Reply.TheVariants as R
use Rattle.shared.specs.Moves.{Moved, turned, laid, called, Makes, MakesAll, LaidFirst, BothStand}
use Rattle.shared.specs.SharedStates.{SharedState}

pub data AskedMove (K V : Type 0) : Type 0 where
  LayOut : AskedMove K V
  Turn : ℕ → AskedMove K V
  Call : Asked K V → AskedMove K V

abbrev pub asked_move : {K V P Q : Type 0} → (P → Query K) → (Q → Query K) → Move K V P Q → AskedMove K V
asked_move points places M.LayOut = LayOut
asked_move points places (M.Turn n) = Turn n
asked_move points places (M.Call c) = Call (asked points places c)

abbrev pub replied : {K V X : Type 0} → (X → Reply K V) → Result X Code → Result (Reply K V) Code
replied f (Ok x) = Ok (f x)
replied f (Err e) = Err e

abbrev pub told_reply : {K V : Type 0} → Result (Reply K V) Refusal → Result (Reply K V) Code
told_reply (Ok x) = Ok x
told_reply (Err e) = Err (code e)

abbrev pub move_of : {K V : Type 0} → Moved K V → AskedMove K V
move_of (turned n r) = Turn n
move_of (laid b r) = LayOut
move_of (called b ev) = Call ev.call

abbrev pub reply_of : {K V : Type 0} → Moved K V → Result (Reply K V) Code
reply_of (turned n r) = replied (λ u. R.Turned) r
reply_of (laid b r) = replied (λ u. R.LaidOut) r
reply_of (called b ev) = replied R.Answered ev.answer

pub record MakesMove {K V : Type 0} (compares : K → K → Ordering) (m : AskedMove K V) (r : Result (Reply K V) Code) (d d' : SharedState K V) : Type 0 where
  pub moved : Moved K V
  pub asked : move_of moved ≡ m
  pub told : reply_of moved ≡ r
  pub made : Makes compares d moved d'

pub record Performed {K V : Type 0} (compares : K → K → Ordering) (ms : List (AskedMove K V)) (rs : List (Result (Reply K V) Code)) (d d' : SharedState K V) : Type 0 where
  pub moves : List (Moved K V)
  pub asked : map move_of moves ≡ reverse ms
  pub told : map reply_of moves ≡ reverse rs
  pub made : MakesAll compares moves d d'
  pub stands : (before : List (Moved K V)) → BothStand compares d before → LaidFirst (moves ++ before) → BothStand compares d' (moves ++ before)

abbrev pub first_moves : {K V P Q : Type 0} → (P → Query K) → (Q → Query K) → ℕ → List (Move K V P Q) → List (AskedMove K V)
first_moves points places n ms = map (asked_move points places) (take n ms)

abbrev pub first_replies : {K V : Type 0} → ℕ → List (Result (Reply K V) Refusal) → List (Result (Reply K V) Code)
first_replies n rs = map told_reply (take n rs)
