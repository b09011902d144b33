-- Worked calls, computed by the rules, from sixteen bare places on. Keys are numbers, each with itself as its value.
--   Desk            the books, and what the last call answered
--   call a c d      a call performed where a nodes may be taken
--   calls a cs d    one after the other
--   told r          the numbers of an answer
--   line d          the nodes that are out, with the numbers of the last answer; and the rows of the first two books, each node before its children
--   by_fours d      a query that is the same as each of four keys in a row
--   sown ks         these keys put into the first place
--   twelve          T: the keys 1 to 12 in order
--   even            the keys 2, 4, .. 22 in order
--   fifteen d       the keys 13, 14 and 15 put in behind: cut at 4, three entries are left at the front border of the right part, which is raised to six
--   walking d       opened, and seven entries handed out from the front
--   Worked t        the worked calls, with t for T
use Rattle.std.specs.Prelude.{◌≡◌, ℕ, ◌/◌, List, [], ◌∷◌, Some, None, Ok, Err, Result, map, replicate}
use Rattle.std.specs.declared.cmp.Ordering.{Ordering}
use Rattle.std.specs.Ordering.{nat_cmp}
use Rattle.node.specs.declared.ends.Side.{Side}
use Rattle.node.specs.declared.ends.Side.TheVariants.{First, Last}
use Rattle.node.specs.Cases.{count}
use Rattle.node.specs.Shape.{Tree, total, weigh}
use Rattle.rules.specs.Cases.{rows}
use Rattle.parts.specs.Cases.{two}
use Rattle.parts.specs.Rules.{repair}
use Rattle.calls.specs.declared.calls.Answer.{Answer}
use Rattle.calls.specs.declared.calls.Answer.TheVariants.{Inserted, Found, Least as LeastIs, Counted, Parted, Opened, Handed, Dropped, Audited}
use Rattle.books.specs.Books.{Book, bare, planted, walked, idle, book_in, weigh_in}
use Rattle.calls.specs.Refusals.{Code}
use Rattle.calls.specs.Asking.{Asked, Insert, Cut, Least, Open, Step, Close}
use Rattle.calls.specs.Rules.{Outcome, outcome, rule}

abbrev pub Desk : Type 0
Desk = Outcome ℕ ℕ

-- which numbers are taken does not show, so each is 0
abbrev pub call : ℕ → Asked ℕ ℕ → Desk → Desk
call a c d = rule nat_cmp (λ i l. 0) (λ i. 0) a c d.books

abbrev pub calls : ℕ → List (Asked ℕ ℕ) → Desk → Desk
calls a [] d = d
calls a (c ∷ cs) d = calls a cs (call a c d)

abbrev pub told : Result (Answer ℕ ℕ) Code → List ℕ
told (Ok (Inserted None)) = []
told (Ok (Inserted (Some v))) = v ∷ []
told (Ok (Found None n)) = n ∷ []
told (Ok (Found (Some v) n)) = v ∷ n ∷ []
told (Ok (LeastIs None)) = []
told (Ok (LeastIs (Some e))) = e.0 ∷ []
told (Ok (Counted n)) = n ∷ []
told (Ok (Parted l r n)) = l ∷ r ∷ n ∷ []
told (Ok Opened) = []
told (Ok (Handed None)) = []
told (Ok (Handed (Some e))) = e.0 ∷ []
told (Ok (Dropped n)) = n ∷ []
told (Ok (Audited b)) = []
told (Err e) = e.0 ∷ e.1

abbrev pub keys_of : List (List (ℕ × ℕ)) → List (List ℕ)
keys_of = map (map (λ e. e.0))

abbrev pub book_rows : Book (ℕ × ℕ) → List (List ℕ)
book_rows bare = []
book_rows (planted h t) = keys_of (rows h t)
book_rows (walked h t) = keys_of (rows h t)
book_rows idle = []

pub record Line : Type 0 where
  pub nodes : ℕ
  pub answer : List ℕ
  pub first : List (List ℕ)
  pub second : List (List ℕ)

abbrev pub line_of : ℕ → List ℕ → List (List ℕ) → List (List ℕ) → Line
line_of n a f s = record { nodes = n; answer = a; first = f; second = s }

abbrev pub line : Desk → Line
line d = line_of (total (weigh_in (λ _. 1)) d.books) (told d.answer) (book_rows (book_in d.books 0)) (book_rows (book_in d.books 1))

abbrev pub put : ℕ → Asked ℕ ℕ
put k = Insert 0 k k

abbrev pub cut_at : ℕ → Asked ℕ ℕ
cut_at k = Cut 0 1 (nat_cmp k)

abbrev pub by_fours : ℕ → ℕ → Ordering
by_fours d k = nat_cmp d (k / 4)

abbrev pub sown : List ℕ → Desk
sown ks = calls 64 (map put ks) (outcome (Ok Opened) (replicate 16 bare))

abbrev pub twelve : Desk
twelve = sown (count 12 1 1)

abbrev pub even : Desk
even = sown (count 11 2 2)

abbrev pub fifteen : Desk → Desk
fifteen d = calls 64 (map put (count 3 13 1)) d

abbrev pub walking : Desk → Desk
walking d = calls 64 (Open 0 ∷ replicate 7 (Step 0 First)) d

-- the border children of a tree at one side, merged or raised to six
abbrev pub mended_line : Side → Tree ℕ → Line
mended_line s t =
    let p : ℕ × Tree ℕ = repair s 1 t in
    line_of (weigh (λ _. 1) p.0 p.1) [] (rows p.0 p.1) []

abbrev pub Worked : Desk → Type 0
Worked t =
    ◌≡◌ {A = List Line}
    (line (sown (count 11 1 1))
    ∷ line t
    ∷ line (call 1 (put 12) (sown (count 11 1 1)))
    ∷ line (call 64 (put 13) even)
    ∷ line (call 64 (put 15) even)
    ∷ line (call 64 (cut_at 7) t)
    ∷ line (call 64 (cut_at 13) t)
    ∷ line (call 64 (cut_at 1) t)
    ∷ line (call 1 (cut_at 7) t)
    ∷ line (call 64 (Cut 0 1 (by_fours 1)) t)
    ∷ line (call 64 (Least 0 (by_fours 1)) t)
    ∷ line (call 64 (Least 0 (by_fours 5)) t)
    ∷ mended_line Last (two 11 0)
    ∷ mended_line Last (two 5 5)
    ∷ mended_line Last (two 5 6)
    ∷ mended_line First (two 5 6)
    ∷ line (call 64 (cut_at 4) (fifteen t))
    ∷ line (walking t)
    ∷ line (call 64 (Step 0 Last) (walking t))
    ∷ line (call 64 (Close 0) (walking t))
    ∷ [])
    (line_of 1 [] (count 11 1 1 ∷ []) []
    ∷ line_of 3 [] ((7 ∷ []) ∷ count 6 1 1 ∷ count 5 8 1 ∷ []) []
    ∷ line_of 1 (6 ∷ 2 ∷ 1 ∷ []) (count 11 1 1 ∷ []) []
    ∷ line_of 3 [] ((14 ∷ []) ∷ (2 ∷ 4 ∷ 6 ∷ 8 ∷ 10 ∷ 12 ∷ 13 ∷ []) ∷ count 4 16 2 ∷ []) []
    ∷ line_of 3 [] ((14 ∷ []) ∷ count 6 2 2 ∷ (15 ∷ 16 ∷ 18 ∷ 20 ∷ 22 ∷ []) ∷ []) []
    ∷ line_of 2 (6 ∷ 6 ∷ 7 ∷ []) (count 6 1 1 ∷ []) (count 6 7 1 ∷ [])
    ∷ line_of 4 (12 ∷ 0 ∷ 6 ∷ []) ((6 ∷ []) ∷ count 5 1 1 ∷ count 6 7 1 ∷ []) ([] ∷ [])
    ∷ line_of 4 (0 ∷ 12 ∷ 2 ∷ []) ([] ∷ []) ((7 ∷ []) ∷ count 6 1 1 ∷ count 5 8 1 ∷ [])
    ∷ line_of 3 (6 ∷ 2 ∷ 1 ∷ []) ((7 ∷ []) ∷ count 6 1 1 ∷ count 5 8 1 ∷ []) []
    ∷ line_of 2 (3 ∷ 9 ∷ 5 ∷ []) (count 3 1 1 ∷ []) (count 9 4 1 ∷ [])
    ∷ line_of 3 (4 ∷ []) ((7 ∷ []) ∷ count 6 1 1 ∷ count 5 8 1 ∷ []) []
    ∷ line_of 3 [] ((7 ∷ []) ∷ count 6 1 1 ∷ count 5 8 1 ∷ []) []
    ∷ line_of 3 [] ((6 ∷ []) ∷ count 5 1 1 ∷ count 6 7 1 ∷ []) []
    ∷ line_of 1 [] (count 11 1 1 ∷ []) []
    ∷ line_of 3 [] ((6 ∷ []) ∷ count 5 1 1 ∷ count 6 7 1 ∷ []) []
    ∷ line_of 3 [] ((7 ∷ []) ∷ count 6 1 1 ∷ count 5 8 1 ∷ []) []
    ∷ line_of 4 (3 ∷ 12 ∷ 5 ∷ []) (count 3 1 1 ∷ []) ((10 ∷ []) ∷ count 6 4 1 ∷ count 5 11 1 ∷ [])
    ∷ line_of 2 (7 ∷ []) ([] ∷ count 5 8 1 ∷ []) []
    ∷ line_of 2 (12 ∷ []) ([] ∷ count 4 8 1 ∷ []) []
    ∷ line_of 0 (5 ∷ []) [] []
    ∷ [])

abbrev pub WorkedCalls : Type 0
WorkedCalls = Worked twelve
