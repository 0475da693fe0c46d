-- What only the code's way of working needs, and no other definition: lists as masks of a width, how many there are and the full one, the tasks and doors that
-- can come first (000, (4.1)), striking them off, by which 17 is decided, and the parts that a route's cost is added up by. Assumes nothing.
use Rattle.std.specs.Prelude.{Bool, cond, not, ◌&&◌, List, [], ◌∷◌, map, ℕ, zero, suc, ◌+◌, ◌*◌, ◌^◌, eqb, ltb, nat_abs}
use Rattle.model.specs.Folds.{all_below, any_below, passing_below}
use Rattle.model.specs.TaskList.{member, with, without, full, mask_of}
use Rattle.model.specs.Sheet.{Sheet}
use Rattle.model.specs.Orders.{pair_within}
use Rattle.model.specs.Cost.{load, charges}

-- ---- lists as masks of a width

-- the bits of a mask in the code
abbrev pub mask_bits : ℕ
mask_bits = 32

-- K with task j, in a mask of w bits: a task from w on has no bit there, and K stays as it is (01, The shape of each place)
unfoldable pub with_in : ℕ → ℕ → ℕ → ℕ
with_in w K j = cond (ltb j w) (with K j) K

-- the number of lists of n tasks (02, Req 02) where a mask has room for that number, and 0 from 32 tasks on
unfoldable pub lists_of : ℕ → ℕ
lists_of n = cond (ltb n mask_bits) (2 ^ n) 0

-- the full list of n tasks (02, Req 02), and from there on the empty one
unfoldable pub full_of : ℕ → ℕ
full_of n = cond (ltb n mask_bits) (full n) 0

-- ---- what can come first

-- task t is receiver in no pair within K (000, (4.1))
unfoldable pub is_free : Sheet → ℕ → ℕ → Bool
is_free S K t = all_below S.pairs (λ i. not (pair_within S K i && eqb t (S.receiver i)))

-- task t can come first in K: it is in K, and receiver in no pair within K (000, the list I(K) of (4.1))
unfoldable pub can_come_first : Sheet → ℕ → ℕ → Bool
can_come_first S K t = member K t && is_free S K t

-- the doors whose task can come first in K, by number (000, (4.1))
unfoldable pub first_doors : Sheet → ℕ → List ℕ
first_doors S K = passing_below S.doors (λ d. can_come_first S K (S.task d))

-- ---- striking off

-- some task is in both lists, as masks of w bits
unfoldable pub meets : ℕ → ℕ → ℕ → Bool
meets w J K = any_below w (λ j. member J j && member K j)

-- the senders in the pairs below n whose receiver is t, as a mask (000, (4.1))
abbrev pub senders_below : Sheet → ℕ → ℕ → ℕ
senders_below S zero t = 0
senders_below S (suc n) t = cond (eqb (S.receiver n) t) (with_in mask_bits (senders_below S n t) (S.sender n)) (senders_below S n t)

-- and in all pairs: what t waits for
unfoldable pub senders_of : Sheet → ℕ → ℕ
senders_of S t = senders_below S S.pairs t

-- K with task t struck off if it can come first in K (000, (4.1))
abbrev pub strike : Sheet → ℕ → ℕ → ℕ
strike S K t = cond (can_come_first S K t) (without K t) K

-- what is left of K after each of the tasks 0, 1, .. below n in turn was struck off if it could come first in what was left (000, (4.1), again and again)
abbrev pub strike_below : Sheet → ℕ → ℕ → ℕ
strike_below S zero K = K
strike_below S (suc n) K = strike S (strike_below S n K) n

-- and after k such passes over all tasks (000, (4.1), again and again)
abbrev pub strike_off : Sheet → ℕ → ℕ → ℕ
strike_off S zero K = K
strike_off S (suc k) K = strike_below S S.tasks (strike_off S k K)

-- as many passes as there are tasks leave something of the full list (000, (4.1), again and again)
unfoldable pub something_left : Sheet → Bool
something_left S = not (eqb (strike_off S S.tasks (full_of S.tasks)) 0)

-- ---- a route in parts

-- the cost of a route without its charges: distances times loads, work, and the end (000, (2.12))
abbrev pub legs : Sheet → ℕ → List ℕ → ℕ
legs S p [] = S.end_cost p
legs S p (d ∷ ds) = S.distance p (S.arrive d) * nat_abs (load S (mask_of (map S.task (d ∷ ds)))) + S.work d + legs S (S.depart d) ds

-- and its charges alone, step by step (000, (2.12))
abbrev pub charges_on : Sheet → List ℕ → ℕ
charges_on S [] = 0
charges_on S (d ∷ ds) = charges S (mask_of (map S.task (d ∷ ds))) d + charges_on S ds

-- the list that is open where door x is done on a route, and the empty one where it is not done there (000, (2.12))
abbrev pub open_on : Sheet → List ℕ → ℕ → ℕ
open_on S [] x = 0
open_on S (d ∷ ds) x = cond (eqb d x) (mask_of (map S.task (d ∷ ds))) (open_on S ds x)
