-- The doors of a set: how many, which, and how a loop walks them, by the lowest door, which is struck off. Assumes nothing.
use Rattle.model.proofs.Basics.{◌≡◌, refl, sym, ap, ◌∙◌, ◌≢◌, Bool, true, ◌&&◌, List, [], ◌∷◌, append-nil, ℕ, suc, ◌+◌, ◌-◌, ◌^◌, ◌≤◌, ◌<◌}
use Rattle.model.proofs.Basics.{add-zero, lt_of_le_of_lt, arith, eqb, ltb, eqb-true, eqb-false, ltb-true, ltb-false, lt-ltb, le-ltb, le_ind, length, get_or, drop}
use Rattle.model.specs.{passing_below, bit, member, max_doors}
use Rattle.model.proofs.Tools.Tests.{by_test}
use Rattle.model.proofs.TaskLists.Masks.{bit_none, bit_member}
use Rattle.model.proofs.TaskLists.Lowest.{task_below, Lowest, lowest, BeforeLowest, before_lowest}
use Rattle.tasklist.proofs.Shifts.{bit_and_lem}
use lib.Bits.{bit_and, and_le_l}
use lib.Count.{count_trailing_zeros}
use lib.ListN.{length-drop}
use lib.Seq.{get_or-drop, drop-drop}
use Rattle.kernel_gather.specs.Gathering.{doors_in}
use Rattle.kernel_gather.proofs.Passing.{passing_few, passing_at, passing_none, passing_cong, passing_first}

-- ---- the doors of a set

module _ (set : ℕ) where
  pub doors_few : length (doors_in set) ≤ max_doors
  unfolding doors_in
  doors_few = passing_few (member set) max_doors

  pub doors_each : (i : ℕ) → i < length (doors_in set) → (get_or (doors_in set) i 0 < max_doors) × (member set (get_or (doors_in set) i 0) ≡ true)
  unfolding doors_in
  doors_each = passing_at (member set) max_doors

  -- a set of the numbers below n that pass a test
  pub doors_in_are : (n : ℕ) (test : ℕ → Bool) → n ≤ max_doors → ((d : ℕ) → member set d ≡ (ltb d n && test d)) → doors_in set ≡ passing_below n test
  unfolding doors_in
  doors_in_are n test l h = le_ind (λ (k : ℕ). passing_below k (member set) ≡ passing_below n test)
      (passing_cong n (member set) test (λ d m. h d ∙ rw (lt-ltb d n m)))
      (λ k m e. rw (h k, le-ltb k n m, append-nil) e)
      max_doors l

-- ---- the lowest door struck off

-- K & (K - 1) is K but for its lowest door
module _ (K L t : ℕ) (e : suc L ≡ K) (h : Lowest K t) where
  before : BeforeLowest L t
  before = before_lowest t L (rw e h)

  struck_off : bit (bit_and K L) t ≡ 0
  struck_off = bit_and_lem K L t ∙ omega (arith, before.not_task)

  others_stay : (j : ℕ) → j ≢ t → bit (bit_and K L) j ≡ bit K j
  others_stay j n = bit_and_lem K L j ∙ by_test (ltb j t)
      (λ w. omega (arith, h.none_below j (ltb-true j t w)))
      (λ w. let l = ltb-false j t w in omega (arith, rw e at (before.same_above j (omega arith))))

-- so the doors of a set are its lowest and then those that are left
doors_first : (K : ℕ) → 0 < K → K < 2 ^ max_doors → doors_in K ≡ count_trailing_zeros max_doors K ∷ doors_in (bit_and K (K - 1))
unfolding doors_in
doors_first K p l =
    let t = count_trailing_zeros max_doors K in
    let h = lowest max_doors K p l in
    let e : suc (K - 1) ≡ K = omega arith in
    passing_first (member K) (member (bit_and K (K - 1))) t
    (bit_member K t h.task) (λ d m. rw (h.none_below d m)) (rw (struck_off K (K - 1) t e h)) (λ d n. rw (others_stay K (K - 1) t e h d n))
    max_doors (task_below max_doors K t l h.task)

no_doors_lem : doors_in 0 ≡ []
unfolding doors_in
no_doors_lem = passing_none (member 0) max_doors (λ d l. rw (bit_none d))

-- ---- the walk

-- m doors of the set are walked, and those behind them are left
pub record Walked (set left m : ℕ) : Type 0 where
  pub few : m ≤ length (doors_in set)
  pub small : left < 2 ^ max_doors
  pub is : doors_in left ≡ drop m (doors_in set)

-- door d is the next of the set, at place m
pub record NextDoor (set d m : ℕ) : Type 0 where
  pub within : m < length (doors_in set)
  pub place : m < max_doors
  pub is : d ≡ get_or (doors_in set) m 0
  pub door : d < max_doors
  pub listed : member set d ≡ true

pub none_walked : {set : ℕ} → set < 2 ^ max_doors → Walked set set 0
none_walked l = record { few = omega arith; small = l; is = refl }

module _ {set left m : ℕ} (h : Walked set left m) where
  -- nothing is left: all doors are walked
  pub all_walked : left ≡ 0 → m ≡ length (doors_in set)
  all_walked e = omega (arith, h.few, length-drop m (doors_in set), ap length (sym h.is ∙ ap doors_in e ∙ no_doors_lem))

  pub more_left : m < length (doors_in set) → 0 < left
  more_left l = by_test (eqb left 0) (λ w. omega (arith, all_walked (eqb-true left 0 w))) (λ w. let n = eqb-false left 0 w in omega arith)

  -- something is left: its lowest door is the next, and is struck off
  module _ (p : 0 < left) where
    left_is : count_trailing_zeros max_doors left ∷ doors_in (bit_and left (left - 1)) ≡ drop m (doors_in set)
    left_is = sym (doors_first left p h.small) ∙ h.is

    pub next_door_lem : NextDoor set (count_trailing_zeros max_doors left) m
    next_door_lem =
        let l : m < length (doors_in set) = omega (arith, length-drop m (doors_in set), ap length left_is) in
        let q = ap (λ (xs : List ℕ). get_or xs 0 0) left_is ∙ (rw add-zero at (get_or-drop m (doors_in set) 0 0)) in
        let e = doors_each set m l in
        record { within = l; place = omega (arith, doors_few set); is = q; door = rw q e.0; listed = rw q e.1 }

    pub one_walked : Walked set (bit_and left (left - 1)) (m + 1)
    one_walked = record {
      few = omega (arith, next_door_lem.within);
      small = lt_of_le_of_lt (and_le_l left (left - 1)) h.small;
      is = ap (drop 1) left_is ∙ drop-drop 1 m (doors_in set);
    }
