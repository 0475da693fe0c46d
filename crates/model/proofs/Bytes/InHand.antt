-- The plan in hand after doors were added one by one: their count, the cost, and the array that holds them. Assumes nothing.
use Rattle.model.proofs.Basics.{◌≡◌, refl, sym, ap, ◌∙◌, List, [], ◌∷◌, ◌++◌, ℕ, zero, suc, ◌+◌, ◌≤◌, ◌<◌, add-one, arith, length}
use Rattle.model.proofs.Basics.{get_or, take, lt-ltb, le-ltb}
use Rattle.model.specs.{map_below, max_plan_doors, doors_in, door_in, cost_in, door_array, no_doors, with_door, with_doors, in_hand}
use Rattle.model.specs.PlanInHand.{PlanInHand}
use Rattle.model.proofs.Tools.Arrays.{map_elements, array_next}
use Rattle.model.proofs.Bytes.PlanBytes.{length_array, array_front, length_doors}

-- the last door is added last
with_last : (x : PlanInHand) (ds : List ℕ) (d : ℕ) → with_doors x (ds ++ (d ∷ [])) ≡ with_door (with_doors x ds) d
with_last x [] d = refl
with_last x (e ∷ ds) d = with_last (with_door x e) ds d

pub with_next : (x : PlanInHand) (n : ℕ) (f : ℕ → ℕ) → with_doors x (map_below (n + 1) f) ≡ with_door (with_doors x (map_below n f)) (f n)
unfolding map_below
with_next x n f = rw add-one (with_last x (map_below n f) (f n))

-- the plan that bytes hold, when all its doors are added
pub all_added : (n i : ℕ) (q : List ℕ) (x : PlanInHand) → i ≡ n → x ≡ with_doors (no_doors (cost_in n q)) (map_below i (door_in q)) → x ≡ in_hand n q
unfolding in_hand doors_in
all_added n i q x e h = h ∙ ap (λ (m : ℕ). with_doors (no_doors (cost_in n q)) (map_below m (door_in q))) e

-- a plan of the n doors f 0, f 1, ..
abbrev plan_of : ℕ → ℕ → (ℕ → ℕ) → PlanInHand
plan_of cost n f = record { doors = door_array max_plan_doors n f; count = n; cost = cost }

-- which another door makes one of n + 1, while there is room
added : (cost n : ℕ) (f : ℕ → ℕ) → n < max_plan_doors → with_door (plan_of cost n f) (f n) ≡ plan_of cost (suc n) f
unfolding with_door
added cost n f h = rw (lt-ltb n max_plan_doors h, array_next max_plan_doors n f h)

-- and which then stays as it is, whichever door it is handed
pub full_stays : (x : PlanInHand) (d : ℕ) → max_plan_doors ≤ x.count → with_door x d ≡ x
unfolding with_door
full_stays x d h = rw (le-ltb x.count max_plan_doors h)

filled : (cost n : ℕ) (f : ℕ → ℕ) → n ≤ max_plan_doors → with_doors (no_doors cost) (map_below n f) ≡ plan_of cost n f
unfolding no_doors door_array map_below
filled cost zero f h = refl
filled cost (suc n) f h = with_last (no_doors cost) (map_below n f) (f n) ∙ rw (filled cost n f (omega arith)) (added cost n f h)

-- the plan in hand has that cost and those doors
pub record Holds (x : PlanInHand) (cost : ℕ) (ds : List ℕ) : Type 0 where
  pub count_is : x.count ≡ length ds
  pub cost_is : x.cost ≡ cost
  pub size : length x.doors ≡ max_plan_doors
  pub front : take (length ds) x.doors ≡ ds
  pub array : x.doors ≡ door_array max_plan_doors (length ds) (λ i. get_or ds i 0)

-- as has the empty plan of that cost with those doors added
pub with_doors_lem : (cost : ℕ) (ds : List ℕ) → length ds ≤ max_plan_doors → Holds (with_doors (no_doors cost) ds) cost ds
with_doors_lem cost ds h =
    let e : with_doors (no_doors cost) ds ≡ plan_of cost (length ds) (λ i. get_or ds i 0) =
    ap (with_doors (no_doors cost)) (sym (map_elements ds)) ∙ filled cost (length ds) (λ i. get_or ds i 0) h in
    record {
      count_is = rw e;
      cost_is = rw e;
      size = rw e (length_array max_plan_doors (length ds) _);
      front = rw e (array_front max_plan_doors (length ds) ds h refl);
      array = rw e;
    }

-- the plan that bytes hold
module _ (n : ℕ) (q : List ℕ) (h : n ≤ max_plan_doors) where
  pub read_holds : Holds (in_hand n q) (cost_in n q) (doors_in n q)
  unfolding in_hand
  read_holds = with_doors_lem (cost_in n q) (doors_in n q) (rw length_doors h)

  pub in_hand_count : (in_hand n q).count ≡ n
  in_hand_count = read_holds.count_is ∙ length_doors n q

  pub in_hand_cost : (in_hand n q).cost ≡ cost_in n q
  in_hand_cost = read_holds.cost_is

  pub in_hand_doors : take n (in_hand n q).doors ≡ doors_in n q
  in_hand_doors = rw length_doors at read_holds.front
