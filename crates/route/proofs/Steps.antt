-- The legs of a route, from its last step to its first: before each turn the sum is the legs of the steps from there on, and the load
-- that of the list that is open there. A step adds its leg and joins its task, which is new to the list because no task stands twice;
-- and no part of the sum is above the cost. Assumes nothing.
use Rattle.model.proofs.Basics.{◌≡◌, refl, sym, ap, ap₂, ◌∙◌, ⊎_elim, true, List, [], ◌∷◌, map, ℕ, zero, suc, ◌+◌, ◌-◌, ◌*◌, ◌^◌, ◌≤◌, ◌<◌}
use Rattle.model.proofs.Basics.{le_refl, arith, ltb, ltb-true, lt-ltb, T, length, get_or, drop, length-map, drop-cons, drop-length, ℤ, pos, nat_abs}
use Rattle.model.specs.{all_in, count_of, bit, with, mask_of, mask_bits, load, legs, in_sheet}
use Rattle.model.specs.Sheet.{Sheet}
use Rattle.model.proofs.Tools.Tests.{and_left, and_right, and_both}
use Rattle.model.proofs.Tools.Folds.{sum_le}
use Rattle.model.proofs.Tools.Positions.{map_at, drop_map}
use Rattle.model.proofs.TaskLists.Masks.{bit_cases, bit_member}
use Rattle.model.proofs.TaskLists.Counting.{count_cons, count_total, count_member}
use Rattle.model.proofs.Theory.Solutions.{door_in_lem}
use Rattle.model.proofs.Theory.Meanings.{mask_means}
use Rattle.model.proofs.Theory.Charges.{cost_parts}
use lib.Signed.{mag, non_neg}
use mir.Syntax.{w64}
use mir.Val.{Fits, SFits, to_z, of_z}
use mir.ValLaws.{to_z_pos}
use Rattle.route.specs.Routes.{point_before, open_at, Costable}
use Rattle.route.proofs.Joining.{load_none, HoldsLoad, grown, join_fits, join_load}

-- ---- the points of a route

pub point_behind : (S : Sheet) (p : ℕ) (ds : List ℕ) (i : ℕ) → 0 < i → S.depart (get_or ds (i - 1) 0) ≡ point_before S p ds i
point_behind S p ds zero h = absurd (omega arith)
point_behind S p ds (suc i) h = ap (λ (j : ℕ). S.depart (get_or ds j 0)) (omega arith)

-- ---- the tasks of a route

count_drop : (t i : ℕ) (xs : List ℕ) → count_of t (drop i xs) ≤ count_of t xs
count_drop t zero xs = le_refl (count_of t xs)
count_drop t (suc i) [] = le_refl 0
count_drop t (suc i) (x ∷ xs) = omega (arith, count_drop t i xs)

-- a task that stands once is not in the list behind it
task_new : (ts : List ℕ) → ((t : ℕ) → count_of t ts ≤ 1) → (i : ℕ) → i < length ts → bit (mask_of (drop (suc i) ts)) (get_or ts i 0) ≡ 0
task_new ts h i l =
    let t : ℕ = get_or ts i 0 in
    let rest : List ℕ = drop (suc i) ts in
    ⊎_elim
    (λ (w : bit (mask_of rest) t ≡ 0). w)
    (λ (w : bit (mask_of rest) t ≡ 1). absurd (omega (
      arith,
      count_member rest t ((mask_means rest t).0 (bit_member (mask_of rest) t w)),
      count_cons t rest,
      ap (count_of t) (drop-cons ts i 0 l),
      count_drop t i ts,
      h t,
    )))
    (bit_cases (mask_of rest) t)

-- ---- step by step

-- step i adds its leg to those behind it
legs_from : (S : Sheet) (p : ℕ) (ds : List ℕ) (i : ℕ) → i < length ds
    → let d = get_or ds i 0 in
    let from = point_before S p ds i in
    legs S from (drop i ds)
    ≡ S.distance from (S.arrive d) * nat_abs (load S (open_at S ds i)) + S.work d + legs S (point_before S p ds (suc i)) (drop (suc i) ds)
unfolding open_at
legs_from S p ds i l = rw (drop-cons ds i 0 l)

-- no part of the sum is above the whole
legs_part : (S : Sheet) (p : ℕ) (ds : List ℕ) (i : ℕ) → i ≤ length ds → legs S (point_before S p ds i) (drop i ds) ≤ legs S p ds
legs_part S p ds zero l = le_refl (legs S p ds)
legs_part S p ds (suc i) l = omega (arith, legs_from S p ds i (omega arith), legs_part S p ds i (omega arith))

-- the steps from i on: their legs from where the van stands before them, and the load there
pub record LegsFrom (S : Sheet) (p : ℕ) (ds : List ℕ) (i sum : ℕ) (held : ℤ) : Type 0 where
  pub within : i ≤ length ds
  pub costs : sum ≡ legs S (point_before S p ds i) (drop i ds)
  pub holds : HoldsLoad S (open_at S ds i) (length ds - i) held

-- behind the last step the end cost and the end load are left
pub no_leg : (S : Sheet) (p : ℕ) (ds : List ℕ) {last sum held : ℕ} → last ≡ point_before S p ds (length ds) → sum ≡ S.end_cost last
    → held ≡ S.end_load → held < 2 ^ 16 → LegsFrom S p ds (length ds) sum (to_z w64 held)
unfolding open_at
no_leg S p ds {held = held} e c l f = record {
  within = omega arith;
  costs = rw drop-length (c ∙ ap S.end_cost e);
  holds = record {
    is = rw drop-length (to_z_pos w64 held (omega arith) ∙ ap pos l ∙ sym (load_none S));
    small = rw (to_z_pos w64 held (omega arith)) (omega arith);
  };
}

-- ---- what was asked of the route

module _ {S : Sheet} {p : ℕ} {ds ts : List ℕ} (C : Costable S p ds ts) where
  task_at : (i : ℕ) → i < length ds → get_or ts i 0 ≡ S.task (get_or ds i 0)
  task_at i l = ap (λ (xs : List ℕ). get_or xs i 0) C.tasks_are ∙ map_at S.task ds i l

  door : (i : ℕ) → i < length ds → get_or ds i 0 < S.doors
  door i l = door_in_lem S ds C.stands_in_sheet i l

  pub task_in : (i : ℕ) → i < length ds → get_or ts i 0 < S.tasks
  task_in i l = rw (task_at i l) (C.ranges.task (get_or ds i 0) (door i l))

  tasks_in : (xs : List ℕ) → in_sheet S xs ≡ true → all_in (λ t. ltb t S.tasks) (map S.task xs) ≡ true
  unfolding in_sheet
  tasks_in [] h = refl
  tasks_in (x ∷ xs) h = and_both (lt-ltb _ _ (C.ranges.task x (ltb-true x S.doors (and_left (ltb x S.doors) _ h)))) (tasks_in xs (and_right (ltb x S.doors) _ h))

  -- no task twice, so no more steps than a mask has bits
  few_steps : length ds ≤ mask_bits
  few_steps = omega (
    arith,
    count_total S.tasks ts (rw C.tasks_are (tasks_in ds C.stands_in_sheet)),
    sum_le S.tasks 1 (λ t. count_of t ts) (λ t l. C.once t),
    ap length C.tasks_are,
    length-map ds S.task,
    C.tasks,
  )

  pub point_in : (i : ℕ) → i ≤ length ds → point_before S p ds i < S.points
  point_in zero m = C.point
  point_in (suc i) m = C.ranges.depart (get_or ds i 0) (door i (omega arith))

-- ---- one step more: step j

pub record Turn (S : Sheet) (p : ℕ) (ds ts : List ℕ) (j sum : ℕ) (held : ℤ) : Type 0 where
  pub asked : Costable S p ds ts
  pub behind : LegsFrom S p ds (suc j) sum held

module _ {S : Sheet} {p : ℕ} {ds ts : List ℕ} {j sum : ℕ} {held : ℤ} (t : Turn S p ds ts j sum held) where
  inside : j < length ds
  inside = omega (arith, t.behind.within)

  pub there : j < length ts
  there = rw (t.asked.tasks_are, length-map) inside

  pub its_door : get_or ds j 0 < S.doors
  its_door = door t.asked j inside

  pub its_task : get_or ts j 0 < S.tasks
  its_task = task_in t.asked j inside

  pub from_in : {from : ℕ} → from ≡ point_before S p ds j → from < S.points
  from_in e = rw e (point_in t.asked j (omega (arith, inside)))

  pub to_in : {a : ℕ} → a ≡ S.arrive (get_or ds j 0) → a < S.points
  to_in e = rw e (t.asked.ranges.arrive _ its_door)

  new : bit (open_at S ds (suc j)) (get_or ts j 0) ≡ 0
  unfolding open_at
  new = rw (← drop_map S.task (suc j) ds, ← t.asked.tasks_are) (task_new ts t.asked.once j there)

  joined : with (open_at S ds (suc j)) (get_or ts j 0) ≡ open_at S ds j
  unfolding open_at
  joined = rw (drop-cons ds j 0 inside, task_at t.asked j inside)

  few : length ds - suc j < mask_bits
  few = omega (arith, inside, few_steps t.asked)

  -- x is the change of its task
  module _ {x : ℤ} (f : mag x < 2 ^ 15) (q : x ≡ S.change (get_or ts j 0)) where
    pub load_grows : SFits w64 (grown held x)
    load_grows = join_fits t.behind.holds few its_task new f q

    load_next : HoldsLoad S (open_at S ds j) (length ds - j) (to_z w64 (of_z w64 (grown held x)))
    load_next =
        let one : length ds - suc j + 1 ≡ length ds - j = omega (arith, inside) in
        rw (← joined, ← one) (join_load t.behind.holds few its_task new f q)

    pub load_cast : T (non_neg (to_z w64 (of_z w64 (grown held x)))) × Fits w64 (nat_abs (to_z w64 (of_z w64 (grown held x))))
    load_cast = (rw load_next.is (t.asked.loads j inside), record { fits = omega (arith, load_next.small, few_steps t.asked) })

    -- from, a and y are what the code has for where the van stands, the arrival point and the distance
    module _ {from a y : ℕ} (hf : from ≡ point_before S p ds j) (ha : a ≡ S.arrive (get_or ds j 0))
        (hy : y ≡ S.distance from a) where
      -- and w for the work
      pub next_leg : {w : ℕ} → w ≡ S.work (get_or ds j 0)
          → LegsFrom S p ds j (sum + (y * nat_abs (to_z w64 (of_z w64 (grown held x))) + w)) (to_z w64 (of_z w64 (grown held x)))
      next_leg hw = record {
        within = omega (arith, inside);
        costs = omega (arith, ap₂ ◌*◌ (hy ∙ ap₂ S.distance hf ha) (ap nat_abs load_next.is), hw, t.behind.costs, legs_from S p ds j inside);
        holds = load_next;
      }

      -- no part of the sum is above the cost
      pub leg_fits : y * nat_abs (to_z w64 (of_z w64 (grown held x))) + S.work (get_or ds j 0) + sum < 2 ^ 64
      leg_fits = omega (
        arith,
        (next_leg refl).costs,
        legs_part S p ds j (omega (arith, inside)),
        cost_parts S p ds,
        t.asked.fits,
      )
