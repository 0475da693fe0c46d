-- What a route costs, in plain sums over its places. By taking the first leg off: its load and the watched tasks that are open are sums over the members of the open list,
-- and so over the places of the doors to come. Assumes nothing.
use Rattle.model.proofs.Basics.{◌≡◌, refl, sym, ap, ap₂, ◌∙◌, true, cond, ◌&&◌, List, ◌∷◌, map, ℕ, zero, suc, ◌+◌, ◌-◌, ◌*◌, ◌/◌, ◌%◌, ◌^◌, ◌≤◌, ◌<◌}
use Rattle.model.proofs.Basics.{zero-add, suc-add, arith, eqb, ltb, leb, T, drop, ltb-true, nat_abs, non_neg}
use Rattle.model.specs.{Sheet.Sheet, sum_below, count_below, map_below, bit, member, watched_in, mask_of, is_order, load, rule_charge, charges, step_cost, cost, up, down}
use native.Mathlib.Nat.{sub-zero, suc-sub-suc}
use Rattle.model.specs.Figures.{sum_from, point_before, LoadsAre, charge_on, leg_sum, route_sum, OwnTasks, CostsSum}
use Rattle.model.proofs.Tools.{Tests.by_test, Folds.sum_cong, Folds.sum_first, Folds.map_first, Folds.map_map_below, Arrays.drop_map_below}
use Rattle.model.proofs.Tools.{Elements.in_at, Positions.StandsIn, Positions.stands_twice, Positions.image_stands}
use Rattle.model.proofs.TaskLists.{Masks.by_bit, Counting.order_in, Counting.order_once, Places.mask_below, Places.mask_sum, Places.members_sum}
use Rattle.model.proofs.Theory.Loads.{ups, downs, load_number, load_held}

-- ---- the list that is open at the first leg: that of the tasks of d 0 .. d (n - 1)

module _ (S : Sheet) (n : ℕ) (d : ℕ → ℕ) (own : OwnTasks S n d) where
  abbrev K : ℕ
  K = mask_below n (λ i. S.task (d i))

  over : (f : ℕ → ℕ) → sum_below S.tasks (λ j. bit K j * f j) ≡ sum_below n (λ i. f (S.task (d i)))
  over f = members_sum S.tasks n (λ i. S.task (d i)) f own.below own.differ

  -- what its tasks add, and what they take away
  abbrev added : ℕ
  added = sum_below n (λ i. up (S.change (S.task (d i))))

  abbrev taken : ℕ
  taken = sum_below n (λ i. down (S.change (S.task (d i))))

  -- where its load is not below zero, that is the number which E and the changes of its tasks come to
  open_number : taken ≤ S.end_load + added → nat_abs (load S K) + taken ≡ S.end_load + added
  unfolding ups downs
  open_number h = rw (← over (λ j. up (S.change j)), ← over (λ j. down (S.change j)))
      (load_number S K (rw (over (λ j. up (S.change j)), over (λ j. down (S.change j))) h))

  open_held : T (non_neg (load S K)) → taken ≤ S.end_load + added
  unfolding ups downs
  open_held h = rw (← over (λ j. up (S.change j)), ← over (λ j. down (S.change j))) (load_held S K h)

  -- and as many of its tasks are watched as places have a watched one
  open_watched : (W : ℕ) → watched_in S.tasks W K ≡ sum_below n (λ i. bit W (S.task (d i)))
  unfolding watched_in count_below
  open_watched W = sum_cong S.tasks _ _ (λ j l. both j) ∙ over (bit W)
    where
      both : (j : ℕ) → cond (member W j && member K j) 1 0 ≡ bit K j * bit W j
      both j = by_bit W j (λ w. rw w (omega arith)) (λ w. by_bit K j (λ v. rw (w, v)) (λ v. rw (w, v)))

  -- so the rules on a door cost what they cost by the places
  open_charges : (x : ℕ) → charges S K x
      ≡ sum_below S.rules (λ r. cond (eqb (S.rule_door r) x && leb (S.least_count r) (sum_below n (λ i. bit (S.watched r) (S.task (d i))))) (S.charge r) 0)
  unfolding charges rule_charge
  open_charges x = sum_cong S.rules _ _ (λ r l. rw (open_watched (S.watched r)) (by_test (eqb (S.rule_door r) x) (λ w. rw w) (λ w. rw w)))

-- ---- a route without its first door

-- from place i + 1 on stands what stands from place i on of the others
sum_shift : (i n : ℕ) (f : ℕ → ℕ) → sum_from (suc i) (suc n) f ≡ sum_from i n (λ j. f (suc j))
sum_shift i n f = ap (λ (m : ℕ). sum_below m (λ k. f (suc i + k))) (suc-sub-suc n i) ∙ sum_cong (n - i) _ _ (λ k l. ap f (suc-add i k))

-- and from place 0 on stand all
sum_all : (n : ℕ) (f : ℕ → ℕ) → sum_from 0 n f ≡ sum_below n f
sum_all n f = ap (λ (m : ℕ). sum_below m (λ k. f (0 + k))) (sub-zero n) ∙ sum_cong n _ _ (λ k l. ap f (zero-add k))

module _ (S : Sheet) (n : ℕ) (d : ℕ → ℕ) where
  rest_own : OwnTasks S (suc n) d → OwnTasks S n (λ i. d (suc i))
  rest_own own = record {
    below = λ i l. own.below (suc i) (omega arith);
    differ = λ i j l m. own.differ (suc i) (suc j) (omega arith) (omega arith);
  }

  rest_loads : (L : ℕ → ℕ) → LoadsAre S (suc n) d L → LoadsAre S n (λ i. d (suc i)) (λ i. L (suc i))
  rest_loads L h i l = ap (λ (x : ℕ). L (suc i) + x) (sym (sum_shift i n (λ j. down (S.change (S.task (d j))))))
      ∙ h (suc i) (omega arith) ∙ ap (λ (x : ℕ). S.end_load + x) (sum_shift i n (λ j. up (S.change (S.task (d j)))))

  rest_point : (p i : ℕ) → point_before S p d (suc i) ≡ point_before S (S.depart (d 0)) (λ j. d (suc j)) i
  rest_point p zero = refl
  rest_point p (suc i) = refl

  rest_charge : (i r : ℕ) → charge_on S (suc n) d (suc i) r ≡ charge_on S n (λ j. d (suc j)) i r
  rest_charge i r = ap (λ (x : ℕ). cond (eqb (S.rule_door r) (d (suc i)) && leb (S.least_count r) x) (S.charge r) 0)
      (sum_shift i n (λ j. S.watched r / 2 ^ S.task (d j) % 2))

  rest_leg : (p i : ℕ) (L : ℕ → ℕ) → leg_sum S p (suc n) d L (suc i) ≡ leg_sum S (S.depart (d 0)) n (λ j. d (suc j)) (λ j. L (suc j)) i
  rest_leg p i L = ap₂ (λ (q x : ℕ). S.distance q (S.arrive (d (suc i))) * L (suc i) + S.work (d (suc i)) + x)
      (rest_point p i) (sum_cong S.rules _ _ (λ r l. rest_charge i r))

-- ---- the route

-- its first leg
first_leg : (S : Sheet) (p n : ℕ) (d L : ℕ → ℕ) → OwnTasks S n d → (0 < n) → LoadsAre S n d L
    → step_cost S (mask_below n (λ i. S.task (d i))) p (d 0) ≡ leg_sum S p n d L 0
unfolding step_cost bit
first_leg S p n d L own some loads = ap₂ (λ (x y : ℕ). S.distance p (S.arrive (d 0)) * x + S.work (d 0) + y)
    (let h : L 0 + taken S n d own ≡ S.end_load + added S n d own = rw (← sum_all n (λ j. down (S.change (S.task (d j)))), ← sum_all n (λ j. up (S.change (S.task (d j))))) (loads 0 some) in
    omega (arith, open_number S n d own (omega arith)))
    (open_charges S n d own (d 0) ∙ sum_cong S.rules _ _ (λ r l.
    ap (λ (x : ℕ). cond (eqb (S.rule_door r) (d 0) && leb (S.least_count r) x) (S.charge r) 0) (sym (sum_all n (λ j. S.watched r / 2 ^ S.task (d j) % 2)))))

pub costs_sum : (S : Sheet) (p n : ℕ) (d L : ℕ → ℕ) → OwnTasks S n d → LoadsAre S n d L → cost S p (map_below n d) ≡ route_sum S p n d L
unfolding map_below
costs_sum S p zero d L own loads = sym (zero-add (S.end_cost p))
costs_sum S p (suc n) d L own loads =
    let e : ℕ → ℕ = λ i. d (suc i) in
    ap (cost S p) (map_first n d)
    ∙ ap₂ ◌+◌
    (ap (λ (ts : List ℕ). step_cost S (mask_of (S.task (d 0) ∷ ts)) p (d 0)) (map_map_below S.task n e)
    ∙ ap (λ (ts : List ℕ). step_cost S (mask_of ts) p (d 0)) (sym (map_first n (λ i. S.task (d i))))
    ∙ first_leg S p (suc n) d L own (omega arith) loads)
    (costs_sum S (S.depart (d 0)) n e (λ i. L (suc i)) (rest_own S n d own) (rest_loads S n d L loads))
    ∙ ap₂ (λ (x y : ℕ). leg_sum S p (suc n) d L 0 + (x + y)) (sym (sum_cong n _ _ (λ i l. rest_leg S n d p i L))) (ap S.end_cost (sym (rest_point S n d p n)))
    ∙ omega (arith, sum_first n (leg_sum S p (suc n) d L))

-- ---- a route whose tasks are an order of a list: they are the sheet's, and differ

pub order_own : (S : Sheet) (n : ℕ) (d : ℕ → ℕ) (K : ℕ) → is_order S.tasks K (map S.task (map_below n d)) ≡ true → OwnTasks S n d
order_own S n d K h = record {
  below = λ i l. rw (← (stands i l).1) (ltb-true _ _ (in_at (λ t. ltb t S.tasks) ts 0 (order_in S.tasks K ts h) i (stands i l).0));
  differ = λ i j l m e. let p = stands i (omega arith) in
      omega (arith, order_once S.tasks K ts h (S.task (d j)), stands_twice (S.task (d j)) ts i j l (p.0, p.1 ∙ e) (stands j m));
}
  where
    ts : List ℕ
    ts = map S.task (map_below n d)

    stands : (i : ℕ) → i < n → StandsIn ts i (S.task (d i))
    stands = image_stands S.task d n

-- ---- a route whose every leg has a load that is not below zero

module _ (S : Sheet) (n : ℕ) (d : ℕ → ℕ) (own : OwnTasks S n d) where
  -- the doors from place i on
  from_own : (i : ℕ) → OwnTasks S (n - i) (λ k. d (i + k))
  from_own i = record {
    below = λ k l. own.below (i + k) (omega arith);
    differ = λ k m l h. own.differ (i + k) (i + m) (omega arith) (omega arith);
  }

  -- the list that is open there
  abbrev open_at : ℕ → ℕ
  open_at i = mask_of (map S.task (drop i (map_below n d)))

  open_is : (i : ℕ) → open_at i ≡ mask_below (n - i) (λ k. S.task (d (i + k)))
  open_is i = ap (λ (ds : List ℕ). mask_of (map S.task ds)) (drop_map_below i n d) ∙ ap mask_of (map_map_below S.task (n - i) (λ k. d (i + k)))

  -- as a number
  pub open_sum : (i : ℕ) → open_at i ≡ sum_from i n (λ j. 2 ^ S.task (d j))
  open_sum i = open_is i ∙ mask_sum (n - i) (λ k. S.task (d (i + k))) (from_own i).differ

  module _ (hold : (i : ℕ) → i < n → T (non_neg (load S (open_at i)))) where
    -- has such loads, and costs such a sum
    loads_are : LoadsAre S n d (λ i. nat_abs (load S (open_at i)))
    loads_are i l = rw (open_is i) (open_number S (n - i) (λ k. d (i + k)) (from_own i) (open_held S (n - i) (λ k. d (i + k)) (from_own i) (rw (open_is i) at (hold i l))))

    pub costs_by_sum : (p : ℕ) → CostsSum S p n d (cost S p (map_below n d))
    costs_by_sum p = record { loads = λ i. nat_abs (load S (open_at i)); loads_are = loads_are; costs = costs_sum S p n d _ own loads_are }
