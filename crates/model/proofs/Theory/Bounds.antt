-- No sum is above its limit: each step costs at most so much, and each access rule is charged at most once (Charges). Assumes nothing.
use Rattle.model.proofs.Basics.{◌≡◌, ap, true, false, cond, ◌&&◌, List, [], ◌∷◌, map, ℕ, ◌+◌, ◌-◌, ◌*◌, ◌^◌, ◌≤◌, ◌<◌, le_refl}
use Rattle.model.proofs.Basics.{lt_of_le_of_lt, mul-le-mul_right, le_trans, mul-le-mul, arith, eqb, ltb, leb, lit<, length}
use Rattle.model.proofs.Basics.{length-map, are_bytes, nat_abs, eqb-true, eq-eqb}
use Rattle.model.specs.{Sheet.Sheet, lists_below, least, count_of, full, size, mask_of, is_order, is_admissible, is_order_within, load}
use Rattle.model.specs.{rule_charge, cost, mask_bits, legs, charges_on, in_sheet, is_solution, round_cost, is_completion, completions}
use Rattle.model.specs.{cost_to_go, max_tasks, max_rules, decode, CountsWithin}
use Rattle.model.proofs.Tools.{Tests.and_left, Tests.and_right, Tests.by_test, Folds.sum_le, Lists.All, Lists.all_kept}
use Rattle.model.proofs.TaskLists.{Masks.size_le, Counting.order_length, Counting.order_once}
use Rattle.model.proofs.Theory.{Loads.load_magnitude, Charges.cost_parts, Charges.charged_once}
use Rattle.model.proofs.Bytes.Widths.{Widths, widths}

-- ---- tasks in an order, doors on a route

count_map : (f : ℕ → ℕ) (d : ℕ) (ds : List ℕ) → count_of d ds ≤ count_of (f d) (map f ds)
count_map f d [] = omega arith
count_map f d (x ∷ xs) = by_test (eqb x d)
    (λ w. rw (w, eq-eqb (f x) (f d) (ap f (eqb-true x d w))) (omega (arith, count_map f d xs)))
    (λ w. rw w (omega (arith, count_map f d xs)))

-- tasks done once are doors used once
pub doors_once : (S : Sheet) (ds : List ℕ) → ((t : ℕ) → count_of t (map S.task ds) ≤ 1) → (d : ℕ) → count_of d ds ≤ 1
doors_once S ds h d = le_trans (count_map S.task d ds) (h (S.task d))

-- ---- the bound, over any limits

-- the largest values: of the numbers of tasks and rules, of a load up or down, of what a rule costs, and of the fields that a cost is made of
pub record Limits : Type 0 where
  pub tasks : ℕ
  pub rules : ℕ
  pub load : ℕ
  pub distance : ℕ
  pub work : ℕ
  pub charge : ℕ
  pub end_cost : ℕ

-- a step for each task, each rule once, and the end
unfoldable pub sum_limit : Limits → ℕ
sum_limit L = L.tasks * (L.distance * L.load + L.work) + L.rules * L.charge + L.end_cost

pub record WithinLimits (L : Limits) (S : Sheet) : Type 0 where
  pub tasks : S.tasks ≤ L.tasks
  pub rules : S.rules ≤ L.rules
  pub load : (K : ℕ) → nat_abs (load S K) ≤ L.load
  pub distance : (p q : ℕ) → S.distance p q ≤ L.distance
  pub work : (d : ℕ) → S.work d ≤ L.work
  pub charge : (K i : ℕ) → rule_charge S K i ≤ L.charge
  pub end_cost : (p : ℕ) → S.end_cost p ≤ L.end_cost

least_le : {A : Type 0} (f : A → ℕ) (c : ℕ) (xs : List A) → All (λ x. f x ≤ c) xs → least (map f xs) ≤ c
least_le f c [] h = omega arith
least_le f c (x ∷ []) h = h.0
least_le f c (x ∷ y ∷ ys) h = omega (arith, h.0)

module _ (L : Limits) (S : Sheet) (W : WithinLimits L S) where
  -- with c the most that a step costs but for its charges
  legs_le : (c : ℕ) → L.distance * L.load + L.work ≤ c → (p : ℕ) (ds : List ℕ) → legs S p ds ≤ length ds * c + L.end_cost
  legs_le c h p [] = omega (arith, W.end_cost p)
  legs_le c h p (d ∷ ds) =
      let far = mul-le-mul (W.distance p (S.arrive d)) (W.load (mask_of (map S.task (d ∷ ds)))) in
      omega (arith, far, W.work d, legs_le c h (S.depart d) ds)

  -- a route that uses no door twice is charged at most once for each rule
  pub charged_le : (ds : List ℕ) → ((d : ℕ) → count_of d ds ≤ 1) → charges_on S ds ≤ S.rules * L.charge
  charged_le ds h = le_trans (charged_once S (λ i. L.charge) W.charge ds h) (sum_le S.rules L.charge (λ i. L.charge) (λ i l. le_refl L.charge))

  order_bound : (K p : ℕ) (ds : List ℕ) → is_order S.tasks K (map S.task ds) ≡ true → cost S p ds ≤ sum_limit L
  unfolding sum_limit
  order_bound K p ds h =
      let c : ℕ = L.distance * L.load + L.work in
      let n : length ds ≤ L.tasks = omega (arith, length-map ds S.task, order_length S.tasks K (map S.task ds) h, size_le S.tasks K, W.tasks) in
      omega (
        arith,
        cost_parts S p ds,
        legs_le c (le_refl c) p ds,
        mul-le-mul_right c n,
        charged_le ds (doors_once S ds (order_once S.tasks K (map S.task ds) h)),
        mul-le-mul_right L.charge W.rules,
      )

  -- no completion costs more than the limit
  pub cost_bound : (K p : ℕ) (ds : List ℕ) → is_completion S K ds ≡ true → cost S p ds ≤ sum_limit L
  unfolding is_completion is_order_within
  cost_bound K p ds h = order_bound K p ds
      (and_left (is_order S.tasks K (map S.task ds)) _ (and_right (in_sheet S ds) _ h))

  -- nor does a solution
  pub round_bound : (s : ℕ) (ds : List ℕ) → is_solution S s ds ≡ true → round_cost S s ds ≤ sum_limit L
  unfolding is_solution is_admissible round_cost
  round_bound s ds h = order_bound (full S.tasks) (S.start_point s) ds
      (and_left (is_order S.tasks (full S.tasks) (map S.task ds)) _ (and_right (ltb s S.starts && in_sheet S ds) _ h))

  -- nor is a cost to go above it, whether or not there is a completion
  pub to_go_bound : (K p : ℕ) → cost_to_go S K p ≤ sum_limit L
  unfolding cost_to_go completions
  to_go_bound K p = least_le (cost S p) (sum_limit L) (completions S K)
      (all_kept _ (is_completion S K) (cost_bound K p) (lists_below S.doors (size S.tasks K)))

-- ---- the fields of kind 1

-- the most that the van comes home with: 16 bits
abbrev pub max_end_load : ℕ
max_end_load = 2 ^ 16 - 1

-- the most that a task adds to the load: 16 bits in two's complement
abbrev pub max_change : ℕ
max_change = 2 ^ 15 - 1

-- the longest distance: 16 bits
abbrev pub max_distance : ℕ
max_distance = 2 ^ 16 - 1

-- the most work at a door: 32 bits
abbrev pub max_work : ℕ
max_work = 2 ^ 32 - 1

-- the largest charge of a rule: 32 bits
abbrev pub max_charge : ℕ
max_charge = 2 ^ 32 - 1

-- the largest cost at the end: 32 bits
abbrev pub max_end_cost : ℕ
max_end_cost = 2 ^ 32 - 1

-- with so many tasks and rules at the most; no load is more up than this, nor, of fewer than 2 ^ 16 tasks, more down
unfoldable pub field_limits : ℕ → ℕ → Limits
field_limits tasks rules = record {
  tasks = tasks;
  rules = rules;
  load = max_end_load + tasks * max_change;
  distance = max_distance;
  work = max_work;
  charge = max_charge;
  end_cost = max_end_cost;
}

-- the largest numbers of tasks and rules
unfoldable pub kind1_limits : Limits
kind1_limits = field_limits max_tasks max_rules

-- as many tasks as a mask has bits
unfoldable pub mask_limits : Limits
mask_limits = field_limits mask_bits max_rules

-- no sum needs more than 40 bits
pub kind1_sums : sum_limit kind1_limits < 2 ^ 40
unfolding sum_limit kind1_limits field_limits
kind1_sums = lit< tt

-- nor, with as many tasks as a mask has bits, more than the code's 64
pub mask_sums : sum_limit mask_limits < 2 ^ 64
unfolding sum_limit mask_limits field_limits
mask_sums = lit< tt

-- which holds with wider fields too: distances of 32 bits, and a charge of 32 bits for each watched task
pub wide_sums : sum_limit (record {
  tasks = mask_bits;
  rules = max_rules;
  load = (field_limits mask_bits max_rules).load;
  distance = 2 ^ 32 - 1;
  work = 2 ^ 32 - 1;
  charge = mask_bits * (2 ^ 32 - 1);
  end_cost = 2 ^ 32 - 1;
}) < 2 ^ 64
unfolding sum_limit field_limits
wide_sums = lit< tt

-- ---- sheets of kind 1

-- a rule costs its charge or nothing
pub rule_charge_le : (S : Sheet) (K i : ℕ) → rule_charge S K i ≤ S.charge i
unfolding rule_charge
rule_charge_le S K i = elim (leb (S.least_count i) _) as (λ t. cond t (S.charge i) 0 ≤ S.charge i) [ true ↦ le_refl (S.charge i) | false ↦ omega arith ]

pub rule_charge_small : (b : List ℕ) → are_bytes b ≡ true → (K i : ℕ) → rule_charge (decode b) K i ≤ max_charge
rule_charge_small b h K i = omega (arith, rule_charge_le (decode b) K i, (widths b h).charge i)

-- a sheet with no more tasks and rules than that is within these limits
fields_within : (b : List ℕ) → are_bytes b ≡ true → (tasks rules : ℕ) → (decode b).tasks ≤ tasks → (decode b).rules ≤ rules → tasks < 2 ^ 16
    → WithinLimits (field_limits tasks rules) (decode b)
unfolding field_limits
fields_within b h tasks rules n r l =
    let w : Widths (decode b) = widths b h in
    record {
      tasks = n;
      rules = r;
      load = λ K. load_magnitude (decode b) K max_change (2 ^ 15) (field_limits tasks rules).load
          (λ j l. omega (arith, w.change_up j)) (λ j l. w.change_down j) (omega arith) (omega arith);
      distance = λ p q. omega (arith, w.distance p q);
      work = λ d. omega (arith, w.work d);
      charge = rule_charge_small b h;
      end_cost = λ p. omega (arith, w.end_cost p);
    }

-- a sheet that 12 does not refuse is within the limits of kind 1
pub kind1_within : (b : List ℕ) → are_bytes b ≡ true → CountsWithin (decode b) → WithinLimits kind1_limits (decode b)
unfolding kind1_limits
kind1_within b h n = fields_within b h max_tasks max_rules n.tasks n.rules (lit< tt)

-- one of no more tasks than a mask has bits is within those of a mask
pub mask_within : (b : List ℕ) → are_bytes b ≡ true → (decode b).tasks ≤ mask_bits → (decode b).rules ≤ max_rules → WithinLimits mask_limits (decode b)
unfolding mask_limits
mask_within b h n r = fields_within b h mask_bits max_rules n r (lit< tt)

-- so a solution's cost is below 2 ^ 64
pub route_fits : (b : List ℕ) → are_bytes b ≡ true → (decode b).tasks ≤ mask_bits → (decode b).rules ≤ max_rules
    → (s : ℕ) (ds : List ℕ) → is_solution (decode b) s ds ≡ true → round_cost (decode b) s ds < 2 ^ 64
route_fits b h n r s ds e = lt_of_le_of_lt (round_bound mask_limits (decode b) (mask_within b h n r) s ds e) mask_sums

-- of a sheet that 12 does not refuse, every completion's cost from every point, every solution's cost and every cost to go is below 2 ^ 40
module _ (b : List ℕ) (h : are_bytes b ≡ true) (n : CountsWithin (decode b)) where
  pub cost_small : (K p : ℕ) (ds : List ℕ) → is_completion (decode b) K ds ≡ true → cost (decode b) p ds < 2 ^ 40
  cost_small K p ds c = lt_of_le_of_lt (cost_bound kind1_limits (decode b) (kind1_within b h n) K p ds c) kind1_sums

  pub round_small : (s : ℕ) (ds : List ℕ) → is_solution (decode b) s ds ≡ true → round_cost (decode b) s ds < 2 ^ 40
  round_small s ds c = lt_of_le_of_lt (round_bound kind1_limits (decode b) (kind1_within b h n) s ds c) kind1_sums

  pub to_go_small : (K p : ℕ) → cost_to_go (decode b) K p < 2 ^ 40
  to_go_small K p = lt_of_le_of_lt (to_go_bound kind1_limits (decode b) (kind1_within b h n) K p) kind1_sums
