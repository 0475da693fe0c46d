-- Fields beyond a count mean nothing: two sheets that agree below their counts have the same solutions, costs and costs to go. Assumes nothing.
use Rattle.model.proofs.Basics.{◌≡◌, ap, ap₂, ◌∙◌, Bool, true, cond, not, ◌&&◌, ◌||◌, List, [], ◌∷◌, map, ℕ, zero, suc, ◌+◌, ◌≤◌, ◌<◌, arith}
use Rattle.model.proofs.Basics.{eqb, ltb, ℤ, pos, ◌+ℤ◌, ltb-true}
use Rattle.model.specs.{Sheet.Sheet, all_below, sum_below, lists_below, all_in, keep_if, is_empty, first_least, least, member, full, size, mask_of}
use Rattle.model.specs.{is_order, keeps_pair, keeps_every_pair, pair_within, keeps_pairs_within, is_admissible, is_order_within, load_below}
use Rattle.model.specs.{load, rule_charge, charges, step_cost, cost, in_sheet, is_solution, round_cost, plan_cost, plans, solutions}
use Rattle.model.specs.{cheapest, is_completion, completions, cost_to_go, admissible_orders, no_order, essential, pairs_allow, InRange}
use Rattle.model.proofs.Tools.{Lists.All, Lists.all_kept, Lists.all_imply, Lists.map_cong, Lists.all_in_lem, Tests.and_left}
use Rattle.model.proofs.Tools.{Tests.and_right, Tests.all_cong, Tests.by_test, Folds.sum_cong, Folds.keep_cong, Choices.first_cong}
use Rattle.model.proofs.Theory.Solutions.{SolutionTests, solution}

-- ---- congruences

-- the second test matters only where the first passes
and_cong : (a b c : Bool) → (a ≡ true → b ≡ c) → (a && b) ≡ (a && c)
and_cong a b c h = by_test a (λ w. rw w (h w)) (λ w. rw w)

module _ {A : Type 0} where
  kept_cong : (p q : A → Bool) (xs ys : List A) → ((x : A) → p x ≡ q x) → xs ≡ ys → keep_if p xs ≡ keep_if q ys
  kept_cong p q xs ys h e = keep_cong p q h xs ∙ ap (keep_if q) e

-- ---- agreement

-- the counts and the end load are equal, and so are the fields of every entry below its count
pub record Agree (S R : Sheet) : Type 0 where
  pub end_load : S.end_load ≡ R.end_load
  pub tasks : S.tasks ≡ R.tasks
  pub doors : S.doors ≡ R.doors
  pub starts : S.starts ≡ R.starts
  pub pairs : S.pairs ≡ R.pairs
  pub rules : S.rules ≡ R.rules
  pub points : S.points ≡ R.points
  pub change : (j : ℕ) → j < S.tasks → S.change j ≡ R.change j
  pub task : (d : ℕ) → d < S.doors → S.task d ≡ R.task d
  pub arrive : (d : ℕ) → d < S.doors → S.arrive d ≡ R.arrive d
  pub depart : (d : ℕ) → d < S.doors → S.depart d ≡ R.depart d
  pub work : (d : ℕ) → d < S.doors → S.work d ≡ R.work d
  pub start_point : (s : ℕ) → s < S.starts → S.start_point s ≡ R.start_point s
  pub sender : (i : ℕ) → i < S.pairs → S.sender i ≡ R.sender i
  pub receiver : (i : ℕ) → i < S.pairs → S.receiver i ≡ R.receiver i
  pub rule_door : (i : ℕ) → i < S.rules → S.rule_door i ≡ R.rule_door i
  pub watched : (i : ℕ) → i < S.rules → S.watched i ≡ R.watched i
  pub least_count : (i : ℕ) → i < S.rules → S.least_count i ≡ R.least_count i
  pub charge : (i : ℕ) → i < S.rules → S.charge i ≡ R.charge i
  pub end_cost : (p : ℕ) → p < S.points → S.end_cost p ≡ R.end_cost p
  pub distance : (p q : ℕ) → p < S.points → q < S.points → S.distance p q ≡ R.distance p q

module _ {S R : Sheet} (same : Agree S R) where
  -- ---- loads and charges

  load_below_lem : (K n : ℕ) → n ≤ S.tasks → load_below S K n ≡ load_below R K n
  load_below_lem K zero l = ap pos same.end_load
  load_below_lem K (suc n) l = ap₂ (λ (a c : ℤ). a +ℤ cond (member K n) c (pos 0)) (load_below_lem K n (omega arith)) (same.change n l)

  -- the load while K is open
  pub load_agrees : (K : ℕ) → load S K ≡ load R K
  unfolding load
  load_agrees K = load_below_lem K S.tasks (omega arith) ∙ ap (load_below R K) same.tasks

  rule_agrees : (K i : ℕ) → i < S.rules → rule_charge S K i ≡ rule_charge R K i
  unfolding rule_charge
  rule_agrees K i l = rw (same.tasks, same.least_count i l, same.watched i l, same.charge i l)

  -- the charges at a door while K is open
  pub charges_agree : (K d : ℕ) → charges S K d ≡ charges R K d
  unfolding charges
  charges_agree K d =
      sum_cong S.rules _ _ (λ i l. ap₂ (λ (e c : ℕ). cond (eqb e d) c 0) (same.rule_door i l) (rule_agrees K i l))
      ∙ ap (λ (n : ℕ). sum_below n (λ i. cond (eqb (R.rule_door i) d) (rule_charge R K i) 0)) same.rules

  -- ---- orders and pairs

  every_pair : (f g : ℕ → Bool) → ((i : ℕ) → i < S.pairs → f i ≡ g i) → all_below S.pairs f ≡ all_below R.pairs g
  every_pair f g h = all_cong S.pairs f g h ∙ ap (λ (n : ℕ). all_below n g) same.pairs

  keeps_agrees : (ts : List ℕ) (i : ℕ) → i < S.pairs → keeps_pair S ts i ≡ keeps_pair R ts i
  unfolding keeps_pair
  keeps_agrees ts i l = rw (same.sender i l, same.receiver i l)

  -- an order of the full list that keeps every pair
  pub admissible_agrees : (ts : List ℕ) → is_admissible S ts ≡ is_admissible R ts
  unfolding is_admissible keeps_every_pair
  admissible_agrees ts = ap₂ ◌&&◌ (ap (λ (n : ℕ). is_order n (full n) ts) same.tasks) (every_pair _ _ (keeps_agrees ts))

  -- whether no order of the tasks keeps every pair
  pub no_order_agrees : no_order S ≡ no_order R
  unfolding no_order admissible_orders
  no_order_agrees = ap is_empty (kept_cong _ _ _ _ admissible_agrees (ap (λ (n : ℕ). lists_below n n) same.tasks))

  -- whether the pairs allow a list
  pub pairs_allow_agree : (K : ℕ) → pairs_allow S K ≡ pairs_allow R K
  unfolding pairs_allow essential
  pairs_allow_agree K = ap (λ t. eqb K 0 || not (eqb K 0) && t) (every_pair _ _ (λ i l. rw (same.sender i l, same.receiver i l)))

  -- an order of K that keeps the pairs within K
  pub within_agrees : (K : ℕ) (ts : List ℕ) → is_order_within S K ts ≡ is_order_within R K ts
  unfolding is_order_within keeps_pairs_within pair_within
  within_agrees K ts = ap₂ ◌&&◌ (ap (λ (n : ℕ). is_order n K ts) same.tasks)
      (every_pair _ _ (λ i l. rw (same.sender i l, same.receiver i l, keeps_agrees ts i l)))

  -- ---- solutions and completions

  in_sheet_agrees : (ds : List ℕ) → in_sheet S ds ≡ in_sheet R ds
  unfolding in_sheet
  in_sheet_agrees ds = ap (λ (n : ℕ). all_in (λ d. ltb d n) ds) same.doors

  tasks_agree : (ds : List ℕ) → in_sheet S ds ≡ true → map S.task ds ≡ map R.task ds
  unfolding in_sheet
  tasks_agree ds h = map_cong S.task R.task ds (all_imply _ _ (λ d e. same.task d (ltb-true d S.doors e)) ds (all_in_lem _ ds h))

  -- a solution
  pub solution_agrees : (s : ℕ) (ds : List ℕ) → is_solution S s ds ≡ is_solution R s ds
  unfolding is_solution
  solution_agrees s ds =
      and_cong (ltb s S.starts && in_sheet S ds) _ _
      (λ h. admissible_agrees _ ∙ ap (is_admissible R) (tasks_agree ds (and_right (ltb s S.starts) (in_sheet S ds) h)))
      ∙ ap₂ (λ (n : ℕ) (t : Bool). ltb s n && t && is_admissible R (map R.task ds)) same.starts (in_sheet_agrees ds)

  plans_agree : plans S ≡ plans R
  unfolding plans
  plans_agree = rw (same.starts, same.doors, same.tasks)

  -- the solutions, in their order
  pub solutions_agree : solutions S ≡ solutions R
  unfolding solutions
  solutions_agree = kept_cong _ _ _ _ (λ x. solution_agrees x.start x.doors) plans_agree

  -- a completion of K
  pub completion_agrees : (K : ℕ) (ds : List ℕ) → is_completion S K ds ≡ is_completion R K ds
  unfolding is_completion
  completion_agrees K ds =
      and_cong (in_sheet S ds) _ _ (λ h. within_agrees K _ ∙ ap (is_order_within R K) (tasks_agree ds h))
      ∙ ap (λ t. t && is_order_within R K (map R.task ds)) (in_sheet_agrees ds)

  -- the completions of K, in their order
  pub completions_agree : (K : ℕ) → completions S K ≡ completions R K
  unfolding completions
  completions_agree K = kept_cong _ _ _ _ (completion_agrees K) (ap₂ (λ (m n : ℕ). lists_below m (size n K)) same.doors same.tasks)

  -- ---- costs, of sheets whose numbers are in range

  module _ (range : InRange S) where
    -- one step
    pub step_agrees : (K p d : ℕ) → p < S.points → d < S.doors → step_cost S K p d ≡ step_cost R K p d
    unfolding step_cost
    step_agrees K p d lp ld = rw (same.distance p (S.arrive d) lp (range.arrive d ld), same.arrive d ld, same.work d ld, load_agrees K, charges_agree K d)

    -- from a point through the doors to the end
    pub cost_agrees : (p : ℕ) (ds : List ℕ) → p < S.points → in_sheet S ds ≡ true → cost S p ds ≡ cost R p ds
    unfolding in_sheet
    cost_agrees p [] lp h = same.end_cost p lp
    cost_agrees p (d ∷ ds) lp h =
        let ld : d < S.doors = ltb-true d S.doors (and_left (ltb d S.doors) (in_sheet S ds) h) in
        ap₂ ◌+◌
        (step_agrees _ p d lp ld ∙ ap (λ (ts : List ℕ). step_cost R (mask_of ts) p d) (tasks_agree (d ∷ ds) h))
        (cost_agrees (S.depart d) ds (range.depart d ld) (and_right (ltb d S.doors) (in_sheet S ds) h) ∙ ap (λ (q : ℕ). cost R q ds) (same.depart d ld))

    -- the whole round
    pub round_agrees : (s : ℕ) (ds : List ℕ) → is_solution S s ds ≡ true → round_cost S s ds ≡ round_cost R s ds
    unfolding round_cost
    round_agrees s ds h =
        let x : SolutionTests S s ds = solution S s ds h in
        cost_agrees (S.start_point s) ds (range.start s x.start) x.doors ∙ ap (λ (p : ℕ). cost R p ds) (same.start_point s x.start)

    -- the first of the solutions of least cost
    pub cheapest_agrees : cheapest S ≡ cheapest R
    unfolding cheapest solutions plan_cost
    cheapest_agrees =
        first_cong (plan_cost S) (plan_cost R) (solutions S) (all_kept _ _ (λ x. round_agrees x.start x.doors) (plans S))
        ∙ ap (first_least (plan_cost R)) solutions_agree

    -- the cost to go
    pub to_go_agrees : (K p : ℕ) → p < S.points → cost_to_go S K p ≡ cost_to_go R K p
    unfolding cost_to_go completions is_completion
    to_go_agrees K p l =
        let kept : All (λ ds. cost S p ds ≡ cost R p ds) (completions S K) = all_kept _ (is_completion S K)
        (λ ds h. cost_agrees p ds l (and_left (in_sheet S ds) _ h)) (lists_below S.doors (size S.tasks K)) in
        ap least (map_cong (cost S p) (cost R p) (completions S K) kept ∙ ap (map (cost R p)) (completions_agree K))
