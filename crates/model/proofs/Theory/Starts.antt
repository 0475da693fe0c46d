-- The cheapest plan of a sheet that can be planned: the first start of least cost to go, and the cheapest completion from there. Assumes nothing.
use Rattle.model.proofs.Basics.{◌≡◌, sym, ap, ◌∙◌, subst₂, fun_ext, true, List, [], map, some, ℕ, ◌≤◌, ◌<◌, lt-ltb}
use Rattle.model.specs.{Sheet.Sheet, flat_map_below, passing_below, lists_below, keep_if, first_least, full, Plan, is_solution, round_cost}
use Rattle.model.specs.{plan_cost, plans, solutions, cheapest, is_completion, completions, cost_to_go, cheapest_completion, Plannable}
use Rattle.model.proofs.Tools.Folds.{flat_cong, keep_flat, keep_cong, keep_map}
use Rattle.model.proofs.TaskLists.Masks.{full_lt, size_full}
use Rattle.model.proofs.Theory.Completions.{Position, driving, completes_is, completions_are, cost_is, to_go_is, cheapest_is}
use Rattle.model.proofs.Theory.Completions.{standing}
use Rattle.model.proofs.Theory.Process.{Process, completes, runs, run_cost, to_go, best_run}
use Rattle.model.proofs.Theory.{ProcessStarts.started, ProcessStarts.started_from, Driving.some_completion, Existence.admissible_is}
use Rattle.model.proofs.Theory.ProcessStarts as process

module _ (S : Sheet) (G : Plannable S) where
  -- a solution from a start of the sheet is a completion of the full list
  pub solution_completes : (s : ℕ) (ds : List ℕ) → s < S.starts → is_solution S s ds ≡ is_completion S (full S.tasks) ds
  unfolding is_solution is_completion
  solution_completes s ds l = rw (lt-ltb s S.starts l, admissible_is S G.ranges (map S.task ds))

  pub solutions_by_start : solutions S ≡ flat_map_below S.starts
      (λ s. map (λ (ds : List ℕ). record { start = s; doors = ds }) (completions S (full S.tasks)))
  unfolding solutions plans completions
  solutions_by_start = keep_flat _ S.starts _ ∙ flat_cong S.starts _ _ (λ s l.
      keep_map _ (λ (ds : List ℕ). record { start = s; doors = ds }) (lists_below S.doors S.tasks)
      ∙ ap (map (λ (ds : List ℕ). record { start = s; doors = ds }))
      (keep_cong _ (is_completion S (full S.tasks)) (λ ds. solution_completes s ds l) (lists_below S.doors S.tasks)
      ∙ ap (λ (n : ℕ). keep_if (is_completion S (full S.tasks)) (lists_below S.doors n)) (sym (size_full S.tasks))))

  abbrev D : Process
  D = driving S G.ranges

  -- driving from each start with everything open, and the plan that a start and doors are
  abbrev from : ℕ → Position
  from s = standing (full S.tasks) (S.start_point s)

  abbrev plan : ℕ → List ℕ → Plan
  plan s ds = record { start = s; doors = ds }

  live : (s : ℕ) → s < S.starts → runs D (from s) ≡ [] → ⊥
  live s l h = some_completion S G (full S.tasks) (completions_are S G.ranges (full S.tasks) (S.start_point s) ∙ h)

  costs : (s : ℕ) → s < S.starts → (ds : List ℕ) → completes D (from s) ds ≡ true → plan_cost S (plan s ds) ≡ run_cost D (from s) ds
  unfolding plan_cost round_cost
  costs s l ds h = cost_is S G.ranges ds (full S.tasks) (S.start_point s) (full_lt S.tasks)
      (sym (completes_is S G.ranges ds (full S.tasks) (S.start_point s)) ∙ h)

  cheapest_started : cheapest S ≡ first_least (plan_cost S) (started D S.starts from plan)
  unfolding cheapest
  cheapest_started = ap (first_least (plan_cost S)) (solutions_by_start
      ∙ flat_cong S.starts _ _ (λ s l. ap (map (plan s)) (completions_are S G.ranges (full S.tasks) (S.start_point s))))

  -- each start's cost to go
  to_go_from : (s : ℕ) → to_go D (from s) ≡ cost_to_go S (full S.tasks) (S.start_point s)
  to_go_from s = sym (to_go_is S G.ranges (full S.tasks) (S.start_point s) (full_lt S.tasks))

  cheapest_there : (s : ℕ) → cheapest_completion S (full S.tasks) (S.start_point s) ≡ best_run D (from s)
  cheapest_there s = cheapest_is S G.ranges (full S.tasks) (S.start_point s) (full_lt S.tasks)

  -- the cheapest plan: no start has a lesser cost to go, none before it the same, and its doors are the cheapest completion from there
  pub record FirstStart : Type 0 where
    pub start : ℕ
    pub route : List ℕ
    pub stands_in_sheet : start < S.starts
    pub none_less : (s : ℕ) → s < S.starts → cost_to_go S (full S.tasks) (S.start_point start) ≤ cost_to_go S (full S.tasks) (S.start_point s)
    pub none_before : (s : ℕ) → s < start → cost_to_go S (full S.tasks) (S.start_point start) < cost_to_go S (full S.tasks) (S.start_point s)
    pub from_there : cheapest_completion S (full S.tasks) (S.start_point start) ≡ some route
    pub is_cheapest : cheapest S ≡ some (record { start = start; doors = route })

  pub first_start_lem : 0 < S.starts → FirstStart
  first_start_lem some-start =
      let f : process.FirstStart D S.starts from live plan (plan_cost S) costs
      = process.first_start_lem D S.starts from live plan (plan_cost S) costs some-start in
      record {
        start = f.start;
        route = f.run;
        stands_in_sheet = f.below;
        none_less = λ s l. subst₂ (λ (x y : ℕ). x ≤ y) (to_go_from f.start) (to_go_from s) (f.none_less s l);
        none_before = λ s l. subst₂ (λ (x y : ℕ). x < y) (to_go_from f.start) (to_go_from s) (f.none_before s l);
        from_there = cheapest_there f.start ∙ f.from_there;
        is_cheapest = cheapest_started ∙ f.is_first_lem;
      }

  -- the cheapest plan is that of the first start of least cost to go, through the cheapest completion from there, and costs as much
  pub cheapest_from : (s : ℕ) (ds : List ℕ) → first_least (λ s. cost_to_go S (full S.tasks) (S.start_point s)) (passing_below S.starts (λ s. true)) ≡ some s
      → cheapest_completion S (full S.tasks) (S.start_point s) ≡ some ds
      → (cheapest S ≡ some (plan s ds)) × (plan_cost S (plan s ds) ≡ cost_to_go S (full S.tasks) (S.start_point s))
  cheapest_from s ds e q =
      let r = started_from D S.starts from live plan (plan_cost S) costs s ds
      (ap (λ (f : ℕ → ℕ). first_least f (passing_below S.starts (λ s. true))) (fun_ext to_go_from) ∙ e) (sym (cheapest_there s) ∙ q) in
      (cheapest_started ∙ r.0, r.1 ∙ to_go_from s)
