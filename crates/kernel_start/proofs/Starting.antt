-- The first of the starts of least cost, start by start; and where the row shows the costs to go with the full list open, its start and cost are those of the
-- cheapest plan. Assumes nothing.
use Rattle.model.proofs.Basics.{◌≡◌, refl, sym, ap, ◌∙◌, true, List, [], some, ℕ, ◌+◌, ◌≤◌, ◌<◌, add-one, arith, lt-ltb, le-ltb, length, get_or, take, length-take-le, get_or-take}
use Rattle.model.specs.{passing_below, cheaper, first_least, full, plan_cost, cheapest, completions, cost_to_go, cheapest_completion, cost, Plannable, max_starts}
use Rattle.model.specs.Sheet.{Sheet}
use Rattle.model.proofs.Tools.Lists.{all_flat}
use Rattle.model.proofs.Tools.Choices.{first_some, first_cong}
use Rattle.model.proofs.Tools.Scans.{FirstOf, scan, scan_take}
use Rattle.model.proofs.Theory.Driving.{some_completion}
use Rattle.model.proofs.Theory.Starts.{cheapest_from}
use mathlib.Core.Option
use Rattle.kernel_sheet.specs.Prepared.{StartsOf}
use Rattle.kernel_start.specs.Choosing.{start_cost, first_start, Startable}

-- ---- the least so far

-- of the starts below i, best is the first of least cost, which is `least`
pub record BestBelow (f : ℕ → ℕ) (i best least : ℕ) : Type 0 where
  pub first : first_least f (passing_below i (λ s. true)) ≡ some best
  pub cost : least ≡ f best

pub best_one : (f : ℕ → ℕ) {c : ℕ} → c ≡ f 0 → BestBelow f 1 0 c
best_one f e = record { first = refl; cost = e }

-- it is one of them
pub best_below : {f : ℕ → ℕ} {i best least : ℕ} → BestBelow f i best least → best < i
best_below {f} {i} {best} h = let x : FirstOf f (λ s. true) i best = rw h.first at (scan f (λ s. true) i) in x.below

module _ {f : ℕ → ℕ} {i best least c : ℕ} (h : BestBelow f i best least) (e : c ≡ f i) where
  next : first_least f (passing_below (i + 1) (λ s. true)) ≡ cheaper f (some best) (some i)
  next = rw add-one (scan_take f (λ s. true) i refl ∙ ap (λ o. cheaper f o (some i)) h.first)

  pub best_next : c < least → BestBelow f (i + 1) i c
  best_next l = record { first = next ∙ rw (← e, ← h.cost, lt-ltb c least l); cost = e }

  pub best_same : least ≤ c → BestBelow f (i + 1) best least
  best_same l = record { first = next ∙ rw (← e, ← h.cost, le-ltb c least l); cost = h.cost }

-- what the row shows at the point of start i, by the arrays
abbrev pub cost_at : List ℕ → List ℕ → ℕ → ℕ
cost_at starts row i = get_or row (get_or starts i 0) 0

module _ {S : Sheet} {starts row : List ℕ} (h : Startable S starts row) where
  pub one_start : 1 ≤ length starts
  one_start = omega (arith, h.one_start, h.count)

  -- its cell is there
  pub start_in_lem : (i : ℕ) → i < length starts → (i < max_starts) × (get_or starts i 0 < length row)
  start_in_lem i l = let m : i < S.starts = omega (arith, h.count) in (omega (arith, h.few), rw (h.points i m) (h.held i m))

  -- the best of all is the first of the sheet's starts
  pub best_of_all : {i best least : ℕ} → BestBelow (cost_at starts row) i best least → i ≡ length starts → some best ≡ first_start S row
  unfolding first_start start_cost
  best_of_all b e = sym b.first ∙ rw (e, h.count)
      (first_cong (cost_at starts row) _ (passing_below S.starts (λ s. true)) (all_flat _ S.starts _ (λ s l. (ap (λ (p : ℕ). get_or row p 0) (h.points s l), tt))))

-- what is chosen is one of the starts
pub chosen_below : (S : Sheet) (row : List ℕ) {s : ℕ} → some s ≡ first_start S row → s < S.starts
unfolding first_start
chosen_below S row {s} e =
    let x : FirstOf (start_cost S row) (λ s. true) S.starts s = rw (sym e) at (scan (start_cost S row) (λ s. true) S.starts) in x.below

-- ---- the row of the full list

-- what the whole round costs from start s
abbrev pub round_from : Sheet → ℕ → ℕ
round_from S s = cost_to_go S (full S.tasks) (S.start_point s)

-- the row shows that, and s is what was chosen from it
module _ (S : Sheet) (row : List ℕ) (shows : (s : ℕ) → s < S.starts → get_or row (S.start_point s) 0 ≡ round_from S s) {s : ℕ}
    (chosen : some s ≡ first_start S row) where
  pub first_of_round : first_least (round_from S) (passing_below S.starts (λ s. true)) ≡ some s
  unfolding first_start start_cost
  first_of_round = sym (first_cong (start_cost S row) _ (passing_below S.starts (λ s. true)) (all_flat _ S.starts _ (λ s l. (shows s l, tt)))) ∙ sym chosen

  -- and the cheapest plan starts there, and costs what the row shows there
  abbrev pub route_there : List ℕ
  route_there = Option.get_or (cheapest_completion S (full S.tasks) (S.start_point s)) []

  pub cheapest_there : Plannable S
      → (cheapest S ≡ some (record { start = s; doors = route_there })) × (plan_cost S (record { start = s; doors = route_there }) ≡ round_from S s)
  unfolding cheapest_completion
  cheapest_there G =
      let r = first_some (cost S (S.start_point s)) (completions S (full S.tasks)) (some_completion S G (full S.tasks)) in
      cheapest_from S G s route_there first_of_round (r.1 ∙ ap (λ o. some (Option.get_or o [])) (sym r.1))

-- ---- the starts of an array

-- its first n, where they are the sheet's
pub taken : (S : Sheet) (starts : List ℕ) (n : ℕ) → StartsOf S starts → n ≡ S.starts → S.starts ≤ length starts
    → StartsOf S (take n starts) × (length (take n starts) ≡ S.starts)
taken S starts n h e l =
    (λ i k. let m : i < n = omega (arith, e, k) in get_or-take n starts i 0 m ∙ h i k, length-take-le n starts (omega (arith, e, l)) ∙ e)
