-- Whatever is printed fits the room that the print program has for it. Assumes nothing.
use Rattle.model.proofs.Basics.{◌≡◌, refl, sym, ◌∙◌, ◌⊎◌, ⊎_elim, true, List, [], ◌∷◌, some, ℕ, ◌*◌, ◌^◌, ◌≤◌, ◌<◌, arith, length}
use Rattle.model.proofs.Basics.{length-append, are_bytes, pow_mono}
use Rattle.model.specs.{without, full, Plan, plan_cost, cheapest, is_completion, refused, accepted, decode, max_plan_doors, plan_length, plan_for}
use Rattle.model.specs.{refusal_line, step_lines, plan_lines, answer_lines, printed_with, CountsWithin, InRange}
use Rattle.model.specs.Sheet.{Sheet}
use Rattle.model.specs.Answer.{Answer}
use Rattle.model.proofs.TaskLists.Masks.{full_lt, without_le}
use Rattle.model.proofs.Theory.Completions.{open_is}
use Rattle.model.proofs.Theory.Solutions.{solution, solution_length, solution_fits}
use Rattle.model.proofs.Theory.Cheapest.{cheapest_solution}
use Rattle.model.proofs.Theory.Bounds.{round_small}
use Rattle.model.proofs.Theory.Starts.{solution_completes}
use Rattle.model.proofs.Calls.Reading.{Reads, counts_read}
use Rattle.model.proofs.Calls.Planning.{accepted_plan, plan_refusals, plannable}
use Rattle.lines.specs.Lines.{max_step, max_text}
use Rattle.lines.proofs.Laying.{few, long_step}
use Rattle.text.proofs.Stepping.{first_door, goes_on}

-- the lines of the steps, with K open before the first
module _ (S : Sheet) (R : InRange S) (W : CountsWithin S) where
  long_steps : (ds : List ℕ) (K : ℕ) → K < 2 ^ S.tasks → is_completion S K ds ≡ true → length (step_lines S ds) ≤ max_step * length ds
  long_steps [] K l e = omega arith
  long_steps (d ∷ ds) K l e =
      let task = S.task d in
      let tasks : S.tasks ≤ 64 = omega (arith, W.tasks) in
      let step = long_step d task K (omega (arith, first_door S R d K ds e, W.doors))
      (omega (arith, R.task d (first_door S R d K ds e), W.tasks)) (omega (arith, pow_mono tasks)) in
      let rest = long_steps ds (without K task) (omega (arith, without_le K task)) (goes_on S R d K ds e) in
      rw (length-append, open_is S R (d ∷ ds) K l e) (omega (arith, rest, step))

-- a plan that is answered
long_plan : (b : List ℕ) → are_bytes b ≡ true → Reads b → (x : Plan) → cheapest (decode b) ≡ some x
    → length (plan_lines (decode b) x) ≤ max_text
unfolding plan_lines plan_cost
long_plan b bytes h x best =
    let S = decode b in
    let W = counts_read b h in
    let G = plannable b h in
    let is = cheapest_solution S x best in
    let sol = solution S x.start x.doors is in
    let completes = sym (solution_completes S G x.start x.doors sol.start) ∙ is in
    let steps = long_steps S G.ranges W x.doors (full S.tasks) (full_lt S.tasks) completes in
    let cost = few (plan_cost S x) (omega (arith, round_small b bytes W x.start x.doors is)) in
    let start = few x.start (omega (arith, (solution_fits S W x.start x.doors sol).0)) in
    simp length-append (omega (arith, steps, solution_length S x.start x.doors sol, W.tasks, cost, start))

-- all that is printed for any sheet, with any number of cells
pub fits : (b : List ℕ) → are_bytes b ≡ true → (cells : ℕ) → length (printed_with cells b) ≤ max_text
unfolding printed_with refusal_line
fits b bytes cells = go (plan_for b cells (plan_length max_plan_doors)) refl
  where
    go : (a : Answer Plan) → plan_for b cells (plan_length max_plan_doors) ≡ a → length (answer_lines (decode b) a) ≤ max_text
    go (refused r) e =
        let h : r < 2 ^ 64 = ⊎_elim
        (λ (s : (10 ≤ r) × (r ≤ 17)). omega arith)
        (λ (s : (r ≡ 20) ⊎ (r ≡ 21)). ⊎_elim (λ (u : r ≡ 20). omega arith) (λ (u : r ≡ 21). omega arith) s)
        (plan_refusals b cells (plan_length max_plan_doors) r e) in
        simp length-append (omega (arith, few r h))
    go (accepted x) e = let p = accepted_plan b cells (plan_length max_plan_doors) x e in long_plan b bytes p.0 x p.1
