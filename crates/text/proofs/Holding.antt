-- The plan that bytes hold: in hand it has its doors and its cost, and the lines of its steps stand behind those of cost and start. Assumes nothing.
use Rattle.model.proofs.Basics.{◌≡◌, sym, ap, ◌∙◌, List, ◌++◌, ℕ, ◌+◌, ◌*◌, ◌^◌, ◌≤◌, ◌<◌, arith, length, take, length-take-le}
use Rattle.model.specs.{plan_cost, decode, max_plan_doors, start_in, doors_in, cost_in, in_hand, step_lines, plan_lines}
use Rattle.model.specs.PlanInHand.{PlanInHand}
use Rattle.model.proofs.Bytes.InHand.{read_holds, in_hand_doors, in_hand_cost}
use Rattle.lines.specs.Lines.{head_lines, max_step, max_text, Laid}
use Rattle.lines.proofs.Laying.{behind, laid_on, laid_as, head_is, long_head}
use Rattle.text.specs.Steps.{Steps, plan_in, Printable}

-- the plan x of n tasks is what the bytes q hold for the sheet b, and can be printed
pub record Held (b q : List ℕ) (n : ℕ) (x : PlanInHand) : Type 0 where
  pub printable : Printable b q
  pub tasks : n ≡ (decode b).tasks
  pub hand : x ≡ in_hand n q

module _ {b q : List ℕ} {n : ℕ} {x : PlanInHand} (h : Held b q n x) where
  pub few : n ≤ max_plan_doors
  few = rw h.tasks h.printable.steps.few

  pub in_array : n ≤ length x.doors
  in_array = rw (h.hand, (read_holds n q few).size) few

  pub as_many_doors : n ≡ length (take n x.doors)
  as_many_doors = sym (length-take-le n x.doors in_array)

  doors_are : take n x.doors ≡ (plan_in b q).doors
  unfolding plan_in
  doors_are = ap (λ (y : PlanInHand). take n y.doors) h.hand ∙ in_hand_doors n q few ∙ ap (λ (m : ℕ). doors_in m q) h.tasks

  cost_is : x.cost ≡ plan_cost (decode b) (plan_in b q)
  cost_is = ap (λ (y : PlanInHand). y.cost) h.hand ∙ in_hand_cost n q few ∙ ap (λ (m : ℕ). cost_in m q) h.tasks ∙ h.printable.right

  pub steps : Steps b (take n x.doors)
  steps = rw doors_are h.printable.steps

  -- behind the lines of cost and start there is room for the steps, and with them they are those of the plan
  module _ {s : ℕ} {a c : List ℕ} {m : ℕ} (head : Laid 0 (head_lines x.cost s) a c m) where
    pub steps_room : max_text ≤ length a → x.cost < 2 ^ 64 → s < 2 ^ 64 → m + max_step * max_plan_doors ≤ length c
    steps_room room k l = behind head (max_step * max_plan_doors) (omega (arith, long_head x.cost s k l))

    plan_is : s ≡ start_in q → plan_lines (decode b) (plan_in b q) ≡ head_lines x.cost s ++ step_lines (decode b) (take n x.doors)
    unfolding plan_lines plan_in
    plan_is e = rw (cost_is, e, doors_are) (ap (λ xs. xs ++ step_lines (decode b) (plan_in b q).doors) (sym (head_is _ (start_in q))))

    pub plan_laid : {d : List ℕ} {e : ℕ} → s ≡ start_in q
        → Laid m (step_lines (decode b) (take n x.doors)) c d e → Laid 0 (plan_lines (decode b) (plan_in b q)) a d e
    plan_laid e lines = laid_as (plan_is e) (laid_on head lines)
