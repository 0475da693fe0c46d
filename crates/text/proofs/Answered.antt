-- What planning left in a buffer with room for any plan is printed: a refusal as its line, and a plan as it stands in the bytes. Assumes nothing.
use Rattle.model.proofs.Basics.{◌≡◌, refl, sym, ap, ◌∙◌, true, List, [], ◌∷◌, ◌++◌, some, ℕ, ◌+◌, ◌*◌, ◌^◌, ◌<◌, arith, length, get_or}
use Rattle.model.proofs.Basics.{are_bytes}
use Rattle.model.specs.{map_below, Plan, is_solution, plan_cost, cheapest, overwrite, refused, accepted, decode, max_plan_doors, plan_start_at}
use Rattle.model.specs.{plan_doors_at, plan_cost_at, plan_length, plan_bytes, start_in, door_in, doors_in, cost_in, plan, refusal_line, plan_lines}
use Rattle.model.specs.{printed_with}
use Rattle.model.proofs.Tools.Folds.{flat_cong, length_map_below}
use Rattle.model.proofs.Theory.Solutions.{SolutionTests, solution, solution_length, solution_fits}
use Rattle.model.proofs.Theory.Cheapest.{cheapest_solution}
use Rattle.model.proofs.Theory.Bounds.{round_small}
use Rattle.model.proofs.Theory.Starts.{solution_completes}
use Rattle.model.proofs.Bytes.Numbers.{number_front}
use Rattle.model.proofs.Bytes.PlanBytes.{length_plan, start_again, doors_again, cost_again}
use Rattle.model.proofs.Calls.Reading.{Reads, counts_read}
use Rattle.model.proofs.Calls.Planning.{plannable}
use Rattle.model.proofs.Calls.Printing.{prints_refusal, prints_plan}
use Rattle.sheet.proofs.Laid.{viewed, reads_laid}
use Rattle.text.specs.Steps.{plan_in, Printable}

-- ---- a plan at the front of longer bytes

module _ (n s : ℕ) (ds : List ℕ) (c : ℕ) (more : List ℕ) where
  start_front : s < 2 ^ 16 → start_in (plan_bytes n s ds c ++ more) ≡ s
  unfolding start_in plan_length plan_cost_at plan_doors_at
  start_front h = number_front 2 (plan_bytes n s ds c) more plan_start_at (omega (arith, length_plan n s ds c)) ∙ start_again n s ds c h

  cost_front : c < 2 ^ 64 → cost_in n (plan_bytes n s ds c ++ more) ≡ c
  unfolding cost_in plan_length
  cost_front h = number_front 8 (plan_bytes n s ds c) more (plan_cost_at n) (omega (arith, length_plan n s ds c)) ∙ cost_again n s ds c h

  doors_front : length ds ≡ n → ((i : ℕ) → i < n → get_or ds i 0 < 2 ^ 16) → doors_in n (plan_bytes n s ds c ++ more) ≡ ds
  unfolding doors_in door_in plan_length plan_cost_at map_below
  doors_front e h =
      flat_cong n _ _ (λ i l. ap (λ (x : ℕ). x ∷ []) (number_front 2 (plan_bytes n s ds c) more (plan_doors_at + 2 * i) (omega (arith, length_plan n s ds c))))
      ∙ doors_again n s ds c e h

-- ---- after planning

-- the plan x of the sheet b, which is the cheapest and costs c, was written to a buffer, which is q now
record Written (b : List ℕ) (x : Plan) (c : ℕ) (q : List ℕ) : Type 0 where
  pub bytes : are_bytes b ≡ true
  pub reads : Reads b
  pub best : cheapest (decode b) ≡ some x
  pub cost : plan_cost (decode b) x ≡ c
  pub buffer : List ℕ
  pub written : q ≡ overwrite (plan_bytes (decode b).tasks x.start x.doors c) buffer

module _ {b : List ℕ} {x : Plan} {c : ℕ} {q : List ℕ} (w : Written b x c q) where
  is : is_solution (decode b) x.start x.doors ≡ true
  is = cheapest_solution (decode b) x w.best

  solves : SolutionTests (decode b) x.start x.doors
  solves = solution (decode b) x.start x.doors is

  small : (x.start < 2 ^ 16) × ((i : ℕ) → i < (decode b).tasks → get_or x.doors i 0 < 2 ^ 16)
  small = solution_fits (decode b) (counts_read b w.reads) x.start x.doors solves

  cost_fits : c < 2 ^ 64
  unfolding plan_cost
  cost_fits = omega (arith, round_small b w.bytes (counts_read b w.reads) x.start x.doors is, w.cost)

  -- the bytes hold that plan
  held_is : plan_in b q ≡ x
  unfolding plan_in overwrite
  held_is =
      let n = (decode b).tasks in
      let start = ap start_in w.written ∙ start_front n x.start x.doors c _ small.0 in
      let doors = ap (doors_in n) w.written ∙ doors_front n x.start x.doors c _ (solution_length (decode b) _ _ solves) small.1 in
      λ j. record { start = start j; doors = doors j }

  -- which can be printed
  can_print : Printable b q
  unfolding overwrite
  can_print =
      let few = (counts_read b w.reads).tasks in
      let G = plannable b w.reads in
      record {
        steps = rw held_is (record {
          view = viewed (reads_laid w.reads) refl;
          ranges = G.ranges;
          few = few;
          few_doors = rw (solution_length (decode b) _ _ solves) few;
          completion = sym (solution_completes (decode b) G x.start x.doors solves.start) ∙ is;
        });
        right = rw (held_is, w.written, w.cost) (cost_front (decode b).tasks x.start x.doors c _ cost_fits);
      }

-- ---- what `answer_lines` has after planning with an empty buffer for the plan

abbrev pub no_plan : List ℕ
no_plan = map_below (plan_length max_plan_doors) (λ i. 0)

as_long : length no_plan ≡ plan_length max_plan_doors
as_long = length_map_below (plan_length max_plan_doors) (λ i. 0)

module _ (b cells : List ℕ) where
  -- a refusal is printed as its line
  pub refusal_printed : {r : ℕ} → refused r ≡ (plan b cells no_plan).answer → printed_with (length cells) b ≡ refusal_line r
  refusal_printed {r} e = prints_refusal b cells no_plan as_long r (sym e)

  -- a plan as the bytes hold it
  module _ (bytes : are_bytes b ≡ true) {c : ℕ} {q : List ℕ} (e : accepted c ≡ (plan b cells no_plan).answer)
      (w : q ≡ (plan b cells no_plan).bytes) where
    left : (x : Plan) × (printed_with (length cells) b ≡ plan_lines (decode b) x) × Written b x c q
    left =
        let g = prints_plan b cells no_plan as_long c (sym e) in
        (g.0, g.2, record { bytes = bytes; reads = g.4; best = g.5; cost = g.1; buffer = no_plan; written = w ∙ g.3 })

    pub plan_held : Printable b q
    plan_held = can_print left.2

    pub plan_printed : printed_with (length cells) b ≡ plan_lines (decode b) (plan_in b q)
    plan_printed = left.1 ∙ ap (plan_lines (decode b)) (sym (held_is left.2))
