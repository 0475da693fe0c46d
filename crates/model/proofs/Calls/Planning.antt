-- What planning answers and leaves in cells and buffer; a sheet that reads has a plan, as every list has a completion. Assumes nothing.
use Rattle.model.proofs.Basics.{◌≡◌, refl, sym, ap, ◌∙◌, ◌⊎◌, inl, inr, ⊎_elim, Bool, true, false, List, Option, none, some, ℕ, ◌+◌, ◌*◌}
use Rattle.model.proofs.Basics.{◌/◌, ◌^◌, ◌≤◌, ◌<◌, le-div_iff_mul-le, arith, ltb, length, get_or, List·getD-eq-default, ltb-true}
use Rattle.model.proofs.Basics.{ltb-false, lt-ltb, le-ltb, digits_div, digits_mod}
use Rattle.model.specs.{Sheet.Sheet, Answer.Answer, pairs_allow, Plan, plan_cost, cheapest, cost_to_go, refused, accepted, refuse_if}
use Rattle.model.specs.{layout_of, decode, plan_length, short_room, cells_needed, few_cells, room_tests, or_no_order, plan_for}
use Rattle.model.specs.{cell_after, cells_after, carried_out, plan, full, Plannable, unless_fault}
use Rattle.model.proofs.Tools.Refusing.{refused≢accepted, refused_number, accepted_value, accepted_pass}
use Rattle.model.proofs.Calls.Reading.{Reads, counts_read, accepted_reads, refused_reads}
use Rattle.model.proofs.{Tools.Folds.length_map_below, Tools.Folds.map_below_at, Tools.Tests.by_test, Theory.Cheapest.cheapest_some}
use Rattle.model.proofs.{Theory.Driving.has_completion, Theory.Starts.solution_completes, Bytes.Ranges.in_range, Bytes.Ranges.served}

-- ---- cells

module _ (S : Sheet) (cells : List ℕ) where
  pub length_cells : length (cells_after S cells) ≡ length cells
  unfolding cells_after
  length_cells = length_map_below (length cells) _

  cell_at : (i d : ℕ) → i < length cells → get_or (cells_after S cells) i d ≡ cell_after S i (get_or cells i 0)
  unfolding cells_after
  cell_at i d l = map_below_at (length cells) _ i d l

  module _ (K p : ℕ) (point : p < S.points) (list : K < 2 ^ S.tasks) (room : K * S.points + p < length cells) where
    -- the cell of a list that the pairs allow shows the cost to go
    pub cell_shown : pairs_allow S K ≡ true → get_or (cells_after S cells) (K * S.points + p) 0 ≡ cost_to_go S K p
    unfolding cell_after
    cell_shown a = cell_at (K * S.points + p) 0 room ∙ rw (digits_div K point, digits_mod K point, lt-ltb K (2 ^ S.tasks) list, a)

    -- the cell of another list keeps its number
    pub cell_kept : pairs_allow S K ≡ false → get_or (cells_after S cells) (K * S.points + p) 0 ≡ get_or cells (K * S.points + p) 0
    unfolding cell_after
    cell_kept a = cell_at (K * S.points + p) 0 room ∙ rw (digits_div K point, lt-ltb K (2 ^ S.tasks) list, a)

  -- so does a cell beyond
  pub cell_beyond : (i : ℕ) → 0 < S.points → 2 ^ S.tasks * S.points ≤ i → get_or (cells_after S cells) i 0 ≡ get_or cells i 0
  unfolding cell_after
  cell_beyond i h l = by_test (ltb i (length cells))
      (λ w. cell_at i 0 (ltb-true i (length cells) w) ∙ rw (le-ltb (i / S.points) (2 ^ S.tasks) ((le-div_iff_mul-le h).1 l)))
      (λ w. let o : length cells ≤ i = ltb-false i (length cells) w in
      List·getD-eq-default (cells_after S cells) 0 (rw length_cells o) ∙ sym (List·getD-eq-default cells 0 o))

-- ---- the answer

-- with room for the cells and for the bytes, the sheet's own numbers are left
pub plan_for_lem : (b : List ℕ) (cells room : ℕ) → cells_needed (decode b) ≤ cells → plan_length (decode b).tasks ≤ room
    → plan_for b cells room ≡ unless_fault b (or_no_order (cheapest (decode b)))
unfolding plan_for room_tests few_cells short_room
plan_for_lem b cells room c r = rw (le-ltb cells (cells_needed (decode b)) c, le-ltb room (plan_length (decode b).tasks) r)

-- a plan is carried out; a refusal leaves cells and buffer as they were
pub planned : (b cells buffer : List ℕ) (x : Plan) → plan_for b (length cells) (length buffer) ≡ accepted x
    → plan b cells buffer ≡ carried_out (decode b) (accepted x) cells buffer
unfolding plan
planned b cells buffer x e = ap (λ a. carried_out (decode b) a cells buffer) e

pub plan_refused : (b cells buffer : List ℕ) (r : ℕ) → plan_for b (length cells) (length buffer) ≡ refused r
    → plan b cells buffer ≡ record { answer = refused r; cells = cells; bytes = buffer }
unfolding plan
plan_refused b cells buffer r e = ap (λ a. carried_out (decode b) a cells buffer) e

-- the answer is that of the plan
pub refused_planned : (b cells buffer : List ℕ) (r : ℕ) → (plan b cells buffer).answer ≡ refused r → plan_for b (length cells) (length buffer) ≡ refused r
unfolding plan
refused_planned b cells buffer r = go (plan_for b (length cells) (length buffer))
  where
    go : (a : Answer Plan) → (carried_out (decode b) a cells buffer).answer ≡ refused r → a ≡ refused r
    go (refused n) e = ap refused (refused_number e)
    go (accepted x) e = absurd (refused≢accepted (sym e))

pub accepted_planned : (b cells buffer : List ℕ) (c : ℕ) → (plan b cells buffer).answer ≡ accepted c
    → (x : Plan) × (plan_for b (length cells) (length buffer) ≡ accepted x) × (plan_cost (decode b) x ≡ c)
unfolding plan
accepted_planned b cells buffer c = go (plan_for b (length cells) (length buffer))
  where
    go : (a : Answer Plan) → (carried_out (decode b) a cells buffer).answer ≡ accepted c → (x : Plan) × (a ≡ accepted x) × (plan_cost (decode b) x ≡ c)
    go (refused n) e = absurd (refused≢accepted e)
    go (accepted x) e = (x, refl, accepted_value e)

-- a plan that is answered is the cheapest, of a sheet that reads
pub accepted_plan : (b : List ℕ) (cells room : ℕ) (x : Plan) → plan_for b cells room ≡ accepted x → Reads b × (cheapest (decode b) ≡ some x)
unfolding plan_for room_tests
accepted_plan b cells room x e =
    let r = accepted_reads b _ x e in
    (r.0, go (cheapest (decode b)) (accepted_pass (room_tests (decode b) cells room) _ x r.1).1)
  where
    go : (o : Option Plan) → or_no_order o ≡ accepted x → o ≡ some x
    go none h = absurd (refused≢accepted h)
    go (some y) h = ap some (accepted_value h)

-- what planning refuses with: the sheet's own numbers, 20 and 21
pub plan_refusals : (b : List ℕ) (cells room r : ℕ) → plan_for b cells room ≡ refused r → ((10 ≤ r) × (r ≤ 17)) ⊎ ((r ≡ 20) ⊎ (r ≡ 21))
unfolding plan_for room_tests
plan_refusals b cells room r e = ⊎_elim inl
    (λ h. go (few_cells (decode b) cells) (short_room (decode b).tasks room) (cheapest (decode b)) h.1) (refused_reads b _ r e)
  where
    go : (t u : Bool) (o : Option Plan) → refuse_if t 20 (refuse_if u 21 (or_no_order o)) ≡ refused r → ((10 ≤ r) × (r ≤ 17)) ⊎ ((r ≡ 20) ⊎ (r ≡ 21))
    go true u o q = inr (inl (sym (refused_number q)))
    go false true o q = inr (inr (sym (refused_number q)))
    go false false none q = inl (omega (arith, refused_number q))
    go false false (some x) q = absurd (refused≢accepted (sym q))

-- ---- a sheet that reads has a plan

pub plannable : (b : List ℕ) → Reads b → Plannable (decode b)
plannable b h = record {
  ranges = in_range (layout_of b) (decode b) h.passed_tests.ranges;
  doors = served (decode b) h.passed_tests.doors;
  ordered = h.ordered;
}

pub has_plan : (b : List ℕ) → Reads b → (x : Plan) × (cheapest (decode b) ≡ some x)
has_plan b h =
    let G : Plannable (decode b) = plannable b h in
    let c = has_completion (decode b) G (full (decode b).tasks) in
    cheapest_some (decode b) 0 c.0 (solution_completes (decode b) G 0 c.0 (counts_read b h).one_start ∙ c.1)
